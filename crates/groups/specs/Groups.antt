-- Where the aggregates of a block lie in the files: block k has the region of 1,024 values before which k - 1 others
-- lie. A region tells of 256 groups: first their marks, one after the other, then the values of their slots, three for
-- each group.
--   grouping gs                the groups gs of the blocks
--   group_of g k                the group that tells of block k, 256 past the fifth
--   mark_place k n              the place of the mark of group n of block k
--   slot_place k n i            the place of the value of its slot i
--   aggregate_at a fl g f k c   function f of column c of block k's set, as its group tells; where there is none,
--                              that of an empty set
use Rattle.std.specs.Prelude.{ℕ, ◌+◌, ◌*◌, ◌-◌, ◌&&◌, cond, List, ltb, ℤ, get_or}
use Rattle.buffers.specs.Parts.{file_places}
use Rattle.words.specs.Words.{read_at}
use Rattle.value.specs.Exact.{empty_of}
use Rattle.value.specs.declared.Value.{Value}
use Rattle.groups.specs.Asking.{slot_of}
use Rattle.groups.specs.declared.Asked.{Asked}
use Rattle.groups.specs.declared.Groups.{Groups}

abbrev pub grouping : List ℕ → Groups
grouping gs = record { at = gs }

abbrev pub group_of : Groups → ℕ → ℕ
group_of g k = get_or g.at k 256

abbrev pub mark_place : ℕ → ℕ → ℕ
mark_place k n = file_places * (k - 1) + n

abbrev pub slot_place : ℕ → ℕ → ℕ → ℕ
slot_place k n i = file_places * (k - 1) + 256 + 3 * n + i

unfoldable pub aggregate_at : Asked → List ℤ → Groups → ℕ → ℕ → ℕ → Value
aggregate_at a fl g f k c =
    cond (ltb (group_of g k) 256 && ltb (slot_of a k f c) 3)
    (read_at fl (slot_place k (group_of g k) (slot_of a k f c)))
    (empty_of f)
