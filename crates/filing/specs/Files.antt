-- The files in words. Block k's region is the 1,024 values from place 1024 * (k - 1) on, and tells of 256 groups: first
-- their marks, one after the other, then the values of their slots, three for each group. A group is filled where the
-- numerator of its mark is at least 1, so that a group is made empty by zeroing its mark alone.
--   is_filed fl k n             group n of block k is filled: its mark is at least 1
--   words_before k              the words before the region of block k; words_in n: those of n marks, 256 at most
--   emptied k n fl             the marks of the first n groups of block k made zero, fl itself where the words end
--                              before
--   told g                     the value of aggregate g, 0/0 where there is none
--   slot_value a k i m n s      what slot i of block k asks for, of the set of n rows and m columns in the words s
--   slot_filed a k g i m n s fl that value put into slot i of group g, fl itself where the slot asks for nothing
--   slots_filed a k g m n s fl  the three slots of group g filled; filed a k g m n s fl: these, and the mark; fl itself
--                              where g is past 255
--   filled_mark                 the mark of a filled group
--   region k fl                the words of the region of block k
use Rattle.std.specs.Prelude.{ℕ, ◌+◌, ◌*◌, ◌-◌, min, Bool, false, cond, List, ◌++◌, eqb, ltb, leb, ℤ, pos, length, take, drop}
use Rattle.std.specs.Int.Signed.{le_z}
use Rattle.buffers.specs.Parts.{file_part}
use Rattle.groups.specs.Asking.{function_at, column_at}
use Rattle.groups.specs.Groups.{mark_place, slot_place}
use Rattle.groups.specs.declared.Asked.{Asked}
use Rattle.aggregates.specs.Columns.{aggregate_in}
use Rattle.words.specs.Words.{read_at, words_with, words_zeroed}
use Rattle.std.specs.Prelude.{Result}
use Rattle.std.specs.Result.{result_unwrap_or}
use Rattle.aggregates.specs.declared.Fault.{Fault}
use Rattle.value.specs.declared.Value.{Value}

unfoldable pub is_filed : List ℤ → ℕ → ℕ → Bool
is_filed fl k n = cond (ltb n 256) (le_z (pos 1) (read_at fl (mark_place k n)).num) false

abbrev pub words_before : ℕ → ℕ
words_before k = file_part * (k - 1)

abbrev pub words_in : ℕ → ℕ
words_in n = 2 * min n 256

unfoldable pub emptied : ℕ → ℕ → List ℤ → List ℤ
emptied k n fl =
    cond (leb (words_before k + words_in n) (length fl))
    (take (words_before k) fl ++ words_zeroed (words_in n) (drop (words_before k) fl))
    fl

abbrev pub told : Result Value Fault → Value
told g = result_unwrap_or g (record { num = pos 0; den = pos 0 })

unfoldable pub slot_value : Asked → (k i columns count : ℕ) → List ℤ → Value
slot_value a k i columns count sets =
    told (aggregate_in (function_at a (3 * k + i)) (column_at a (3 * k + i)) columns count sets)

unfoldable pub slot_filed : Asked → (k n i columns count : ℕ) → List ℤ → List ℤ → List ℤ
slot_filed a k n i columns count sets fl =
    cond (eqb (function_at a (3 * k + i)) 255) fl
    (words_with fl (slot_place k n i) (slot_value a k i columns count sets))

unfoldable pub slots_filed : Asked → (k n columns count : ℕ) → List ℤ → List ℤ → List ℤ
slots_filed a k n columns count sets fl =
    slot_filed a k n 2 columns count sets
    (slot_filed a k n 1 columns count sets (slot_filed a k n 0 columns count sets fl))

abbrev pub filled_mark : Value
filled_mark = record { num = pos 1; den = pos 1 }

unfoldable pub filed : Asked → (k n columns count : ℕ) → List ℤ → List ℤ → List ℤ
filed a k n columns count sets fl =
    cond (ltb n 256) (words_with (slots_filed a k n columns count sets fl) (mark_place k n) filled_mark) fl

unfoldable pub region : ℕ → List ℤ → List ℤ
region k fl = take file_part (drop (words_before k) fl)
