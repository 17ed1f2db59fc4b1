-- The part of each work buffer that a level or a block has (01, "Causes of refusal": the lengths of the work buffers, which
-- are model/specs/Refusal).
--   set_part      the words of the set of one level: 256 rows of four values
--   file_part     the words of the aggregate file of one block; file_places: the values in these
--   index_part    the words of the index of one block
use Rattle.std.specs.Prelude.{ℕ}

abbrev pub set_part : ℕ
set_part = 2048

abbrev pub file_part : ℕ
file_part = 2048

abbrev pub file_places : ℕ
file_places = 1024

abbrev pub index_part : ℕ
index_part = 256
