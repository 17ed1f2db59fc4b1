-- Which aggregates name each block (01: "At most three aggregate elements name one block number").
--   no_ask                what asks for nothing; asked_at a j: what slot j asks for, nothing where there is none
--   function_at a j       the function in slot j, 255 where there is none; column_at a j: its column
--   asks_at a j f c       slot j asks for function f of column c
--   slot_of a k f c       which of the three slots of block k does, 3 where none does
use Rattle.std.specs.Prelude.{ℕ, ◌+◌, ◌*◌, Bool, ◌&&◌, cond, eqb, get_or}
use Rattle.groups.specs.declared.Ask.{Ask}
use Rattle.groups.specs.declared.Asked.{Asked}

abbrev pub no_ask : Ask
no_ask = record { function = 255; column = 255 }

abbrev pub asked_at : Asked → ℕ → Ask
asked_at a j = get_or a.slots j no_ask

abbrev pub function_at : Asked → ℕ → ℕ
function_at a j = (asked_at a j).function

abbrev pub column_at : Asked → ℕ → ℕ
column_at a j = (asked_at a j).column

abbrev pub asks_at : Asked → ℕ → ℕ → ℕ → Bool
asks_at a j f c = eqb (function_at a j) f && eqb (column_at a j) c

unfoldable pub slot_of : Asked → ℕ → ℕ → ℕ → ℕ
slot_of a k f c = cond (asks_at a (3 * k) f c) 0 (cond (asks_at a (3 * k + 1) f c) 1 (cond (asks_at a (3 * k + 2) f c) 2 3))
