-- The rows of a table that is there, and of one that is not.
use Prim.Native.Nat.{ℕ, ◌<◌, ◌≤◌}
use native.Mathlib.Omega.{arith}
use mathlib.Core.Bool.{Bool, true, false}
use mathlib.Core.List.{List, [], map}
use mathlib.Core.Path.{◌≡◌, refl, ◌∙◌, ap}
use lib.Dec.{ltb, ltb→lt, nltb→le}
use lib.IntN.{ℤ}
use lib.ListN.{length}
use Rattle.model.specs.Lists.{range}
use Rattle.model.specs.Tables.{tables, rows, table_row, table_rows}
use Rattle.model.proofs.Lists.{map-length}
use Rattle.model.proofs.Tests.{range_length}

pub rows-there : (d : List ℤ) (t : ℕ) → t < tables d → table_rows d t ≡ map (table_row d t) (range 0 (rows d t))
unfolding table_rows
rows-there d t h = go (ltb t (tables d)) refl
  where
    go : (b : Bool) → ltb t (tables d) ≡ b → table_rows d t ≡ map (table_row d t) (range 0 (rows d t))
    go true e = rw (e, table_rows)
    go false e = absurd (let l = nltb→le t (tables d) (rw e tt) in omega arith)

pub rows-absent : (d : List ℤ) (t : ℕ) → tables d ≤ t → table_rows d t ≡ []
unfolding table_rows
rows-absent d t h = go (ltb t (tables d)) refl
  where
    go : (b : Bool) → ltb t (tables d) ≡ b → table_rows d t ≡ []
    go true e = absurd (let l = ltb→lt t (tables d) (rw e tt) in omega arith)
    go false e = rw (e, table_rows)

pub table-length : (d : List ℤ) (t : ℕ) → t < tables d → length (table_rows d t) ≡ rows d t
table-length d t h =
    ap length (rows-there d t h) ∙ map-length (table_row d t) (range 0 (rows d t)) ∙ range_length 0 (rows d t)
