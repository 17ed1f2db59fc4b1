-- The place of a table: its sum, kept within the slice, reads the same words.
--   first-begin, first_next, first-within   the loop that adds up the tables
--   beyond                               a place past the end reads 0
--   value_behind                         a column begins with its first cell
--   value_cell                           a value in a column is the model's cell
use Prim.Native.Nat.{ℕ, suc, ◌+◌, ◌*◌, ◌<◌, ◌≤◌, min}
use native.Mathlib.Nat.{mul-le-mul}
use native.Mathlib.Numerals.{add-one}
use native.Mathlib.Omega.{arith}
use mathlib.Core.Bool.{Bool, true, false}
use mathlib.Core.List.{List}
use mathlib.Core.Path.{◌≡◌, refl, sym, ◌∙◌, ap}
use borrow.Author.Tests.{ltb-true, ltb-false}
use lib.Dec.{ltb}
use lib.IntN.{ℤ, pos}
use lib.ListN.{length, drop, get_or-eq_default}
use Rattle.model.specs.Tables.{word, tables, columns, rows, table_at, row_step, column_step, cell}
use Rattle.model.proofs.TableEquations.{cells_before-first, cells_before_next, table_at_is}
use Rattle.model.proofs.TableEquations.{cell_is, row_step_is, column_step_is}
use Rattle.tables.specs.Places.{first_cell, place_of, column_of, from_start, value_in}
use Rattle.std.proofs.lemmas.Grind.{common_steps}
use Rattle.tables.specs.declared.Column.{Column}
use Rattle.tables.specs.declared.Place.{Place}

-- a row number and a step: their product fits
pub step_small : (r s : ℕ) → r < 65536 → s < 4294967296 → r * s ≤ 281474976710656
step_small r s h k =
    let p : r ≤ 65536 = omega arith in let q : s ≤ 4294967296 = omega arith in mul-le-mul p q

module _ (d : List ℤ) where
  pub first-begin : min (1 + 2 * tables d) (length d + 1) ≡ first_cell d 0
  unfolding first_cell
  first-begin = omega (arith, table_at_is d 0, cells_before-first d)

  pub first_next : (t : ℕ) → min (first_cell d t + columns d t * rows d t) (length d + 1) ≡ first_cell d (t + 1)
  unfolding first_cell
  first_next t = rw (add-one t) (omega (arith, table_at_is d t, table_at_is d (suc t), cells_before_next d t))

  pub first-within : (t : ℕ) → first_cell d t ≤ length d + 1
  unfolding first_cell
  first-within t = omega arith

  pub beyond : (i : ℕ) → length d ≤ i → pos 0 ≡ word d i
  beyond i h = sym (get_or-eq_default d (pos 0) h)

  -- no further than one past the end is as good as further
  first_reads : (t x : ℕ) → word d (first_cell d t + x) ≡ word d (table_at d t + x)
  unfolding first_cell
  first_reads t x = go (ltb (length d) (table_at d t)) refl
    where
      go : (b : Bool) → ltb (length d) (table_at d t) ≡ b
          → word d (min (table_at d t) (length d + 1) + x) ≡ word d (table_at d t + x)
      go true e =
          let l = ltb-true (length d) (table_at d t) e in
          sym (beyond (min (table_at d t) (length d + 1) + x) (omega arith)) ∙ beyond (table_at d t + x) (omega arith)
      go false e =
          let l = ltb-false (length d) (table_at d t) e in
          ap (λ i. word d (i + x)) (let h : min (table_at d t) (length d + 1) ≡ table_at d t = omega arith in h)

  -- the slice from the column's first cell on holds the column
  pub value_behind : (k : Column) (r : ℕ) → value_in (drop k.first d) (from_start k.step) r ≡ value_in d k r
  unfolding value_in
  value_behind k r = grind (arith, common_steps)

  pub value_cell : (t c r : ℕ) → value_in d (column_of (place_of d t) c) r ≡ cell d t r c
  unfolding value_in column_of place_of
  value_cell t c r =
      ap (word d) (let h : first_cell d t + c * column_step d t + r * row_step d t
      ≡ first_cell d t + (r * row_step d t + c * column_step d t) = omega arith in h)
      ∙ first_reads t (r * row_step d t + c * column_step d t)
      ∙ ap (word d) (let h : table_at d t + (r * row_step d t + c * column_step d t)
      ≡ table_at d t + r * row_step d t + c * column_step d t = omega arith in h)
      ∙ sym (cell_is d t r c)

  pub placed : (t base down : ℕ) → base ≡ first_cell d t → down ≡ columns d t
      → ◌≡◌ {A = Place} (record { base = base; down = down; across = 1 }) (place_of d t)
  unfolding place_of
  placed t base down e f = cc (row_step_is d t, column_step_is d t)

  pub base_within : (t : ℕ) → (place_of d t).base ≤ length d + 1
  unfolding place_of
  base_within t = first-within t
