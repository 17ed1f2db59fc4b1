-- What causes 3 and 4 that do not apply say of the counts and of the places of cells.
--   Laid d           counts in their ranges, the cells end with the slice
--   accepted-laid    so where the check gives 0
--   cell-inside      every cell lies inside the slice
--   first-exact      no place of a table is moved to the end
use Prim.Native.Nat.{ℕ, zero, suc, ◌+◌, ◌*◌, ◌-◌, ◌<◌, ◌≤◌, zero-le}
use native.Mathlib.Nat.{add-zero, add-suc, add-sub_of_le, suc-mul, mul_comm, mul-le-mul_right}
use native.Mathlib.Omega.{arith}
use mathlib.Core.Bool.{◌&&◌}
use mathlib.Core.List.{List, [], append-nil}
use mathlib.Core.Path.{◌≡◌, sym, subst}
use lib.Dec.{T, leb, eqb, leb→le, eqb→eq}
use lib.IntN.{ℤ, pos, negsuc}
use lib.ListN.{length}
use Rattle.model.specs.Lists.{all, range}
use Rattle.model.specs.Refusal.{first_of, data_causes}
use Rattle.model.specs.Tables.{word, nat_of, tables, columns, rows, table_at, row_step, column_step, between}
use Rattle.model.specs.Tables.{laid_out}
use Rattle.model.proofs.RefusalLaws.{data_passes}
use Rattle.model.proofs.TableEquations.{tables_is, columns_is, rows_is, cells_before_next, table_at_is, laid_out_is}
use Rattle.model.proofs.TableEquations.{row_step_is, column_step_is}
use Rattle.model.proofs.Tests.{and_left, and_right, all-at, in-range}
use Rattle.tables.specs.Layout.{table_fits}
use Rattle.tables.specs.Places.{first_cell}

pub record Laid (d : List ℤ) : Type 0 where
  pub some-tables : 1 ≤ tables d
  pub few-tables : tables d ≤ 8
  pub some-columns : (t : ℕ) → t < tables d → 1 ≤ columns d t
  pub few-columns : (t : ℕ) → t < tables d → columns d t ≤ 8
  pub few-rows : (t : ℕ) → t < tables d → rows d t ≤ 256
  pub ends : length d ≡ table_at d (tables d)
  pub short : length d ≤ 16384

between_is : (a b : ℕ) (x : ℤ) → T (between a b x) → (a ≤ nat_of x) × (nat_of x ≤ b)
between_is a b (pos n) t =
    (leb→le a n (and_left (leb a n) (leb n b) t), leb→le n b (and_right (leb a n) (leb n b) t))
between_is a b (negsuc _) t = elim t [ ]

module _ (d : List ℤ) where
  module _ (laid : T (laid_out d)) where
    tests : T (between 1 8 (word d 0)
        && leb (1 + 2 * tables d) (length d)
        && all (table_fits d) (range 0 (tables d))
        && eqb (length d) (table_at d (tables d))
        && leb (length d) 16384)
    tests = subst T (laid_out_is d) laid

    counts : (t : ℕ) → t < tables d → T (table_fits d t)
    counts t h =
        all-at (table_fits d) (range 0 (tables d)) t (let s = tests in search (and_left, and_right))
        (in-range 0 (tables d) t zero-le (omega arith))

    columns-between : (t : ℕ) → t < tables d → (1 ≤ columns d t) × (columns d t ≤ 8)
    columns-between t h =
        rw (columns_is d t)
        (between_is 1 8 (word d (1 + 2 * t)) (and_left (between 1 8 (word d (1 + 2 * t))) _ (counts t h)))

    rows-between : (t : ℕ) → t < tables d → rows d t ≤ 256
    rows-between t h =
        rw (rows_is d t)
        (between_is 0 256 (word d (2 + 2 * t)) (and_right (between 1 8 (word d (1 + 2 * t))) _ (counts t h))).1

    tables-between : (1 ≤ tables d) × (tables d ≤ 8)
    tables-between =
        rw (tables_is d) (between_is 1 8 (word d 0) (let s = tests in search (and_left, and_right)))

    pub laid_out_lem : Laid d
    laid_out_lem = record {
      some-tables = tables-between.0;
      few-tables = tables-between.1;
      some-columns = λ t h. (columns-between t h).0;
      few-columns = λ t h. (columns-between t h).1;
      few-rows = rows-between;
      ends = eqb→eq (length d) (table_at d (tables d)) (let s = tests in search (and_left, and_right));
      short = leb→le (length d) 16384 (let s = tests in search (and_left, and_right));
    }

  pub accepted-laid : first_of (data_causes d) ≡ 0 → Laid d
  accepted-laid z =
      laid_out_lem (data_passes d [] (subst (λ cs. first_of cs ≡ 0) (sym (append-nil (data_causes d))) z)).0.laid

  -- ---- the places
  at_next : (t : ℕ) → table_at d (suc t) ≡ table_at d t + columns d t * rows d t
  at_next t = omega (arith, table_at_is d t, table_at_is d (suc t), cells_before_next d t)

  at_up : (t n : ℕ) → table_at d t ≤ table_at d (t + n)
  at_up t zero = subst (λ k. table_at d t ≤ table_at d k) (sym (add-zero t)) (omega arith)
  at_up t (suc n) =
      subst (λ k. table_at d t ≤ table_at d k) (sym (add-suc t n)) (omega (arith, at_next (t + n), at_up t n))

  at-ordered : (s t : ℕ) → s ≤ t → table_at d s ≤ table_at d t
  at-ordered s t h = subst (λ k. table_at d s ≤ table_at d k) (add-sub_of_le h) (at_up s (t - s))

  pub first-exact : Laid d → (t : ℕ) → t ≤ tables d → first_cell d t ≡ table_at d t
  unfolding first_cell
  first-exact l t h = omega (arith, at-ordered t (tables d) h, l.ends)

  pub cell-inside : Laid d → (t r c : ℕ) → t < tables d → r < rows d t → c < columns d t
      → table_at d t + r * row_step d t + c * column_step d t < length d
  cell-inside l t r c ht hr hc =
      rw (row_step_is d t, column_step_is d t)
      (omega (arith, at-ordered (suc t) (tables d) ht, at_next t, l.ends, area (columns d t) (rows d t) r hr))
    where
      area : (w n r : ℕ) → r < n → r * w + w ≤ w * n
      area w n r h =
          subst (λ k. r * w + w ≤ k) (mul_comm n w)
          (subst (λ k. k ≤ n * w) (suc-mul r w) (mul-le-mul_right w h))
