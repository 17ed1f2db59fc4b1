-- The value that a group tells, by its cases. Assumes nothing.
use Prim.Native.Nat.{ℕ, ◌<◌}
use mathlib.Core.Bool.{true, false, ◌&&◌}
use mathlib.Core.List.{List}
use mathlib.Core.Path.{◌≡◌, refl, sym, ap, ◌∙◌}
use borrow.Author.Tests.{ltb-true}
use lib.Dec.{ltb}
use lib.IntN.{ℤ}
use Rattle.words.specs.Words.{read_at}
use Rattle.syntax.proofs.Laws.{both}
use Rattle.value.specs.Exact.{empty_of}
use Rattle.value.specs.declared.Value.{Value}
use Rattle.groups.specs.Asking.{slot_of}
use Rattle.groups.specs.Groups.{group_of, slot_place, aggregate_at}
use Rattle.groups.specs.declared.Asked.{Asked}
use Rattle.groups.specs.declared.Groups.{Groups}

-- there is a group and a slot
pub told : (n m : ℕ) → ltb n 256 && ltb m 3 ≡ true → (n < 256) × (m < 3)
told n m e = let b = both (ltb n 256) (ltb m 3) e in (ltb-true n 256 b.0, ltb-true m 3 b.1)

-- the value that a group tells, and that of an empty set where it tells none
module _ (a : Asked) (fl : List ℤ) (g : Groups) (f k c : ℕ) where
  pub aggregate-told : (n m p : ℕ) (v : Value) → n ≡ group_of g k → m ≡ slot_of a k f c → p ≡ slot_place k n m
      → ltb n 256 && ltb m 3 ≡ true → v ≡ read_at fl p → v ≡ aggregate_at a fl g f k c
  unfolding aggregate_at
  aggregate-told n m p v dn dm dp e h = rw (sym dn, sym dm, e) (h ∙ ap (read_at fl) dp)

  pub aggregate-none : (n m : ℕ) → n ≡ group_of g k → m ≡ slot_of a k f c → ltb n 256 && ltb m 3 ≡ false
      → empty_of f ≡ aggregate_at a fl g f k c
  unfolding aggregate_at
  aggregate-none n m dn dm e = rw (sym dn, sym dm, e) refl
