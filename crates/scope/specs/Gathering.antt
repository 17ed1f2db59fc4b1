-- The numbers that elements hold, by their places in the bytes: what the loops of this crate walk through.
--   takes k n                   an element of kind number n is what k looks for
--   number_of k e               the number that such an element holds: a variable, or the block of an aggregate
--   holds_at k bs i v           the element at place i is of kind k and holds v
--   elements_hold k bs n i v    one of n elements from place i on has
--   row_holds k bs i v          an element of the relation row at place i has; condition_holds: of the condition there
--   rows_hold k bs n i v        an element of one of n relation rows from place i on has
--   conditions_hold k bs n i v  an element of one of n conditions from place i on has
use Rattle.std.specs.Prelude.{ℕ, zero, suc, ◌+◌, Bool, false, ◌&&◌, ◌||◌, List, eqb, ltb}
use Rattle.syntax.specs.Places.{byte_at, item_at, record_end, condition_end}
use Rattle.syntax.specs.declared.Item.{Item}
use Rattle.syntax.specs.declared.Record.TheVariants.{Rw}
use Rattle.scope.specs.declared.Kind.{Kind}
use Rattle.scope.specs.declared.Kind.TheVariants.{Variable, Fixed, Aggregate}

abbrev pub takes : Kind → ℕ → Bool
takes Variable k = eqb k 2
takes Fixed k = eqb k 3
takes Aggregate k = ltb 3 k

abbrev pub number_of : Kind → Item → ℕ
number_of Variable e = e.argument
number_of Fixed e = e.argument
number_of Aggregate e = e.block

unfoldable pub holds_at : Kind → List ℕ → ℕ → ℕ → Bool
holds_at k bs i v = takes k (byte_at bs i) && eqb v (number_of k (item_at bs i))

unfoldable pub elements_hold : Kind → List ℕ → (n i v : ℕ) → Bool
elements_hold k bs zero i v = false
elements_hold k bs (suc n) i v = holds_at k bs i v || elements_hold k bs n (i + 9) v

-- one of n records from place i on holds v, where held tells of each, and next where the one after it stands
unfoldable pub records_hold : (ℕ → ℕ → Bool) → (ℕ → ℕ) → (n i v : ℕ) → Bool
records_hold held next zero i v = false
records_hold held next (suc n) i v = held i v || records_hold held next n (next i) v

abbrev pub row_holds : Kind → List ℕ → (i v : ℕ) → Bool
row_holds k bs i v = elements_hold k bs (byte_at bs (i + 3)) (i + 4) v

abbrev pub condition_holds : Kind → List ℕ → (i v : ℕ) → Bool
condition_holds k bs i v = elements_hold k bs 2 (i + 3) v

abbrev pub rows_hold : Kind → List ℕ → (n i v : ℕ) → Bool
rows_hold k bs = records_hold (row_holds k bs) (record_end Rw bs)

abbrev pub conditions_hold : Kind → List ℕ → (n i v : ℕ) → Bool
conditions_hold k bs = records_hold (condition_holds k bs) (condition_end bs)
