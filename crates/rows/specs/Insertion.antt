-- Looking a row up in a set and putting it in: the answer and every word after it, for every argument. Where the words
-- encode an ascending set of the model, this is the model's insertion (proofs/Inserting.antt: outcome, encodes_after).
--   Added               what a search and an insertion answer
--   compare_from n x i l j   n values of x from place i against those of l from place j: the first order that
--                          is not Equal; None where a value is outside the bounds
--   at_place n x l r         the candidate x against row r of l
--   lower o m lo, upper o m hi   the ends lo and hi after the order o at row m; middle lo hi: the row halfway
--   turn_of o m p            the place m where o is Equal, Outside where o is None, else p
--   bisect at f lo hi       bisection between lo and hi by the orders of at, in at most f steps
--   fits_in n count w x      1 ≤ n ≤ 4, at most 256 rows, w places for them and x for a candidate
--   find_of n count l x      where the candidate stands or belongs
--   as_new n count w k       what becomes of a new row k: Large for the 257th, Refused where w places are too few
--   by_place n count w p     what becomes of a row with place p
--   added_of n count l x     what becomes of the candidate
--   words_after n count l x a  the words after the answer a
use Rattle.std.specs.Prelude.{ℕ, zero, suc, ◌+◌, ◌*◌, ◌-◌, ◌/◌, Bool, ◌&&◌, cond, List, leb, ltb, length, ℤ}
use Rattle.std.specs.Prelude.{Option, None, Some, Result, Ok, Err}
use Rattle.std.specs.Ordering.{partial_ordering_then}
use Rattle.std.specs.declared.cmp.Ordering.{Ordering}
use Rattle.std.specs.declared.cmp.Ordering.TheVariants.{Less, Equal, Greater}
use Rattle.std.proofs.Math.Seq.{paste}
use Rattle.value.specs.Exact.{order_of}
use Rattle.words.specs.Words.{room_of, words_of, value_at, shifted}
use Rattle.rows.specs.declared.Place.{Place}
use Rattle.rows.specs.declared.Place.TheVariants as place
use Rattle.rows.specs.declared.Fault.{Fault}
use Rattle.rows.specs.declared.Fault.TheVariants as fault

abbrev pub Added : Type 0
Added = Result Place Fault

unfoldable pub compare_from : ℕ → List ℤ → ℕ → List ℤ → ℕ → Option Ordering
compare_from zero x i l j = Some Equal
compare_from (suc n) x i l j =
    partial_ordering_then (order_of (value_at x i) (value_at l j)) (compare_from n x (i + 1) l (j + 1))

unfoldable pub at_place : ℕ → List ℤ → List ℤ → ℕ → Option Ordering
at_place n x l r = compare_from n x 0 l (r * n)

abbrev pub lower : Option Ordering → ℕ → ℕ → ℕ
lower None mid lo = lo
lower (Some Less) mid lo = lo
lower (Some Equal) mid lo = lo
lower (Some Greater) mid lo = mid + 1

abbrev pub upper : Option Ordering → ℕ → ℕ → ℕ
upper None mid hi = mid
upper (Some Less) mid hi = mid
upper (Some Equal) mid hi = mid
upper (Some Greater) mid hi = hi

abbrev pub middle : ℕ → ℕ → ℕ
middle lo hi = lo + (hi - lo) / 2

abbrev pub turn_of : Option Ordering → ℕ → Added → Added
turn_of None mid p = Err fault.Outside
turn_of (Some Less) mid p = p
turn_of (Some Equal) mid p = Ok (place.There mid)
turn_of (Some Greater) mid p = p

unfoldable pub bisect : (ℕ → Option Ordering) → ℕ → ℕ → ℕ → Added
bisect at zero lo hi = Ok (place.New lo)
bisect at (suc f) lo hi =
    cond (ltb lo hi)
    (turn_of (at (middle lo hi)) (middle lo hi)
    (bisect at f (lower (at (middle lo hi)) (middle lo hi) lo) (upper (at (middle lo hi)) (middle lo hi) hi)))
    (Ok (place.New lo))

unfoldable pub fits_in : ℕ → ℕ → ℕ → ℕ → Bool
fits_in n count w x = leb 1 n && (leb n 4 && (leb count 256 && (leb n x && leb (count * n) w)))

unfoldable pub find_of : ℕ → ℕ → List ℤ → List ℤ → Added
find_of n count l x =
    cond (fits_in n count (room_of (length l)) (room_of (length x))) (bisect (at_place n x l) count 0 count)
    (Err fault.Refused)

unfoldable pub as_new : ℕ → ℕ → ℕ → ℕ → Added
as_new n count w k =
    cond (leb 256 count) (Err fault.Large) (cond (leb ((count + 1) * n) w) (Ok (place.New k)) (Err fault.Refused))

abbrev pub by_place : ℕ → ℕ → ℕ → Added → Added
by_place n count w (Ok (place.New k)) = as_new n count w k
by_place n count w (Ok (place.There k)) = Ok (place.There k)
by_place n count w (Err f) = Err f

unfoldable pub added_of : ℕ → ℕ → List ℤ → List ℤ → Added
added_of n count l x = by_place n count (room_of (length l)) (find_of n count l x)

unfoldable pub words_after : ℕ → ℕ → List ℤ → List ℤ → Added → List ℤ
words_after n count l x (Ok (place.New k)) =
    paste (shifted (words_of (k * n)) (words_of (count * n)) (words_of n) l) (words_of (k * n)) x (words_of n)
words_after n count l x (Ok (place.There k)) = l
words_after n count l x (Err f) = l
