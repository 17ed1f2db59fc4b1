-- Where a row stands within its set, and the answer of an insertion by the place. Assumes nothing.
use Prim.Native.Nat.{ℕ, ◌+◌, ◌*◌, ◌<◌, ◌≤◌}
use native.Mathlib.Nat.{mul-le-mul_right}
use native.Mathlib.Omega.{arith}
use mathlib.Core.List.{List}
use mathlib.Core.Bool.{Bool, true, false, ◌&&◌, cond}
use mathlib.Core.Path.{◌≡◌, refl, sym, ap, subst}
use lib.Dec.{T, leb, leb→le}
use lib.IntN.{ℤ}
use lib.ListN.{length}
use Rattle.std.specs.Prelude.{Result, Ok, Err}
use Rattle.rows.specs.declared.Place.{Place}
use Rattle.rows.specs.declared.Place.TheVariants as place
use Rattle.rows.specs.declared.Fault.{Fault}
use Rattle.rows.specs.declared.Fault.TheVariants as fault
use Rattle.rows.specs.Insertion.{fits_in, at_place, bisect, find_of, by_place, added_of}
use Rattle.rows.proofs.SearchLoop.{bisect_top}
use Rattle.value.proofs.Laws.{both}
use Rattle.words.specs.Words.{room_of}

-- row r of count rows stands within their places
pub place_fits : (r count n w : ℕ) → r < count → count * n ≤ w → r * n + n ≤ w
place_fits r count n w h k = omega (arith, mul-le-mul_right n h)

-- a place for a new row is given only where the arguments fit, and is no further than the end
pub new_within : (n count : ℕ) (l x : List ℤ) (k : ℕ) → find_of n count l x ≡ Ok (place.New k)
    → (k ≤ count) × (n ≤ 4) × (count ≤ 256) × (n ≤ room_of (length x))
unfolding find_of fits_in
new_within n count l x k e = go (fits_in n count (room_of (length l)) (room_of (length x))) refl e
  where
    fits : T (leb 1 n && (leb n 4 && (leb count 256 && (leb n (room_of (length x)) && leb (count * n) (room_of (length l))))))
        → (n ≤ 4) × (count ≤ 256) × (n ≤ room_of (length x))
    fits t =
        let p1 = both (leb 1 n) _ t in
        let p2 = both (leb n 4) _ p1.1 in
        let p3 = both (leb count 256) _ p2.1 in
        let p4 = both (leb n (room_of (length x))) (leb (count * n) (room_of (length l))) p3.1 in
        (leb→le n 4 p2.0, leb→le count 256 p3.0, leb→le n (room_of (length x)) p4.0)

    go : (t : Bool) → fits_in n count (room_of (length l)) (room_of (length x)) ≡ t
        → cond t (bisect (at_place n x l) count 0 count) (Err fault.Refused) ≡ Ok (place.New k)
        → (k ≤ count) × (n ≤ 4) × (count ≤ 256) × (n ≤ room_of (length x))
    go true t e =
        let f = fits (subst T (sym t) tt) in
        (bisect_top (at_place n x l) count 0 count k (omega arith) e, f.0, f.1, f.2)
    go false t e = let z : ◌≡◌ {A = ℕ} 0 1 = cc in absurd (omega arith)

pub placed : (n count : ℕ) (l x : List ℤ) (p : Result Place Fault) → find_of n count l x ≡ p
    → added_of n count l x ≡ by_place n count (room_of (length l)) p
unfolding added_of
placed n count l x p e = ap (by_place n count (room_of (length l))) e
