-- A buffer that is filled by one read after another.
use Rattle.std.proofs.Common.{◌≡◌, ℕ, ◌+◌, ◌≤◌, List, ◌++◌, Option, length, take, sym, subst, ◌∙◌, refl, le_refl}
use Rattle.std.proofs.lemmas.List.{take_at, drop_at, take-append-le, length-take-le}
use Rattle.std.proofs.lemmas.Slice.{take-put_mid_below}
use Rattle.std.specs.Io.KnownBytes.{Consumes, Keeps}
use Rattle.std.proofs.KnownBytes.{Consumes-trans, Consumes-kept}
use borrow.Rule.Slice.PartMut.{put_mid, post_of}
use lib.Seq.{take-add}

-- the bytes up to those that a read put behind the first `at`
take-put_mid_more : (xs ys : List ℕ) (at k n : ℕ) → at ≤ length xs → n ≤ length ys
    → take (at + n) (put_mid at k xs ys) ≡ take at xs ++ take n ys
take-put_mid_more xs ys at k n within fits =
    let front = length-take-le at xs within in
    let after = ys ++ post_of at k xs in
    take-add at n (take at xs ++ after)
    ∙ (rw (take_at (take at xs) after _ front, drop_at (take at xs) after _ front, take-append-le n ys (post_of at k xs) fits) refl)

-- a buffer whose first `at` bytes the stream has lost holds n more of these after a read of n
pub Consumes-filled : (a b c : Option (List ℕ)) (xs ys : List ℕ) (at k n : ℕ) → at ≤ length xs → n ≤ length ys
    → Consumes a b (take at xs) → Consumes b c (take n ys) → Consumes a c (take (at + n) (put_mid at k xs ys))
Consumes-filled a b c xs ys at k n within fits before read =
    subst (Consumes a c) (sym (take-put_mid_more xs ys at k n within fits)) (Consumes-trans a b c _ _ before read)

-- a read that fails takes none of them
pub Consumes-unfilled : (a b c : Option (List ℕ)) (xs ys : List ℕ) (at k : ℕ) → at ≤ length xs
    → Consumes a b (take at xs) → Keeps b c → Consumes a c (take at (put_mid at k xs ys))
Consumes-unfilled a b c xs ys at k within before keeps =
    subst (Consumes a c) (sym (take-put_mid_below at k xs ys at (le_refl at) within)) (Consumes-kept a b c _ before keeps)
