-- How values are stored in words, and what reading, writing, inserting, copying and zeroing do to a buffer. A place
-- counts values. That a value takes two words, numerator then denominator, is said here alone.
--   room_of w            the values that w words hold; words_of k: the words of k values
--   value_at l p         the value at place p of the words l
--   with_value l p v     l with v at place p
--   read_at l p          the value at place p; 0/0, which is absent, where l has no such place
--   writable p l        l has a place p; words_with l p v: l with v there, l itself where it has no such place
--   copyable m s l      s and l have m places each; words_copied m s l: l with the first m values of s in front, or l
--   shifted p e m l     l with the words from p to e moved up by m
--   insertable p e n w x  n is at most 4, p at most e, and there are e + n places of w and n of x
--   words_inserted p e n x l  l with the first n values of x put in at place p, those from p to e moved up; l itself where
--                       they cannot be
--   zeroable n l        l has n words; words_zeroed n l: l with n zeros in front, or l
--   front_zeroed m l     l with zeros in place of its first m values; behind_zeroed m l: with zeros behind these; l itself
--                       where it has fewer
use Rattle.std.specs.Prelude.{ℕ, ◌+◌, ◌*◌, ◌-◌, ◌/◌, Bool, ◌&&◌, cond, List, ◌++◌, leb, ltb, length, get_or, set, take, drop, replicate, ℤ, pos}
use Rattle.std.proofs.Math.Seq.{paste}
use Rattle.model.specs.Lists.{overwrite}
use Rattle.value.specs.declared.Value.{Value}

abbrev pub room_of : ℕ → ℕ
room_of w = w / 2

abbrev pub words_of : ℕ → ℕ
words_of k = 2 * k

abbrev pub value_at : List ℤ → ℕ → Value
value_at l p = record { num = get_or l (2 * p) (pos 0); den = get_or l (2 * p + 1) (pos 0) }

abbrev pub with_value : List ℤ → ℕ → Value → List ℤ
with_value l p v = set (set l (2 * p) v.num) (2 * p + 1) v.den

unfoldable pub read_at : List ℤ → ℕ → Value
read_at l p = cond (ltb p (room_of (length l))) (value_at l p) (record { num = pos 0; den = pos 0 })

abbrev pub writable : ℕ → List ℤ → Bool
writable p l = ltb p (room_of (length l))

unfoldable pub words_with : List ℤ → ℕ → Value → List ℤ
words_with l p v = cond (writable p l) (with_value l p v) l

abbrev pub copyable : ℕ → List ℤ → List ℤ → Bool
copyable m s l = leb m (room_of (length s)) && leb m (room_of (length l))

unfoldable pub words_copied : ℕ → List ℤ → List ℤ → List ℤ
words_copied m s l = cond (copyable m s l) (overwrite (take (words_of m) s) l) l

unfoldable pub shifted : ℕ → ℕ → ℕ → List ℤ → List ℤ
shifted p e m l = take (p + m) l ++ take (e - p) (drop p l) ++ drop (e + m) l

unfoldable pub insertable : ℕ → ℕ → ℕ → ℕ → ℕ → Bool
insertable p e n w x = leb n 4 && (leb p e && (leb n x && leb (e + n) w))

unfoldable pub words_inserted : ℕ → ℕ → ℕ → List ℤ → List ℤ → List ℤ
words_inserted p e n x l =
    cond (insertable p e n (room_of (length l)) (room_of (length x)))
    (paste (shifted (words_of p) (words_of e) (words_of n) l) (words_of p) x (words_of n)) l

abbrev pub zeroable : ℕ → List ℤ → Bool
zeroable n l = leb n (length l)

unfoldable pub words_zeroed : ℕ → List ℤ → List ℤ
words_zeroed n l = cond (zeroable n l) (overwrite (replicate n (pos 0)) l) l

unfoldable pub front_zeroed : ℕ → List ℤ → List ℤ
front_zeroed m l = cond (leb m (room_of (length l))) (overwrite (replicate (words_of m) (pos 0)) l) l

unfoldable pub behind_zeroed : ℕ → List ℤ → List ℤ
behind_zeroed m l =
    cond (leb m (room_of (length l))) (take (words_of m) l ++ replicate (length l - words_of m) (pos 0)) l
