-- The equations of specs/Format, one for each case; those of specs/Records are in RecordEquations.
use Prim.Native.Nat.{ℕ, suc, ◌+◌, ◌*◌, ◌-◌, ◌^◌}
use mathlib.Core.Bool.{Bool, true, false, ◌&&◌, ◌||◌, not}
use mathlib.Core.List.{List, [], ◌∷◌}
use mathlib.Core.Option.{none, some}
use mathlib.Core.Path.{◌≡◌, refl}
use lib.Dec.{eqb, ltb}
use lib.IntN.{pos, negsuc}
use lib.ListN.{length, get_or, take, drop}
use Rattle.model.specs.Format.{Parser, after, ◌>>=◌, give, fail, only, times, byte, eight, number64, signed}
use Rattle.model.specs.Format.{aggregate_is, element_of, element, row_kinds, condition_kinds, output_kinds, relation}
use Rattle.model.specs.Format.{condition, output}
use Rattle.model.specs.Question.{empty, constant, variable, fixed, aggregate}

module _ {A B : Type 0} where
  pub after_none : (f : A → Parser B) → after none f ≡ none
  unfolding after
  after_none f = refl

  pub after-some : (a : A) (bs : List ℕ) (f : A → Parser B) → after (some (a, bs)) f ≡ f a bs
  unfolding after
  after-some a bs f = refl

  pub >>=-is : (p : Parser A) (f : A → Parser B) (bs : List ℕ) → ◌>>=◌ p f bs ≡ after (p bs) f
  unfolding ◌>>=◌
  >>=-is p f bs = refl

module _ {A : Type 0} where
  pub give-is : (a : A) (bs : List ℕ) → give a bs ≡ some (a, bs)
  unfolding give
  give-is a bs = refl

  pub only-holds : (t : Bool) (a : A) (bs : List ℕ) → t ≡ true → only t a bs ≡ some (a, bs)
  unfolding only
  only-holds t a bs e = rw e

  pub only-fails : (t : Bool) (a : A) (bs : List ℕ) → t ≡ false → only t a bs ≡ none
  unfolding only
  only-fails t a bs e = rw e

  pub times_none : (p : Parser A) (bs : List ℕ) → times 0 p bs ≡ some ([], bs)
  unfolding times
  times_none p bs = refl

  pub times_more : (n : ℕ) (p : Parser A) (bs : List ℕ)
      → times (suc n) p bs ≡ after (p bs) (λ a cs. after (times n p cs) (λ xs ds. some (a ∷ xs, ds)))
  unfolding times
  times_more n p bs = refl

pub fail_is : (A : Type 0) (bs : List ℕ) → fail {A = A} bs ≡ none
unfolding fail
fail_is A bs = refl

pub byte-nil : byte [] ≡ none
unfolding byte
byte-nil = refl

pub byte-cons : (b : ℕ) (bs : List ℕ) → byte (b ∷ bs) ≡ some (b, bs)
unfolding byte
byte-cons b bs = refl

pub eight_short : (bs : List ℕ) → ltb (length bs) 8 ≡ true → eight bs ≡ none
unfolding eight
eight_short bs e = rw (e, eight)

pub eight_read : (bs : List ℕ) → ltb (length bs) 8 ≡ false → eight bs ≡ some (take 8 bs, drop 8 bs)
unfolding eight
eight_read bs e = rw (e, eight)

pub number64-nil : number64 [] ≡ 0
unfolding number64
number64-nil = refl

pub number64-cons : (b : ℕ) (bs : List ℕ) → number64 (b ∷ bs) ≡ b + 256 * number64 bs
unfolding number64
number64-cons b bs = refl

pub signed_below : (n : ℕ) → ltb n (2 ^ 63) ≡ true → signed n ≡ pos n
unfolding signed
signed_below n e = rw (e, signed)

pub signed_above : (n : ℕ) → ltb n (2 ^ 63) ≡ false → signed n ≡ negsuc (2 ^ 64 - 1 - n)
unfolding signed
signed_above n e = rw (e, signed)

pub aggregate_is_is : (xs bs : List ℕ)
    → aggregate_is xs bs
    ≡ only
    (ltb (get_or xs 0 0) 5
    && (eqb (number64 (drop 3 xs)) 0 && (not (eqb (get_or xs 0 0) 0) || eqb (get_or xs 2 0) 0)))
    (aggregate (get_or xs 0 0) (get_or xs 1 0) (get_or xs 2 0)) bs
unfolding aggregate_is
aggregate_is_is xs bs = refl

pub element_of-empty : (xs bs : List ℕ) → element_of 0 xs bs ≡ only (eqb (number64 xs) 0) empty bs
unfolding element_of
element_of-empty xs bs = refl

pub element_of-constant : (xs bs : List ℕ) → element_of 1 xs bs ≡ some (constant (signed (number64 xs)), bs)
unfolding element_of give
element_of-constant xs bs = refl

pub element_of-variable : (xs bs : List ℕ) → element_of 2 xs bs ≡ some (variable (number64 xs), bs)
unfolding element_of give
element_of-variable xs bs = refl

pub element_of-fixed : (xs bs : List ℕ) → element_of 3 xs bs ≡ some (fixed (number64 xs), bs)
unfolding element_of give
element_of-fixed xs bs = refl

pub element_of-aggregate : (xs bs : List ℕ) → element_of 4 xs bs ≡ aggregate_is xs bs
unfolding element_of
element_of-aggregate xs bs = refl

pub element_of-other : (k : ℕ) (xs bs : List ℕ) → element_of (suc (suc (suc (suc (suc k))))) xs bs ≡ none
unfolding element_of fail
element_of-other k xs bs = refl

module _ (kinds : ℕ → Bool) where
  pub element-nil : element kinds [] ≡ none
  unfolding element ◌>>=◌ after byte
  element-nil = refl

  pub element-other : (k : ℕ) (bs : List ℕ) → kinds k ≡ false → element kinds (k ∷ bs) ≡ none
  unfolding element ◌>>=◌ after byte only
  element-other k bs e = rw e

  pub element-short : (k : ℕ) (bs : List ℕ) → kinds k ≡ true → eight bs ≡ none → element kinds (k ∷ bs) ≡ none
  unfolding element ◌>>=◌ after byte only
  element-short k bs e h = rw (e, h)

  pub element-read : (k : ℕ) (bs xs cs : List ℕ) → kinds k ≡ true → eight bs ≡ some (xs, cs)
      → element kinds (k ∷ bs) ≡ element_of k xs cs
  unfolding element ◌>>=◌ after byte only
  element-read k bs xs cs e h = rw (e, h)

pub relation-nil : relation [] ≡ none
unfolding relation ◌>>=◌ after byte
relation-nil = refl

pub relation_short : (t : ℕ) → relation (t ∷ []) ≡ none
unfolding relation ◌>>=◌ after byte
relation_short t = refl

pub relation_read : (t n : ℕ) (bs : List ℕ)
    → relation (t ∷ n ∷ bs)
    ≡ after (times n (element row_kinds) bs) (λ es cs. some (record { table = t; entries = es }, cs))
unfolding relation ◌>>=◌ after byte give
relation_read t n bs = refl

pub condition-nil : condition [] ≡ none
unfolding condition ◌>>=◌ after byte
condition-nil = refl

pub condition-other : (o : ℕ) (bs : List ℕ) → ltb o 6 ≡ false → condition (o ∷ bs) ≡ none
unfolding condition ◌>>=◌ after byte only
condition-other o bs e = rw e

pub condition_read : (o : ℕ) (bs : List ℕ) → ltb o 6 ≡ true
    → condition (o ∷ bs)
    ≡ after (element condition_kinds bs)
    (λ x cs. after (element condition_kinds cs) (λ y ds. some (record { operator = o; left = x; right = y }, ds)))
unfolding condition ◌>>=◌ after byte only give
condition_read o bs e = rw e

pub output-nil : output [] ≡ none
unfolding output ◌>>=◌ after byte
output-nil = refl

pub output_read : (n : ℕ) (bs : List ℕ) → output (n ∷ bs) ≡ times n (element output_kinds) bs
unfolding output ◌>>=◌ after byte
output_read n bs = refl
