-- The decimal digits of a number, by its last digit.
use Prim.Native.Nat.{ℕ, zero, suc, ◌+◌, ◌/◌, ◌%◌, ◌<◌, ◌≤◌}
use native.Mathlib.Omega.{arith}
use mathlib.Core.Bool.{Bool, true, false}
use mathlib.Core.List.{List, [], ◌∷◌, ◌++◌}
use mathlib.Core.Path.{◌≡◌, refl, sym, ◌∙◌, ap}
use borrow.Author.Tests.{ltb-false, lt-ltb, le-ltb}
use lib.Dec.{ltb}
use Rattle.model.specs.Listing.{digits_in, digits}
use Rattle.job.specs.Texts.{Wrote}
use Rattle.job.proofs.WroteLaws.{wrote_as, wrote_then}

-- any number of digits that is large enough serves
enough : (f g n : ℕ) → n < f → n < g → digits_in f n ≡ digits_in g n
unfolding digits_in
enough zero g n h k = absurd (omega arith)
enough (suc f) zero n h k = absurd (omega arith)
enough (suc f) (suc g) n h k = go (λ a b. enough f g (n / 10) a b) (ltb n 10) refl
  where
    go : (n / 10 < f → n / 10 < g → digits_in f (n / 10) ≡ digits_in g (n / 10)) → (t : Bool) → ltb n 10 ≡ t
        → digits_in (suc f) n ≡ digits_in (suc g) n
    go r true e = rw e refl
    go r false e =
        let b = ltb-false n 10 e in rw e (ap (λ x. x ++ ((48 + n % 10) ∷ [])) (r (omega arith) (omega arith)))

pub digits-one : (n : ℕ) → n < 10 → digits n ≡ (48 + n) ∷ []
unfolding digits digits_in
digits-one n h = rw (lt-ltb n 10 h) refl

pub digits_more : (n : ℕ) → 10 ≤ n → digits n ≡ digits (n / 10) ++ ((48 + n % 10) ∷ [])
unfolding digits digits_in
digits_more n h =
    rw (le-ltb n 10 h)
    (ap (λ x. x ++ ((48 + n % 10) ∷ [])) (enough n (suc (n / 10)) (n / 10) (omega arith) (omega arith)))

-- printed: one digit, or the first digits and then the last
module _ (n d : ℕ) where
  pub number-one : {at r : ℕ} {l m : List ℕ} → n < 10 → d ≡ 48 + n → Wrote at (d ∷ []) l m r → Wrote at (digits n) l m r
  number-one h e w = wrote_as w (digits n) (ap (λ x. x ∷ []) e ∙ sym (digits-one n h))

  pub number-last : {at r q : ℕ} {l m k : List ℕ} → 10 ≤ n → d ≡ 48 + n % 10 → Wrote at (digits (n / 10)) l m r
      → Wrote r (d ∷ []) m k q → Wrote at (digits n) l k q
  number-last h e w v =
      wrote_as (wrote_then w v) (digits n)
      (ap (λ x. digits (n / 10) ++ (x ∷ [])) e ∙ sym (digits_more n h))
