-- An element by place is the element that the model's parser reads there.
use Prim.Native.Nat.{ℕ, zero, suc, ◌+◌, ◌*◌, ◌<◌, ◌≤◌}
use native.Mathlib.Decide.{dec_le}
use native.Mathlib.Nat.{add-zero, lt_of_not-le}
use native.Mathlib.Numerals.{add-one}
use native.Mathlib.Omega.{arith}
use mathlib.Core.Bool.{Bool, true, false, ◌&&◌, ◌||◌, not}
use mathlib.Core.List.{List, [], ◌∷◌}
use mathlib.Core.Logic.{◌⊎◌, inl, inr, ⊎_elim}
use mathlib.Core.Option.{none, some}
use mathlib.Core.Path.{◌≡◌, refl, sym, ap, ap₂, ◌∙◌}
use lib.Dec.{eqb, ltb}
use lib.ListN.{length, take, drop, length-drop, drop_of_length-le}
use lib.Seq.{drop-cons, drop-drop}
use Rattle.syntax.specs.Described.{decode, element_at, elements_at}
use Rattle.syntax.specs.declared.Record.{Record}
use Rattle.syntax.specs.declared.Record.TheVariants.{Rw, Cd, Ol, Bk, En}
use Rattle.syntax.specs.Places.{byte_at, word_at, takes, five_zeros, argument_ok, element_ok, elements_ok}
use Rattle.model.proofs.FormatEquations.{element-nil, element-other, element-read, element-short, after_none}
use Rattle.model.proofs.FormatEquations.{after-some, only-fails, eight_read, eight_short}
use Rattle.model.specs.Format.{Parser, after, give, fail, only, times, eight, number64, signed}
use Rattle.model.specs.Format.{aggregate_is, element_of, element, row_kinds, condition_kinds, output_kinds}
use Rattle.model.specs.Question.{Element, empty, constant, variable, fixed, aggregate}
use borrow.Author.Tests.{lt-ltb, le-ltb, eq-eqb, ne_eqb}

-- the kinds that a record takes, as the model has them
abbrev pub kinds_of : Record → ℕ → Bool
kinds_of Rw = row_kinds
kinds_of Cd = condition_kinds
kinds_of Ol = output_kinds
kinds_of Bk = λ k. false
kinds_of En = λ k. false

or-false : (b : Bool) → b || false ≡ b
or-false true = refl
or-false false = refl

pub takes_is : (r : Record) (k : ℕ) → takes r k ≡ kinds_of r k
takes_is Rw k = refl
takes_is Cd k = refl
takes_is Ol k = refl
takes_is Bk k = refl
takes_is En k = refl

module _ {A B : Type 0} where
  pub after_only : (t : Bool) (a : A) (l : List ℕ) (f : A → Parser B) → f a l ≡ none → after (only t a l) f ≡ none
  unfolding after only
  after_only true a l f e = e
  after_only false a l f e = refl

  pub only-pass : (t : Bool) (a : A) (l : List ℕ) (g : A → B)
      → after (only t a l) (λ x ms. some (g x, ms)) ≡ only t (g a) l
  unfolding after only
  only-pass true a l g = refl
  only-pass false a l g = refl

  pub only_then : (t u : Bool) (a : A) (l m : List ℕ) (b : B) (f : A → Parser B) → f a l ≡ only u b m
      → after (only t a l) f ≡ only (t && u) b m
  unfolding after only
  only_then true u a l m b f e = e
  only_then false u a l m b f e = refl

pub le-or : (m n : ℕ) → (m ≤ n) ⊎ (n < m)
le-or m n = go (dec_le m n)
  where
    go : Dec (m ≤ n) → (m ≤ n) ⊎ (n < m)
    go (yes h) = inl h
    go (no h) = inr (lt_of_not-le h)

only_true : {A : Type 0} {a a' : A} → a ≡ a' → (cs : List ℕ) → some (a, cs) ≡ only true a' cs
unfolding only
only_true e cs = ap (λ x. some (x, cs)) e

-- no kind past 4 takes an argument
other : (k a f c : ℕ) (z : Bool) → argument_ok (suc (suc (suc (suc (suc k))))) a f c z ≡ false
other k a f c z = rw (
  ne_eqb (suc (suc (suc (suc (suc k))))) 0 (λ e. omega arith),
  le-ltb (suc (suc (suc (suc (suc k))))) 4 (omega arith),
  ne_eqb (suc (suc (suc (suc (suc k))))) 4 (λ e. omega arith),
  lt-ltb 0 (suc (suc (suc (suc (suc k))))) (omega arith),
)
    refl

-- an argument's bytes
zero-sum : (b n : ℕ) → eqb (b + 256 * n) 0 ≡ eqb b 0 && eqb n 0
zero-sum b n = go (dec_le b 0) (dec_le n 0)
  where
    go : Dec (b ≤ 0) → Dec (n ≤ 0) → eqb (b + 256 * n) 0 ≡ eqb b 0 && eqb n 0
    go (yes h) (yes k) =
        rw (eq-eqb (b + 256 * n) 0 (omega arith), eq-eqb b 0 (omega arith), eq-eqb n 0 (omega arith)) refl
    go (yes h) (no k) =
        rw (ne_eqb (b + 256 * n) 0 (λ e. omega arith), eq-eqb b 0 (omega arith), ne_eqb n 0 (λ e. omega arith)) refl
    go (no h) k = rw (ne_eqb (b + 256 * n) 0 (λ e. omega arith), ne_eqb b 0 (λ e. omega arith)) refl

and_assoc : (a b c : Bool) → a && (b && c) ≡ (a && b) && c
and_assoc true b c = refl
and_assoc false b c = refl

and-true : (a : Bool) → a && true ≡ a
and-true true = refl
and-true false = refl

positive_is : (f : ℕ) → ltb 0 f ≡ not (eqb f 0)
positive_is f = go (dec_le 1 f)
  where
    go : Dec (1 ≤ f) → ltb 0 f ≡ not (eqb f 0)
    go (yes h) = rw (lt-ltb 0 f h, ne_eqb f 0 (λ e. omega arith)) refl
    go (no h) = rw (le-ltb 0 f (omega arith), eq-eqb f 0 (omega arith)) refl

module _ (b0 b1 b2 b3 b4 b5 b6 b7 : ℕ) where
  abbrev eight_bytes : List ℕ
  eight_bytes = b0 ∷ b1 ∷ b2 ∷ b3 ∷ b4 ∷ b5 ∷ b6 ∷ b7 ∷ []

  abbrev horner : ℕ
  horner = ((((((b7 * 256 + b6) * 256 + b5) * 256 + b4) * 256 + b3) * 256 + b2) * 256 + b1) * 256 + b0

  number_is : number64 eight_bytes ≡ horner
  unfolding number64
  number_is = omega arith

  zeros-is : eqb (number64 (b3 ∷ b4 ∷ b5 ∷ b6 ∷ b7 ∷ [])) 0 ≡ eqb b3 0 && eqb b4 0 && eqb b5 0 && eqb b6 0 && eqb b7 0
  unfolding number64
  zeros-is =
      rw (
        zero-sum b3 (number64 (b4 ∷ b5 ∷ b6 ∷ b7 ∷ [])),
        zero-sum b4 (number64 (b5 ∷ b6 ∷ b7 ∷ [])),
        zero-sum b5 (number64 (b6 ∷ b7 ∷ [])),
        zero-sum b6 (number64 (b7 ∷ [])),
        zero-sum b7 0,
      )
      (turn (eqb b3 0) (eqb b4 0) (eqb b5 0) (eqb b6 0) (eqb b7 0))
    where
      turn : (a b c d e : Bool) → a && (b && (c && (d && (e && true)))) ≡ a && b && c && d && e
      turn true true true true true = refl
      turn true true true true false = refl
      turn true true true false e = refl
      turn true true false d e = refl
      turn true false c d e = refl
      turn false b c d e = refl

  abbrev zeros : Bool
  zeros = eqb b3 0 && eqb b4 0 && eqb b5 0 && eqb b6 0 && eqb b7 0

  -- the argument of any kind
  element_of-is : (k : ℕ) (cs : List ℕ)
      → element_of k eight_bytes cs ≡ only (argument_ok k horner b0 b2 zeros) (decode k horner b0 b1 b2) cs
  unfolding element_of give fail aggregate_is
  element_of-is zero cs =
      ap (λ t. only t empty cs)
      (ap (λ n. eqb n 0) number_is ∙ sym (or-false (eqb horner 0 || false) ∙ or-false (eqb horner 0)))
  element_of-is (suc zero) cs = only_true (ap (λ n. constant (signed n)) number_is) cs
  element_of-is (suc (suc zero)) cs = only_true (ap variable number_is) cs
  element_of-is (suc (suc (suc zero))) cs = only_true (ap fixed number_is) cs
  element_of-is (suc (suc (suc (suc zero)))) cs =
      ap (λ t. only t (aggregate b0 b1 b2) cs)
      (ap₂ (λ z p. ltb b0 5 && (z && (p || eqb b2 0))) zeros-is (sym (positive_is b0)))
  element_of-is (suc (suc (suc (suc (suc k))))) cs = sym (only-fails _ _ cs (other k horner b0 b2 zeros))

module _ (bs : List ℕ) where
  pub cons-at : (i : ℕ) → i < length bs → drop i bs ≡ byte_at bs i ∷ drop (i + 1) bs
  cons-at i h = drop-cons bs i 0 h ∙ ap (λ j. byte_at bs i ∷ drop j bs) (sym (add-one i))

  pub nil-at : (i : ℕ) → length bs ≤ i → drop i bs ≡ []
  nil-at i h = drop_of_length-le bs h

  eight-some : (i : ℕ) → i + 8 ≤ length bs → eight (drop i bs) ≡ some (take 8 (drop i bs), drop (i + 8) bs)
  eight-some i h =
      eight_read (drop i bs) (le-ltb (length (drop i bs)) 8 (let e = length-drop i bs in omega arith))
      ∙ ap (λ l. some (take 8 (drop i bs), l)) (drop-drop 8 i bs)

  eight-none : (i : ℕ) → length bs < i + 8 → eight (drop i bs) ≡ none
  eight-none i h = eight_short (drop i bs) (lt-ltb (length (drop i bs)) 8 (let e = length-drop i bs in omega arith))

  -- the eight bytes, one by one
  bytes-at : (i : ℕ) → i + 8 ≤ length bs
      → take 8 (drop i bs)
      ≡ eight_bytes (byte_at bs i) (byte_at bs (i + 1)) (byte_at bs (i + 2)) (byte_at bs (i + 3)) (byte_at bs (i + 4))
      (byte_at bs (i + 5)) (byte_at bs (i + 6)) (byte_at bs (i + 7))
  bytes-at i h =
      rw (
        cons-at i (omega arith),
        step 0 (omega arith),
        step 1 (omega arith),
        step 2 (omega arith),
        step 3 (omega arith),
        step 4 (omega arith),
        step 5 (omega arith),
        step 6 (omega arith),
      ) refl
    where
      step : (j : ℕ) → i + (j + 1) < length bs → drop (i + (j + 1)) bs ≡ byte_at bs (i + (j + 1)) ∷ drop (i + (j + 2)) bs
      step j l = cons-at (i + (j + 1)) l ∙ ap (λ k. byte_at bs (i + (j + 1)) ∷ drop k bs)
          (let e : i + (j + 1) + 1 ≡ i + (j + 2) = omega arith in e)

  pub element-some : (r : Record) (i : ℕ) → i + 9 ≤ length bs
      → element (kinds_of r) (drop i bs) ≡ only (element_ok r bs i) (element_at bs i) (drop (i + 9) bs)
  unfolding element_ok element_at
  element-some r i l = rw (cons-at i (omega arith), takes_is r (byte_at bs i)) (go (kinds_of r (byte_at bs i)) refl)
    where
      k : ℕ
      k = byte_at bs i

      argument : Bool
      argument = argument_ok k (word_at bs (i + 1)) (byte_at bs (i + 1)) (byte_at bs (i + 3)) (five_zeros bs (i + 4))

      value : Element
      value = decode k (word_at bs (i + 1)) (byte_at bs (i + 1)) (byte_at bs (i + 2)) (byte_at bs (i + 3))

      go : (t : Bool) → kinds_of r k ≡ t
          → element (kinds_of r) (k ∷ drop (i + 1) bs) ≡ only (t && argument) value (drop (i + 9) bs)
      go true e =
          let p8 : i + 4 + 4 ≡ i + 1 + 7 = omega arith in let p7 : i + 4 + 3 ≡ i + 1 + 6 = omega arith in
          let p6 : i + 4 + 2 ≡ i + 1 + 5 = omega arith in let p5 : i + 4 + 1 ≡ i + 1 + 4 = omega arith in
          let p4 : i + 4 ≡ i + 1 + 3 = omega arith in let p3 : i + 3 ≡ i + 1 + 2 = omega arith in
          let p2 : i + 2 ≡ i + 1 + 1 = omega arith in let p9 : i + 9 ≡ i + 1 + 8 = omega arith in
          rw (p8, p7, p6, p5, p4, p3, p2, p9)
          (element-read (kinds_of r) k (drop (i + 1) bs) (take 8 (drop (i + 1) bs)) (drop (i + 1 + 8) bs) e
          (eight-some (i + 1) (omega arith))
          ∙ ap (λ xs. element_of k xs (drop (i + 1 + 8) bs)) (bytes-at (i + 1) (omega arith))
          ∙ element_of-is _ _ _ _ _ _ _ _ k (drop (i + 1 + 8) bs))
      go false e = element-other (kinds_of r) k (drop (i + 1) bs) e ∙ sym (only-fails false value (drop (i + 9) bs) refl)

  pub element-none : (r : Record) (i : ℕ) → length bs < i + 9 → element (kinds_of r) (drop i bs) ≡ none
  element-none r i h =
      ⊎_elim short (λ k. rw (nil-at i (omega arith)) (element-nil (kinds_of r))) (le-or (suc i) (length bs))
    where
      go : suc i ≤ length bs → (t : Bool) → kinds_of r (byte_at bs i) ≡ t
          → element (kinds_of r) (byte_at bs i ∷ drop (i + 1) bs) ≡ none
      go l true e = element-short (kinds_of r) (byte_at bs i) (drop (i + 1) bs) e (eight-none (i + 1) (omega arith))
      go l false e = element-other (kinds_of r) (byte_at bs i) (drop (i + 1) bs) e

      short : suc i ≤ length bs → element (kinds_of r) (drop i bs) ≡ none
      short l = rw (cons-at i l) (go l (kinds_of r (byte_at bs i)) refl)

  pub times-some : (r : Record) (n i : ℕ) → i + 9 * n ≤ length bs
      → times n (element (kinds_of r)) (drop i bs) ≡ only (elements_ok r bs n i) (elements_at bs n i) (drop (i + 9 * n) bs)
  unfolding times elements_ok elements_at only
  times-some r zero i l = simp add-zero
  times-some r (suc n) i l =
      rw (element-some r i (omega arith))
      (go (element_ok r bs i) (elements_ok r bs n (i + 9)) (times-some r n (i + 9) (omega arith)))
    where
      e : i + 9 + 9 * n ≡ i + 9 * suc n
      e = omega arith

      p : Parser Element
      p = element (kinds_of r)

      go : (t u : Bool) → times n p (drop (i + 9) bs) ≡ only u (elements_at bs n (i + 9)) (drop (i + 9 + 9 * n) bs)
          → after (only t (element_at bs i) (drop (i + 9) bs))
          (λ a cs. after (times n p cs) (λ xs ds. some (a ∷ xs, ds)))
          ≡ only (t && u) (element_at bs i ∷ elements_at bs n (i + 9)) (drop (i + 9 * suc n) bs)
      go true true k = simp (after-some, k, e)
      go true false k = simp (after-some, k, after_none)
      go false u k = simp after_none

  pub times-short : (r : Record) (n i : ℕ) → length bs < i + 9 * n → i ≤ length bs
      → times n (element (kinds_of r)) (drop i bs) ≡ none
  unfolding times
  times-short r zero i l m = absurd (omega arith)
  times-short r (suc n) i l m =
      ⊎_elim
      (λ k. rw (element-some r i k)
      (after_only (element_ok r bs i) (element_at bs i) (drop (i + 9) bs) _
      (rw (times-short r n (i + 9) (omega arith) k) (after_none _))))
      (λ k. simp (element-none r i k, after_none))
      (le-or (i + 9) (length bs))
