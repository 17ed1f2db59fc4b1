-- Records of one mark, read as long as they stand well formed, against the model's `many`: where the run stops,
-- `many` has read the same records, or the mark stands there still, before a malformed record, and `many` fails.
use Prim.Native.Nat.{ℕ, zero, suc, ◌+◌}
use native.Mathlib.Omega.{arith}
use mathlib.Core.Bool.{Bool, true, false, ◌&&◌, cond}
use mathlib.Core.List.{List, [], ◌∷◌}
use mathlib.Core.Option.{none, some}
use mathlib.Core.Path.{◌≡◌, refl, sym, ap, ◌∙◌, subst}
use lib.Dec.{T, eqb}
use lib.ListN.{drop}
use Rattle.syntax.specs.Places.{record_end, record_ok, run}
use Rattle.syntax.specs.declared.Record.{Record}
use Rattle.model.proofs.FormatEquations.{after_none, after-some, only-fails, only-holds}
use Rattle.model.proofs.RecordEquations.{marked-nil, marked_short, marked_two, many-spent, many_more, many-ends}
use Rattle.model.specs.Format.{Parser, after, only}
use Rattle.model.specs.Records.{Mark, marked, many}
use Rattle.syntax.proofs.Laws.{on}
use borrow.Author.Tests.{eqb-true, ne_eqb}

-- n records from place i on, where each one's value and end are given by its place
module _ {A : Type 0} (val : ℕ → A) (end : ℕ → ℕ) where
  unfoldable pub list_at : ℕ → ℕ → List A
  list_at zero i = []
  list_at (suc n) i = val i ∷ list_at n (end i)

-- how many stand from place i on, in at most f, and where they end
module _ (ok : ℕ → Bool) (end : ℕ → ℕ) where
  unfoldable pub count_from : ℕ → ℕ → ℕ
  count_from zero i = 0
  count_from (suc f) i = cond (ok i) (suc (count_from f (end i))) 0

  unfoldable pub stop_from : ℕ → ℕ → ℕ
  stop_from zero i = i
  stop_from (suc f) i = cond (ok i) (stop_from f (end i)) i

pub run_is : (f : ℕ) (r : Record) (bs : List ℕ) (n i : ℕ)
    → run f r bs n i
    ≡ record {
      at = stop_from (record_ok r bs) (record_end r bs) f i;
      count =
          n + count_from (record_ok r bs) (record_end r bs) f i;
    }
unfolding run count_from stop_from
run_is zero r bs n i = ap (λ c. record { at = i; count = c }) (let e : n ≡ n + 0 = omega arith in e)
run_is (suc f) r bs n i =
    on (record_ok r bs i)
    (λ t. rw t
    (run_is f r bs (n + 1) (record_end r bs i)
    ∙ ap (λ c. record { at = stop_from (record_ok r bs) (record_end r bs) f (record_end r bs i); count = c })
    (let k = count_from (record_ok r bs) (record_end r bs) f (record_end r bs i) in
    let e : n + 1 + k ≡ n + suc k = omega arith in e)))
    (λ t. rw t (ap (λ c. record { at = i; count = c }) (let e : n ≡ n + 0 = omega arith in e)))

not-true : {P : Type 0} → false ≡ true → P
not-true e = absurd (subst T (sym e) tt)

-- two marks whose first letters differ do not stand at one place
pub marked_other : (m m' : Mark) (l : List ℕ) → (m.first ≡ m'.first → ⊥) → marked m l ≡ true → marked m' l ≡ false
marked_other m m' [] d e = marked-nil m'
marked_other m m' (a ∷ []) d e = marked_short m' a
marked_other m m' (a ∷ b ∷ l) d e = marked_two m' a b l ∙ ap (λ t. t && eqb b m'.second)
    (ne_eqb a m'.first (λ f. d (sym (first-is (marked_two m a b l)) ∙ f)))
  where
    first-of : (s t : Bool) → s && t ≡ true → s ≡ true
    first-of true t h = refl
    first-of false t h = h

    first-is : marked m (a ∷ b ∷ l) ≡ eqb a m.first && eqb b m.second → a ≡ m.first
    first-is h = eqb-true a m.first (first-of (eqb a m.first) (eqb b m.second) (sym h ∙ e))

module _ {A : Type 0} (m : Mark) (p : Parser A) (bs : List ℕ) (ok : ℕ → Bool) (val : ℕ → A) (end : ℕ → ℕ)
    (reads : (i : ℕ) → marked m (drop i bs) ≡ true → p (drop 2 (drop i bs)) ≡ only (ok i) (val i) (drop (end i) bs))
    (marks : (i : ℕ) → ok i ≡ true → marked m (drop i bs) ≡ true) where
  pub data Many (f i : ℕ) : Type 0 where
    all_read : many f m p (drop i bs) ≡ some (list_at val end (count_from ok end f i) i, drop (stop_from ok end f i) bs)
        → Many f i
    broken : many f m p (drop i bs) ≡ none → marked m (drop (stop_from ok end f i) bs) ≡ true → Many f i

  pub many-run : (f i : ℕ) → Many f i
  unfolding count_from stop_from list_at
  many-run zero i = all_read (many-spent m p (drop i bs))
  many-run (suc f) i = by-mark (marked m (drop i bs)) refl (many-run f (end i))
    where
      none-ok : marked m (drop i bs) ≡ false → ok i ≡ false
      none-ok e = on (ok i) (λ t. not-true (sym e ∙ marks i t)) (λ t. t)

      longer : Many f (end i) → ok i ≡ true → marked m (drop i bs) ≡ true → Many (suc f) i
      longer (all_read h) t e =
          all_read (rw t
          (many_more f m p (drop i bs) e
          ∙ rw (
            reads i e,
            t,
            only-holds true (val i) (drop (end i) bs) refl,
            after-some (val i) (drop (end i) bs) (λ a cs. after (many f m p cs) (λ xs ds. some (a ∷ xs, ds))),
            h,
          )
          (after-some _ _ _)))
      longer (broken h k) t e =
          broken
          (many_more f m p (drop i bs) e
          ∙ rw (
            reads i e,
            t,
            only-holds true (val i) (drop (end i) bs) refl,
            after-some (val i) (drop (end i) bs) (λ a cs. after (many f m p cs) (λ xs ds. some (a ∷ xs, ds))),
            h,
          )
          (after_none _))
          (rw t k)

      by-mark : (t : Bool) → marked m (drop i bs) ≡ t → Many f (end i) → Many (suc f) i
      by-mark true e r =
          on (ok i) (λ t. longer r t e)
          (λ t. broken
          (many_more f m p (drop i bs) e
          ∙ rw (reads i e, t, only-fails false (val i) (drop (end i) bs) refl) (after_none _)) (rw t e))
      by-mark false e r = all_read (rw (none-ok e) (many-ends f m p (drop i bs) e))
