-- How a run ends: number 0 comes of the outcome that gives the rows of matching, and with any other number nothing is
-- written.
use Prim.Native.Nat.{ℕ, zero, suc}
use native.Mathlib.Omega.{arith}
use mathlib.Core.Bool.{Bool, true, false}
use mathlib.Core.List.{List, []}
use mathlib.Core.Path.{◌≡◌, refl, sym, ◌∙◌, ap}
use lib.Dec.{ltb}
use lib.IntN.{ℤ}
use lib.ListN.{length}
use Rattle.model.specs.Answer.{settled, ran_to, outcome_of, answer_of, rows_given, written_of}
use Rattle.model.specs.Matching.{result, too_large}
use Rattle.model.specs.Outcome.{figures_of}
use Rattle.model.specs.Plan.{plan_of}
use Rattle.model.specs.Question.{Block, block_at}
use Rattle.model.specs.Records.{question_of}
use Rattle.model.specs.Refusal.{Lengths, refusal}
use Rattle.model.specs.RowSet.{set_words}
use Rattle.model.specs.Trials.{trials}
use Rattle.model.specs.declared.Outcome.{Outcome}
use Rattle.model.specs.declared.Outcome.TheVariants.{Given, Refused, OverBudget, TooLarge}

module _ (l : Lengths) (d : List ℤ) (qs ps : List ℕ) (budget : ℕ) where
  abbrev q : List Block
  q = question_of qs

  -- number 0 comes of the outcome that gives rows, and that of no cause
  pub record Rows : Type 0 where
    pub no-cause : refusal l d qs ps ≡ 0
    pub not-large : too_large d q ≡ false
    pub written : written_of l d qs ps budget ≡ set_words (result d q)
    pub rows : (answer_of l d qs ps budget).rows ≡ length (result d q)
    pub columns : (answer_of l d qs ps budget).columns ≡ length (block_at q 0).outputs

  -- either way: rows, or nothing written and a number other than 0
  pub data Ended : Type 0 where
    gives : (answer_of l d qs ps budget).number ≡ 0 → Rows → Ended
    refuses : ((answer_of l d qs ps budget).number ≡ 0 → ⊥) → written_of l d qs ps budget ≡ [] → Ended

  ended_by : (o : Outcome) → outcome_of l d qs ps budget ≡ o → ((figures_of o).number ≡ 0 → ⊥)
      → rows_given o (result d q) ≡ [] → Ended
  unfolding answer_of written_of
  ended_by o e n w =
      refuses (λ z. n (sym (ap (λ x. (figures_of x).number) e) ∙ z)) (ap (λ x. rows_given x (result d q)) e ∙ w)

  pub ended : Ended
  unfolding outcome_of ran_to settled answer_of written_of
  ended = by-refusal (refusal l d qs ps) refl
    where
      n : ℕ
      n = trials d q (plan_of (length q) ps)

      by-large : refusal l d qs ps ≡ 0 → ltb budget n ≡ false → (t : Bool) → too_large d q ≡ t → Ended
      by-large z f true e = ended_by (TooLarge n) (rw (z, outcome_of, f, ran_to, e)) (λ h. omega arith) refl
      by-large z f false e =
          let o : outcome_of l d qs ps budget ≡ Given (length (result d q)) (length (block_at q 0).outputs) n =
          rw (z, outcome_of, f, ran_to, e) in
          gives (ap (λ x. (figures_of x).number) o)
          (record {
            no-cause = z;
            not-large = e;
            written = ap (λ x. rows_given x (result d q)) o;
            rows = ap (λ x. (figures_of x).rows) o;
            columns = ap (λ x. (figures_of x).columns) o;
          })

      by-budget : refusal l d qs ps ≡ 0 → (t : Bool) → ltb budget n ≡ t → Ended
      by-budget z true f = ended_by (OverBudget budget) (rw (z, outcome_of, f, ran_to)) (λ h. omega arith) refl
      by-budget z false f = by-large z f (too_large d q) refl

      by-refusal : (c : ℕ) → refusal l d qs ps ≡ c → Ended
      by-refusal zero z = by-budget z (ltb budget n) refl
      by-refusal (suc c) z = ended_by (Refused (suc c)) (rw (z, outcome_of)) (λ h. omega arith) refl

  pub given-rows : (answer_of l d qs ps budget).number ≡ 0 → Rows
  given-rows h = go ended
    where
      go : Ended → Rows
      go (gives z r) = r
      go (refuses n w) = absurd (n h)
