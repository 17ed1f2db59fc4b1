-- The first cause that applies: of two lists of causes one after the other, and what a 0 says of each test.
use Prim.Native.Nat.{ℕ, suc}
use native.Mathlib.Omega.{arith}
use mathlib.Core.Bool.{Bool, true, false}
use mathlib.Core.List.{List, [], ◌∷◌, ◌++◌}
use mathlib.Core.Path.{◌≡◌, refl}
use lib.Dec.{T}
use lib.IntN.{ℤ}
use Rattle.model.specs.Checks.{constant_fits, sums_whole, all_bound, all_there, counts_fit}
use Rattle.model.specs.Lists.{concat_map, all}
use Rattle.model.specs.PlanAgreement.{Admitted, Accepted}
use Rattle.model.specs.Question.{elements}
use Rattle.model.specs.Records.{question_of, well_formed}
use Rattle.model.specs.Refusal.{plan_causes, refusal, result_long, work_long, causes, data_causes, question_causes}
use Rattle.model.specs.Refusal.{buffer_causes, Lengths, Cause, first_of}
use Rattle.model.specs.Tables.{in_range, laid_out}

pub first_passes : (n : ℕ) (t : Bool) (cs : List Cause) → T t → first_of ((n, t) ∷ cs) ≡ first_of cs
unfolding first_of
first_passes n true cs s = refl
first_passes n false cs s = elim s [ ]

pub first_stops : (n : ℕ) (cs : List Cause) → first_of ((n, false) ∷ cs) ≡ n
unfolding first_of
first_stops n cs = refl

pub first-append : (cs ds : List Cause) → first_of cs ≡ 0 → first_of ds ≡ 0 → first_of (cs ++ ds) ≡ 0
unfolding first_of
first-append [] ds z s = s
first-append (c ∷ cs) ds z s = go c.1 refl z (λ r. first-append cs ds r s)
  where
    go : (b : Bool) → c.1 ≡ b → first_of (c ∷ cs) ≡ 0 → (first_of cs ≡ 0 → first_of (cs ++ ds) ≡ 0)
        → first_of ((c ∷ cs) ++ ds) ≡ 0
    go true e = rw (e, first_of) (λ z r. r z)
    go false e = rw (e, first_of) (λ z r. z)

-- no number of a cause is 0, so 0 says that each test holds
pub first-zero : (n : ℕ) (t : Bool) (cs : List Cause) → first_of ((suc n, t) ∷ cs) ≡ 0 → T t × (first_of cs ≡ 0)
unfolding first_of
first-zero n true cs e = (tt, e)
first-zero n false cs e = absurd (omega arith)

-- what number 0 says of the buffers, the data and the question
pub record BuffersPass (l : Lengths) : Type 0 where
  pub work : T (work_long l)
  pub room : T (result_long l)

pub record DataPasses (d : List ℤ) : Type 0 where
  pub laid : T (laid_out d)
  pub ranged : T (in_range d)

pub record QuestionPasses (d : List ℤ) (qs : List ℕ) : Type 0 where
  pub formed : T (well_formed qs)
  pub counts : T (counts_fit (question_of qs))
  pub there : T (all_there d (question_of qs))
  pub bound : T (all_bound (question_of qs))
  pub sums : T (all (sums_whole (question_of qs)) (concat_map elements (question_of qs)))
  pub constants : T (all constant_fits (concat_map elements (question_of qs)))

pub buffers_pass : (l : Lengths) (cs : List Cause) → first_of (buffer_causes l ++ cs) ≡ 0
    → BuffersPass l × (first_of cs ≡ 0)
unfolding buffer_causes
buffers_pass l cs z =
    let a = first-zero 0 _ _ z in let b = first-zero 1 _ _ a.1 in
    (record { work = a.0; room = b.0 }, b.1)

pub data_passes : (d : List ℤ) (cs : List Cause) → first_of (data_causes d ++ cs) ≡ 0 → DataPasses d × (first_of cs ≡ 0)
unfolding data_causes
data_passes d cs z =
    let a = first-zero 2 _ _ z in let b = first-zero 3 _ _ a.1 in
    (record { laid = a.0; ranged = b.0 }, b.1)

pub question-passes : (d : List ℤ) (qs : List ℕ) (cs : List Cause) → first_of (question_causes d qs ++ cs) ≡ 0
    → QuestionPasses d qs × (first_of cs ≡ 0)
unfolding question_causes
question-passes d qs cs z =
    let a = first-zero 4 _ _ z in let b = first-zero 5 _ _ a.1 in let c = first-zero 6 _ _ b.1 in
    let e = first-zero 7 _ _ c.1 in let f = first-zero 8 _ _ e.1 in let g = first-zero 9 _ _ f.1 in
    (record { formed = a.0; counts = b.0; there = c.0; bound = e.0; sums = f.0; constants = g.0 }, g.1)

pub record Passes (l : Lengths) (d : List ℤ) (qs : List ℕ) : Type 0 where
  pub buffers : BuffersPass l
  pub tables : DataPasses d
  pub question : QuestionPasses d qs

pub accepted-passes : (l : Lengths) (d : List ℤ) (qs : List ℕ) → Accepted l d qs → Passes l d qs
unfolding causes question_causes
accepted-passes l d qs z =
    let a = buffers_pass l _ z in let b = data_passes d _ a.1 in
    record { buffers = a.0; tables = b.0; question = (question-passes d qs [] b.1).0 }

-- 1 to 11
pub refusal-passes : (l : Lengths) (d : List ℤ) (qs ps : List ℕ) → refusal l d qs ps ≡ 0
    → Passes l d qs × Admitted qs ps
unfolding refusal causes buffer_causes data_causes question_causes plan_causes
refusal-passes l d qs ps z =
    let a = buffers_pass l (data_causes d ++ (question_causes d qs ++ plan_causes qs ps)) z in
    let b = data_passes d (question_causes d qs ++ plan_causes qs ps) a.1 in
    let c = question-passes d qs (plan_causes qs ps) b.1 in
    (record { buffers = a.0; tables = b.0; question = c.0 }, (first-zero 10 _ _ c.1).0)
