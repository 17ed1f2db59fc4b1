-- The parts by place are the model's: `part-told` of one part; `job-told` of a job, and `parts_none` where the bytes are
-- none.
use Prim.Native.Nat.{ℕ, zero, suc, ◌+◌, ◌-◌, ◌%◌, ◌≤◌, zero-le}
use native.Mathlib.Omega.{arith}
use mathlib.Core.Bool.{Bool, true, false, ◌&&◌, cond}
use mathlib.Core.List.{List, [], ◌∷◌}
use mathlib.Core.Option as maybe
use mathlib.Core.Option.{none, some}
use Rattle.std.specs.Prelude.{Option, Some, None}
use Rattle.std.specs.Option.{option_and_then}
use mathlib.Core.Path.{◌≡◌, refl, sym, ◌∙◌, ap, ap₂, subst}
use borrow.Author.Tests.{leb-true, leb-false, le-leb, lt-leb, ne_eqb}
use lib.Dec.{T, eqb, leb, eqb-suc-suc}
use lib.ListN.{length, get_or, take, drop, length-drop}
use lib.Seq.{drop-drop, get_or-drop, length-take-le}
use Rattle.model.specs.Format.{Parser, after, ◌>>=◌, give, only, number64}
use Rattle.model.specs.Listing.{DA, QU, PN, Job, contents, part_of, parts, job_of}
use Rattle.model.specs.Records.{Mark, marked, ends}
use Rattle.job.specs.Places.{four, stands, part_at, joined, laid, with_plan, with_question, parts_of, job_in}
use Rattle.job.specs.declared.Part.{Part}
use Rattle.job.specs.declared.Parts.{Parts}
use Rattle.job.proofs.PlaceLaws.{stands-long, part-there}
use Rattle.job.proofs.WordLaws.{four-drop, four_front}

and-false : (a : Bool) → (a && false) ≡ false
and-false true = refl
and-false false = refl

-- ---- one part
abbrev pub told : List ℕ → Option Part → maybe.Option (List ℕ × List ℕ)
told bs None = none
told bs (Some p) = some (take p.size (drop p.at bs), drop (p.at + p.size) bs)

told-there : (bs : List ℕ) (t : Bool) (i n : ℕ)
    → told bs (cond t (Some (record { at = i; size = n })) None)
    ≡ cond t (some (take n (drop i bs), drop (i + n) bs)) none
told-there bs true i n = refl
told-there bs false i n = refl

-- six bytes are there: the mark is by place
marked_is : (m : Mark) (cs : List ℕ) → leb 6 (length cs) ≡ true
    → marked m cs ≡ (eqb (get_or cs 0 0) m.first && eqb (get_or cs 1 0) m.second)
unfolding marked
marked_is m [] e = absurd (subst T (sym e) tt)
marked_is m (a ∷ []) e = absurd (subst T (sym e) tt)
marked_is m (a ∷ b ∷ cs) e = refl

both_tests : {A : Type 0} (e l f : Bool) (s : maybe.Option A)
    → cond (e && true) (cond (l && f) s none) none ≡ cond (e && l && f) s none
both_tests true true f s = refl
both_tests true false f s = refl
both_tests false l f s = refl

module _ (bs : List ℕ) (m : Mark) (i : ℕ) where
  abbrev x : ℕ
  x = m.first

  abbrev y : ℕ
  y = m.second

  abbrev n : ℕ
  n = four bs (i + 2)

  cs : List ℕ
  cs = drop i bs

  long : length (drop i bs) ≡ length bs - i
  long = length-drop i bs

  first-is : get_or (drop i bs) 0 0 ≡ get_or bs i 0
  first-is = get_or-drop i bs 0 0 ∙ ap (λ j. get_or bs j 0) (let e : i + 0 ≡ i = omega arith in e)

  second_is : get_or (drop i bs) 1 0 ≡ get_or bs (i + 1) 0
  second_is = get_or-drop i bs 1 0

  size_is : 6 ≤ length (drop i bs) → number64 (take 4 (drop 2 (drop i bs))) ≡ n
  size_is h =
      ap (λ l. number64 (take 4 l)) (drop-drop 2 i bs)
      ∙ four_front (drop (i + 2) bs) (let a = length-drop (i + 2) bs in let b = long in omega arith)
      ∙ four-drop bs (i + 2) 0
      ∙ ap (four bs) (let e : i + 2 + 0 ≡ i + 2 = omega arith in e)

  fits-is : 6 ≤ length (drop i bs) → leb n (length (drop (i + 6) bs)) ≡ leb (n + 6) (length bs - i)
  fits-is h = go (leb (n + 6) (length bs - i)) refl
    where
      go : (t : Bool) → leb (n + 6) (length bs - i) ≡ t → leb n (length (drop (i + 6) bs)) ≡ t
      go true e =
          let a = length-drop (i + 6) bs in let k = leb-true (n + 6) (length bs - i) e in
          le-leb n (length (drop (i + 6) bs)) (omega arith)
      go false e =
          let a = length-drop (i + 6) bs in let b = long in let k = leb-false (n + 6) (length bs - i) e in
          lt-leb n (length (drop (i + 6) bs)) (omega arith)

  contents-is : 6 ≤ length (drop i bs) → contents (number64 (take 4 (drop 2 (drop i bs)))) (drop 6 (drop i bs))
      ≡ cond (leb n 65536 && leb (n + 6) (length bs - i))
      (some (take n (drop (i + 6) bs), drop (i + 6 + n) bs)) none
  unfolding contents
  contents-is h =
      ap₂ contents (size_is h) (drop-drop 6 i bs)
      ∙ ap₂ (λ (t : Bool) (l : List ℕ). cond (leb n 65536 && t) (some (take n (drop (i + 6) bs), l)) none)
      (fits-is h) (drop-drop n (i + 6) bs)

  pub part-told : part_of m (drop i bs) ≡ told bs (part_at bs i x y)
  unfolding part_of part_at
  part-told = go (leb 6 (length (drop i bs))) refl ∙ sym (told-there bs (stands bs i x y) (i + 6) n)
    where
      go : (t : Bool) → leb 6 (length (drop i bs)) ≡ t
          → part_of m (drop i bs) ≡ cond (stands bs i x y) (some (take n (drop (i + 6) bs), drop (i + 6 + n) bs)) none
      go true e =
          let h = leb-true 6 (length (drop i bs)) e in
          rw (e, marked_is m (drop i bs) e, first-is, second_is, contents-is h)
          (both_tests (eqb (get_or bs i 0) x && eqb (get_or bs (i + 1) 0) y) (leb n 65536) (leb (n + 6) (length bs - i)) _)
      go false e =
          let h = leb-false 6 (length (drop i bs)) e in let b = long in
          let f : leb (n + 6) (length bs - i) ≡ false = lt-leb (n + 6) (length bs - i) (omega arith) in
          rw (e, f, and-false (marked m (drop i bs)))
          (sym (rw (and-false (eqb (get_or bs i 0) x && eqb (get_or bs (i + 1) 0) y && leb n 65536)) refl))

  -- a part ends within the bytes
  pub part-within : i ≤ length bs → (p : Part) → part_at bs i x y ≡ Some p → p.at + p.size ≤ length bs
  part-within h p e = grind (arith, part-there bs i x y p e, stands-long bs i x y)

-- ---- the three parts
-- a parser after a part
after_part : {B : Type 0} (bs : List ℕ) (m : Mark) (i : ℕ) (f : List ℕ → Parser B)
    → ◌>>=◌ (part_of m) f (drop i bs) ≡ after (told bs (part_at bs i m.first m.second)) f
unfolding ◌>>=◌
after_part bs m i f = ap (λ o. after o f) (part-told bs m i)

after_only : {A B : Type 0} (t : Bool) (a : A) (cs : List ℕ) (f : A → Parser B)
    → after (only t a cs) f ≡ cond t (f a cs) none
unfolding after only
after_only true a cs f = refl
after_only false a cs f = refl

pub ends_is : (bs : List ℕ) (e : ℕ) → e ≤ length bs → ends (drop e bs) ≡ eqb e (length bs)
unfolding ends
ends_is [] zero h = refl
ends_is [] (suc e) h = absurd (omega arith)
ends_is (b ∷ bs) zero h = sym (ne_eqb 0 (suc (length bs)) (λ e. omega arith))
ends_is (b ∷ bs) (suc e) h = ends_is bs e (omega arith) ∙ sym (eqb-suc-suc e (length bs))

abbrev ended : maybe.Option (Job × List ℕ) → maybe.Option Job
ended none = none
ended (some j) = elim (ends j.1) [ true ↦ some j.0 | false ↦ none ]

-- the parsers after the data and after the question
planned : List ℕ → List ℕ → Parser Job
planned a b = ◌>>=◌ (part_of PN) (λ c. give (record { «data» = a; question = b; plan = c }))

asked : List ℕ → Parser Job
asked a = ◌>>=◌ (part_of QU) (λ b. planned a b)

module _ (bs : List ℕ) where
  abbrev contents_of : Part → List ℕ
  contents_of p = take p.size (drop p.at bs)

  abbrev job : Part → Part → Part → Job
  job d q p = record { «data» = contents_of d; question = contents_of q; plan = contents_of p }

  words-whole : (d : Part) → d.at + d.size ≤ length bs → eqb (length (contents_of d) % 4) 0 ≡ eqb (d.size % 4) 0
  words-whole d h =
      ap (λ k. eqb (k % 4) 0)
      (length-take-le d.size (drop d.at bs) (let a = length-drop d.at bs in omega arith))

  job-ended : job_of bs ≡ ended (parts bs)
  unfolding job_of
  job-ended = go (parts bs) refl
    where
      go : (o : maybe.Option (Job × List ℕ)) → parts bs ≡ o → job_of bs ≡ ended (parts bs)
      go none e = rw (e, job_of) refl
      go (some j) e = rw (e, job_of) refl

  -- where the plan stands, or does not
  plan-told : (d q : Part) (o : Option Part) → ((p : Part) → o ≡ Some p → p.at + p.size ≤ length bs)
      → (t : Bool) → t ≡ eqb (d.size % 4) 0
      → ended (cond t (after (told bs o) (λ c. give (record { «data» = contents_of d; question = contents_of q; plan = c }))) none)
      ≡ job_in bs (option_and_then (λ p. joined d q p (length bs)) o)
  unfolding after give job_in
  plan-told d q None within true e = refl
  plan-told d q None within false e = refl
  plan-told d q (Some p) within false e = rw (← e) refl
  plan-told d q (Some p) within true e =
      rw (← e, ← ends_is bs (p.at + p.size) (within p refl)) (go (ends (drop (p.at + p.size) bs)) refl)
    where
      go : (t : Bool) → ends (drop (p.at + p.size) bs) ≡ t
          → ended (some (job d q p, drop (p.at + p.size) bs))
          ≡ job_in bs (cond (ends (drop (p.at + p.size) bs)) (Some (laid d q p)) None)
      go true f = rw (ended, f) refl
      go false f = rw (ended, f) refl

  question-told : (d : Part) (o : Option Part) → ((q : Part) → o ≡ Some q → q.at + q.size ≤ length bs)
      → (t : Bool) → t ≡ eqb (d.size % 4) 0
      → ended (cond t (after (told bs o) (planned (contents_of d))) none)
      ≡ job_in bs (option_and_then (with_plan bs d) o)
  unfolding after job_in planned
  question-told d None within true e = refl
  question-told d None within false e = refl
  question-told d (Some q) within t e =
      ap (λ o. ended (cond t o none))
      (after_part bs PN (q.at + q.size) (λ c. give (record { «data» = contents_of d; question = contents_of q; plan = c })))
      ∙ plan-told d q (part_at bs (q.at + q.size) 80 78) (λ p. part-within bs PN (q.at + q.size) (within q refl) p) t e

  data-told : (o : Option Part) → ((d : Part) → o ≡ Some d → d.at + d.size ≤ length bs)
      → ended (after (told bs o) (λ a. ◌>>=◌ (only (eqb (length a % 4) 0) a) asked))
      ≡ job_in bs (option_and_then (with_question bs) o)
  unfolding after job_in ◌>>=◌ asked
  data-told None within = refl
  data-told (Some d) within =
      ap ended (after_only (eqb (length (contents_of d) % 4) 0) (contents_of d) (drop (d.at + d.size) bs) asked
      ∙ ap (λ o. cond (eqb (length (contents_of d) % 4) 0) o none)
      (after_part bs QU (d.at + d.size) (λ b. planned (contents_of d) b)))
      ∙ question-told d (part_at bs (d.at + d.size) 81 85)
      (λ q. part-within bs QU (d.at + d.size) (within d refl) q)
      (eqb (length (contents_of d) % 4) 0) (words-whole d (within d refl))

  -- the job is the one that the parts tell of
  pub job-told : job_of bs ≡ job_in bs (parts_of bs)
  unfolding parts_of parts asked planned
  job-told =
      job-ended ∙ ap ended (after_part bs DA 0 (λ a. ◌>>=◌ (only (eqb (length a % 4) 0) a) asked))
      ∙ data-told (part_at bs 0 68 65) (λ d. part-within bs DA 0 zero-le d)

  -- and where the bytes are no job, there are none
  pub parts_none : job_of bs ≡ none → parts_of bs ≡ None
  unfolding job_in
  parts_none h = go (parts_of bs) (sym job-told ∙ h)
    where
      go : (o : Option Parts) → job_in bs o ≡ none → o ≡ None
      go None e = refl
      go (Some p) e = cc
