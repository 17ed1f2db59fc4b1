-- The budget behind a job.
--   eight-told      eight bytes by place are the number that they are
--   budget-told     the budget that the last fourteen bytes are, by place; budget-begins: where they begin
use Prim.Native.Nat.{ℕ, ◌+◌, ◌*◌, ◌-◌, ◌≤◌}
use native.Mathlib.Omega.{arith}
use mathlib.Core.Bool.{Bool, true, false, ◌&&◌, cond}
use mathlib.Core.List.{List, [], ◌∷◌}
use mathlib.Core.Option as maybe
use mathlib.Core.Option.{none, some}
use mathlib.Core.Path.{◌≡◌, refl, ◌∙◌, ap, ap₂}
use borrow.Author.Tests.{eqb-true, eq-eqb}
use lib.Dec.{eqb}
use lib.ListN.{length, take, drop, length-drop}
use lib.Seq.{length-take-le}
use Rattle.std.specs.Prelude.{Option, Some, None}
use Rattle.std.specs.Option.{option_and_then}
use Rattle.model.specs.Format.{number64}
use Rattle.model.specs.Listing.{part_of}
use Rattle.model.specs.Records.{ends}
use Rattle.job.specs.Budgets.{BU, budget_in, eight, budget_at, trials_of}
use Rattle.job.specs.Places.{four, part_at}
use Rattle.job.specs.declared.Budget.{Budget}
use Rattle.job.specs.declared.Part.{Part}
use Rattle.job.proofs.JobLaws.{told, part-told, part-within, ends_is}
use Rattle.job.proofs.PlaceLaws.{part-there}
use Rattle.job.proofs.WordLaws.{four-drop}

-- ---- eight bytes
eight_front : (bs : List ℕ) → 8 ≤ length bs → number64 (take 8 bs) ≡ eight bs 0
unfolding number64
eight_front [] h = absurd (omega arith)
eight_front (a ∷ []) h = absurd (omega arith)
eight_front (a ∷ b ∷ []) h = absurd (omega arith)
eight_front (a ∷ b ∷ c ∷ []) h = absurd (omega arith)
eight_front (a ∷ b ∷ c ∷ d ∷ []) h = absurd (omega arith)
eight_front (a ∷ b ∷ c ∷ d ∷ e ∷ []) h = absurd (omega arith)
eight_front (a ∷ b ∷ c ∷ d ∷ e ∷ f ∷ []) h = absurd (omega arith)
eight_front (a ∷ b ∷ c ∷ d ∷ e ∷ f ∷ g ∷ []) h = absurd (omega arith)
eight_front (a ∷ b ∷ c ∷ d ∷ e ∷ f ∷ g ∷ k ∷ bs) h =
    let z : number64 (take 8 (a ∷ b ∷ c ∷ d ∷ e ∷ f ∷ g ∷ k ∷ bs))
    ≡ 4294967296 * (((k * 256 + g) * 256 + f) * 256 + e) + (((d * 256 + c) * 256 + b) * 256 + a) = omega arith in z

eight-told : (bs : List ℕ) (n : ℕ) → n + 8 ≤ length bs → number64 (take 8 (drop n bs)) ≡ eight bs n
eight-told bs n h =
    eight_front (drop n bs) (let e = length-drop n bs in omega arith)
    ∙ ap₂ (λ x y. 4294967296 * x + y)
    (four-drop bs n 4) (four-drop bs n 0 ∙ ap (four bs) (let e : n + 0 ≡ n = omega arith in e))

-- ---- the budget by place
module _ (bs : List ℕ) where
  abbrev i : ℕ
  i = length bs - 14

  -- the budget in a part
  in_part : maybe.Option (List ℕ × List ℕ) → maybe.Option ℕ
  in_part none = none
  in_part (some q) = cond (eqb (length q.0) 8 && ends q.1) (some (number64 q.0)) none

  in-part : (cs : List ℕ) → budget_in cs ≡ in_part (part_of BU cs)
  unfolding budget_in in_part
  in-part cs = go (part_of BU cs) refl
    where
      go : (o : maybe.Option (List ℕ × List ℕ)) → part_of BU cs ≡ o → budget_in cs ≡ in_part (part_of BU cs)
      go none e = rw (e, budget_in) refl
      go (some q) e = rw (e, budget_in) refl

  -- a part that stands there: whether it is the budget
  module _ (p : Part) (there : part_at bs i 66 85 ≡ Some p) where
    within : p.at + p.size ≤ length bs
    within = part-within bs BU i (omega arith) p there

    contents-long : length (take p.size (drop p.at bs)) ≡ p.size
    contents-long = length-take-le p.size (drop p.at bs) (let e = length-drop p.at bs in let w = within in omega arith)

    last : p.size ≡ 8 → ends (drop (p.at + p.size) bs) ≡ true
    last size =
        let begins : p.at ≡ i + 6 = grind (arith, part-there bs i 66 85 p there) in
        ends_is bs (p.at + p.size) within
        ∙ eq-eqb (p.at + p.size) (length bs) (let w = within in omega arith)

    number : p.size ≡ 8 → number64 (take p.size (drop p.at bs)) ≡ eight bs p.at
    number size =
        ap (λ n. number64 (take n (drop p.at bs))) size ∙ eight-told bs p.at (let w = within in omega arith)

  abbrev taken : Part → Option Budget
  taken p = cond (eqb p.size 8) (Some (record { at = i; trials = eight bs p.at })) None

  part_is : (o : Option Part) → part_at bs i 66 85 ≡ o → in_part (told bs o) ≡ trials_of (option_and_then taken o)
  unfolding in_part
  part_is None e = refl
  part_is (Some p) e = go (eqb p.size 8) refl
    where
      go : (t : Bool) → eqb p.size 8 ≡ t → in_part (told bs (Some p)) ≡ trials_of (taken p)
      go false f = rw (contents-long p e, f) refl
      go true f = let size = eqb-true p.size 8 f in rw (contents-long p e, f, last p e size, number p e size) refl

  pub budget-told : budget_in (drop i bs) ≡ trials_of (budget_at bs)
  unfolding budget_at
  budget-told = in-part (drop i bs) ∙ ap in_part (part-told bs BU i) ∙ part_is (part_at bs i 66 85) refl

  pub budget-begins : (b : Budget) → budget_at bs ≡ Some b → b.at ≡ i
  unfolding budget_at
  budget-begins b e = grind arith
