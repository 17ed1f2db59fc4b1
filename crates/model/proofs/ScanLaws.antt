-- Under an admitted path the first relation row's scan finds all its matches, though it tries fewer rows.
use Prim.Native.Nat.{ℕ, zero, suc, ◌<◌}
use native.Mathlib.Omega.{arith}
use mathlib.Core.Bool.{not}
use mathlib.Core.List.{List, ◌∷◌, []}
use mathlib.Core.Logic.{inl, inr}
use mathlib.Core.Path.{◌≡◌, refl, sym, subst}
use lib.Dec.{T, not_T, eqb, eqb_refl}
use lib.IntN.{ℤ}
use lib.ListN.{length, get_or}
use Rattle.model.specs.Lists.{all, In, All}
use Rattle.model.specs.Matching.{live}
use Rattle.model.specs.Plan.{Path, file, index, merging, entry_at, head_entry, wants_one, admits}
use Rattle.model.specs.Question.{Element, empty, constant, fixed, RelationRow, Block, block_at, is_empty, is_var, variable, aggregate}
use Rattle.model.specs.Question.{in_rows, is_fixed, any_fixed}
use Rattle.model.specs.Scan.{Binding, scan_rows, scan}
use Rattle.model.specs.Scope.{owns, refers, outsiders}
use Rattle.model.specs.Trials.{tried_rows}
use Rattle.model.proofs.BoundLaws.{Ready}
use Rattle.model.proofs.IndexScanLaws.{Wanting, index-scan}
use Rattle.model.proofs.MatchLaws.{Bound, none-in-rows}
use Rattle.model.proofs.MergeLaws.{filter-rows, in_rows_lem, above-lt}
use Rattle.model.proofs.Sound.{Sound}
use Rattle.model.proofs.Tests.{and_left, or_left}

-- an entry that wants a value is there
wanting_in : (es : List Element) (c : ℕ) → T (wants_one (get_or es c empty)) → (c < length es) × In (get_or es c empty) es
wanting_in (e ∷ es) zero t = (omega arith, inl refl)
wanting_in (e ∷ es) (suc c) t = let r = wanting_in es c t in (let h = r.0 in omega arith, inr r.1)
wanting_in [] c t = elim t [ ]

fixed-wants : (e : Element) → T (any_fixed e) → T (wants_one e)
fixed-wants (fixed v) t = tt
fixed-wants empty t = elim t [ ]
fixed-wants (constant _) t = elim t [ ]
fixed-wants (variable _) t = elim t [ ]
fixed-wants (aggregate function block column) t = elim t [ ]

module _ (q : List Block) (S : Sound q) (k : ℕ) (here : k < length q) (b : Binding) (ready : Ready q k b) (d : List ℤ)
    (w : RelationRow) (ws : List RelationRow) (head : live (block_at q k) ≡ w ∷ ws) where
  -- a fixed variable of the first relation row is bound, and no entry of the row is that variable
  fixed-bound : (v : ℕ) → In (fixed v) w.entries → Bound v b × All (λ e. T (not (is_var v e))) w.entries
  unfolding Ready refers owns live
  fixed-bound v i =
      let t : T (in_rows (is_fixed v) (live (block_at q k))) =
      subst (λ l. T (in_rows (is_fixed v) l)) (sym head)
      (in_rows_lem (is_fixed v) w (fixed v) (w ∷ ws) (inl refl) i (eqb_refl v)) in
      let r : T (refers v (block_at q k)) = or_left (in_rows (is_fixed v) (block_at q k).relations) _
      (filter-rows (is_fixed v) (λ x. not (all is_empty x.entries)) (block_at q k).relations t) in
      let a = S.above v k here r in
      let l = above-lt q S a.0 a.1 5 k here a.2 in
      let n : T (not (in_rows (is_var v) (live (block_at q k)))) =
      not_T (in_rows (is_var v) (live (block_at q k)))
      (λ o. let e = S.once v a.0 k a.1 here a.3
      (filter-rows (is_var v) (λ x. not (all is_empty x.entries)) (block_at q k).relations o) in
      omega arith) in (
        ready v a.0 a.1 a.2 a.3,
        (none-in-rows v (w ∷ ws) (subst (λ l. T (not (in_rows (is_var v) l))) head n)).0,
      )

  wanting : (e : Element) → T (wants_one e) → In e w.entries → Wanting w.entries b e
  wanting (constant x) t i = tt
  wanting (fixed v) t i = fixed-bound v i
  wanting empty t i = elim t [ ]
  wanting (variable _) t i = elim t [ ]
  wanting (aggregate function block column) t i = elim t [ ]

  by_column : (c : ℕ) → T (wants_one (head_entry (live (block_at q k)) c))
      → (c < length w.entries) × Wanting w.entries b (entry_at w c)
  by_column c t =
      let s : T (wants_one (entry_at w c)) = subst (λ l. T (wants_one (head_entry l c))) head t in
      let r = wanting_in w.entries c s in
      (r.0, wanting (entry_at w c) s r.1)

  pub first-scan : (p : Path) → T (admits q k p) → scan_rows (tried_rows p d w b) w.entries b ≡ scan d w b
  unfolding tried_rows admits
  first-scan file t = refl
  first-scan (index c) t = let r = by_column c t in index-scan d w c b r.0 r.1
  first-scan (merging c) t =
      let r = by_column c (fixed-wants (head_entry (live (block_at q k)) c)
      (and_left (any_fixed (head_entry (live (block_at q k)) c)) (eqb (length (outsiders q k)) 1) t)) in
      index-scan d w c b r.0 r.1
