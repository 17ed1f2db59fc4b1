-- A walk that is done, and one that goes on. Each place that a walk yields lies before the end (`places_within`). The
-- records of a list are what stands at the places that the walk yields, then empty ones (`elements_walk`,
-- `conditions_walk`, `relations_walk`).
use Rattle.std.proofs.Common.{ℕ, zero, suc, ◌+◌, ◌-◌, ◌≡◌, List, [], ◌∷◌, ◌++◌, true, false, ◌||◌, ◌<◌, ◌≤◌, length, map, replicate, refl, sym, ap, ◌∙◌, arith, nat_eq, leb, ltb}
use native.Mathlib.Numerals.{unary_clauses}
use Rattle.model.specs.Lists.{All}
use Rattle.model.specs.Question.{empty}
use Rattle.syntax.specs.Described.{element_at, elements_at, relation_at, relations_at, condition_at, conditions_at}
use Rattle.syntax.specs.Places.{record_end}
use Rattle.syntax.specs.declared.Record.{Record}
use Rattle.syntax.specs.declared.Record.TheVariants.{Rw, Cd}
use Rattle.syntax.specs.Walks.{places, element_places, condition_places, relation_places}
use Rattle.syntax.proofs.Blocks.{relations_are, conditions_are}
use Rattle.syntax.proofs.Conditions.{element-past, condition_past}
use Rattle.syntax.proofs.Laws.{byte_past, on}
use Rattle.syntax.proofs.Runs.{list_at}

module _ (end : ℕ → ℕ) (bs : List ℕ) where
  pub walk_done : (n i : ℕ) → (nat_eq n 0 || leb (length bs) i) ≡ true → places end bs n i ≡ []
  unfolding places
  walk_done zero i e = refl
  walk_done (suc n) i e = let f : ltb i (length bs) ≡ false = grind arith in rw f refl

  pub walk_goes : (n i : ℕ) → (nat_eq n 0 || leb (length bs) i) ≡ false
      → places end bs n i ≡ i ∷ places end bs (n - 1) (end i)
  unfolding places
  walk_goes zero i e = grind arith
  walk_goes (suc n) i e = let f : ltb i (length bs) ≡ true = grind arith in rw f (simp unary_clauses refl)

  -- each place that is yielded lies before the end
  pub places_within : (n i : ℕ) → All (λ j. j < length bs) (places end bs n i)
  unfolding places
  places_within zero i = tt
  places_within (suc n) i =
      on (ltb i (length bs)) (λ f. rw f (grind arith, places_within n (end i))) (λ f. rw f tt)

-- records of one kind, each given by its place: past the end all are e
module _ {A : Type 0} (val : ℕ → A) (end : ℕ → ℕ) (bs : List ℕ) (e : A)
    (past : (i : ℕ) → length bs ≤ i → val i ≡ e) (stays : (i : ℕ) → length bs ≤ i → length bs ≤ end i) where
  past_all : (n i : ℕ) → length bs ≤ i → list_at val end n i ≡ replicate n e
  unfolding list_at
  past_all zero i h = refl
  past_all (suc n) i h = let p = past i h in let q = past_all n (end i) (stays i h) in cc

  walk : (n i : ℕ) → (k : ℕ) × (list_at val end n i ≡ map val (places end bs n i) ++ replicate k e)
  unfolding list_at places
  walk zero i = (0, refl)
  walk (suc n) i =
      on (ltb i (length bs))
      (λ f. let w = walk n (end i) in rw f (w.0, ap (λ l. val i ∷ l) w.1))
      (λ f. let h : length bs ≤ i = grind arith in rw f (suc n, past_all (suc n) i h))

module _ (bs : List ℕ) where
  elements_listed : (n i : ℕ) → elements_at bs n i ≡ list_at (element_at bs) (λ j. j + 9) n i
  unfolding elements_at list_at
  elements_listed zero i = refl
  elements_listed (suc n) i = ap (λ l. element_at bs i ∷ l) (elements_listed n (i + 9))

  row-past : (i : ℕ) → length bs ≤ i → relation_at bs i ≡ record { table = 0; entries = [] }
  unfolding relation_at elements_at
  row-past i h = let a = byte_past bs (i + 2) (omega arith) in let b = byte_past bs (i + 3) (omega arith) in rw (sym a, sym b) refl

  stays : (r : Record) (i : ℕ) → length bs ≤ i → length bs ≤ record_end r bs i
  unfolding record_end
  stays r i h = omega arith

  pub elements_walk : (n i : ℕ)
      → (k : ℕ) × (elements_at bs n i ≡ map (element_at bs) (element_places bs n i) ++ replicate k empty)
  elements_walk n i =
      let w = walk (element_at bs) (λ j. j + 9) bs empty (element-past bs) (λ j h. omega arith) n i in
      (w.0, elements_listed n i ∙ w.1)

  pub conditions_walk : (n i : ℕ)
      → (k : ℕ)
      × (conditions_at bs n i
      ≡ map (condition_at bs) (condition_places bs n i) ++ replicate k (record { operator = 0; left = empty; right = empty }))
  conditions_walk n i =
      let w = walk (condition_at bs) (record_end Cd bs) bs _ (condition_past bs) (stays Cd) n i in
      (w.0, conditions_are bs n i ∙ w.1)

  pub relations_walk : (n i : ℕ)
      → (k : ℕ)
      × (relations_at bs n i
      ≡ map (relation_at bs) (relation_places bs n i) ++ replicate k (record { table = 0; entries = [] }))
  relations_walk n i =
      let w = walk (relation_at bs) (record_end Rw bs) bs _ row-past (stays Rw) n i in
      (w.0, relations_are bs n i ∙ w.1)
