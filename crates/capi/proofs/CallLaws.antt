-- Laws of the exported calls: four words written in turn, and what a call gives where the words are enough or not.
-- Assumes nothing.
use Prim.Native.Nat.{ℕ, ◌≤◌, ◌<◌}
use native.Mathlib.Omega.{arith}
use mathlib.Core.Bool.{Bool, true, false, ◌&&◌}
use mathlib.Core.List.{List, [], ◌∷◌}
use mathlib.Core.Path.{◌≡◌, refl, ◌∙◌, ap}
use borrow.Author.Tests.{le-leb, lt-leb, ltb-true}
use lib.Dec.{ltb}
use lib.IntN.{ℤ}
use lib.ListN.{length, set}
use Rattle.engine.specs.Runs.{lengths_of}
use Rattle.model.specs.Answer.{answer_of, result_after, sets_after, files_after, indexes_after}
use Rattle.model.specs.Lists.{overwrite}
use Rattle.model.specs.Refusal.{first_of, data_causes}
use Rattle.model.specs.Tables.{tables, columns}
use Rattle.model.specs.declared.Answer.{Answer}
use Rattle.tables.proofs.LaidLaws.{accepted-laid}
use Rattle.capi.specs.Calls.{figures_in, given}

pub four-put : (a b c d : ℕ) (l : List ℕ) → 4 ≤ length l
    → set (set (set (set l 0 a) 1 b) 2 c) 3 d ≡ overwrite (a ∷ b ∷ c ∷ d ∷ []) l
unfolding overwrite
four-put a b c d [] h = absurd (omega arith)
four-put a b c d (x ∷ []) h = absurd (omega arith)
four-put a b c d (x ∷ y ∷ []) h = absurd (omega arith)
four-put a b c d (x ∷ y ∷ z ∷ []) h = absurd (omega arith)
four-put a b c d (x ∷ y ∷ z ∷ w ∷ l) h = refl

module _ (d : List ℤ) (bs ps : List ℕ) (budget : ℕ) (r sets files : List ℤ) (ix figures : List ℕ) where
  abbrev answer : Answer
  answer = answer_of (lengths_of r sets files ix) d bs ps budget

  -- number, figures and the four buffers afterwards
  abbrev pub Called : ℕ → List ℕ → List ℤ → List ℤ → List ℤ → List ℕ → Type 0
  Called n figures' r' sets' files' ix' =
      (n ≡ given (length figures) answer.number 1)
      × ((figures' ≡ given (length figures) (overwrite (figures_in answer) figures) figures)
      × ((r' ≡ given (length figures) (result_after (lengths_of r sets files ix) d bs ps budget r) r)
      × ((sets' ≡ given (length figures) (sets_after answer sets) sets)
      × ((files' ≡ given (length figures) (files_after answer files) files)
      × (ix' ≡ given (length figures) (indexes_after answer ix) ix)))))

  pub called-short : length figures < 4 → Called 1 figures r sets files ix
  called-short h = rw (lt-leb 4 (length figures) h) (refl, (refl, (refl, (refl, (refl, refl)))))

  pub called : 4 ≤ length figures → (a : Answer) (figures' : List ℕ) (r' sets' files' : List ℤ) (ix' : List ℕ)
      → a ≡ answer → figures' ≡ overwrite (figures_in a) figures
      → r' ≡ result_after (lengths_of r sets files ix) d bs ps budget r → sets' ≡ sets_after a sets
      → files' ≡ files_after a files → ix' ≡ indexes_after a ix → Called a.number figures' r' sets' files' ix'
  called h a figures' r' sets' files' ix' e f g s t u =
      rw (le-leb 4 (length figures) h) (
        ap (λ (x : Answer). x.number) e,
        (
          f ∙ ap (λ (x : Answer). overwrite (figures_in x) figures) e,
          (
            g,
            (
              s ∙ ap (λ (x : Answer). sets_after x sets) e,
              (t ∙ ap (λ (x : Answer). files_after x files) e, u ∙ ap (λ (x : Answer). indexes_after x ix) e),
            ),
          ),
        ),
      )

-- a table or a column past 255 is absent
pub absent : (d : List ℤ) (t c : ℕ) → first_of (data_causes d) ≡ 0 → (t < 256 → c < 256 → ⊥)
    → (ltb t (tables d) && ltb c (columns d t)) ≡ false
absent d t c z h = go (ltb t (tables d)) refl (ltb c (columns d t)) refl
  where
    go : (x : Bool) → ltb t (tables d) ≡ x → (y : Bool) → ltb c (columns d t) ≡ y → (x && y) ≡ false
    go false e y f = refl
    go true e false f = refl
    go true e true f =
        let l = ltb-true t (tables d) e in let m = ltb-true c (columns d t) f in
        absurd (h (omega (arith, (accepted-laid d z).few-tables)) (omega (arith, (accepted-laid d z).few-columns t l)))
