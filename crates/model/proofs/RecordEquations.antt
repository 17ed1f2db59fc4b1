-- The equations of specs/Records, one for each case.
use Prim.Native.Nat.{ℕ, suc}
use mathlib.Core.Bool.{true, false, ◌&&◌}
use mathlib.Core.List.{List, [], ◌∷◌}
use mathlib.Core.Option.{none, some}
use mathlib.Core.Path.{◌≡◌, refl}
use lib.Dec.{eqb}
use lib.ListN.{length, drop}
use Rattle.model.specs.Format.{Parser, after, ◌>>=◌, give, byte, relation, condition, output}
use Rattle.model.specs.Question.{Block}
use Rattle.model.specs.Records.{Mark, BK, RW, CD, OL, EN, marked, many, one, block, ends, question, is_question}
use Rattle.model.specs.Records.{blocks_of, well_formed, question_of}

pub marked-nil : (m : Mark) → marked m [] ≡ false
unfolding marked
marked-nil m = refl

pub marked_short : (m : Mark) (a : ℕ) → marked m (a ∷ []) ≡ false
unfolding marked
marked_short m a = refl

pub marked_two : (m : Mark) (a b : ℕ) (bs : List ℕ) → marked m (a ∷ b ∷ bs) ≡ eqb a m.first && eqb b m.second
unfolding marked
marked_two m a b bs = refl

module _ {A : Type 0} where
  pub many-spent : (m : Mark) (p : Parser A) (bs : List ℕ) → many 0 m p bs ≡ some ([], bs)
  unfolding many
  many-spent m p bs = refl

  pub many_more : (n : ℕ) (m : Mark) (p : Parser A) (bs : List ℕ) → marked m bs ≡ true
      → many (suc n) m p bs ≡ after (p (drop 2 bs)) (λ a cs. after (many n m p cs) (λ xs ds. some (a ∷ xs, ds)))
  unfolding many
  many_more n m p bs e = rw (e, many)

  pub many-ends : (n : ℕ) (m : Mark) (p : Parser A) (bs : List ℕ) → marked m bs ≡ false
      → many (suc n) m p bs ≡ some ([], bs)
  unfolding many
  many-ends n m p bs e = rw (e, many)

  pub one-there : (m : Mark) (p : Parser A) (bs : List ℕ) → marked m bs ≡ true → one m p bs ≡ p (drop 2 bs)
  unfolding one
  one-there m p bs e = rw (e, one)

  pub one-missing : (m : Mark) (p : Parser A) (bs : List ℕ) → marked m bs ≡ false → one m p bs ≡ none
  unfolding one
  one-missing m p bs e = rw (e, one)

pub block-nil : (n : ℕ) → block n [] ≡ none
unfolding block ◌>>=◌ after byte
block-nil n = refl

pub block_read : (n p : ℕ) (bs : List ℕ)
    → block n (p ∷ bs)
    ≡ after (many n RW relation bs) (λ ws cs. after (many n CD condition cs) (λ xs ds. after (one OL output ds)
    (λ os es. some (record { parent = p; relations = ws; conditions = xs; outputs = os }, es))))
unfolding block ◌>>=◌ after byte give
block_read n p bs = refl

pub ends-nil : ends [] ≡ true
unfolding ends
ends-nil = refl

pub ends-cons : (b : ℕ) (bs : List ℕ) → ends (b ∷ bs) ≡ false
unfolding ends
ends-cons b bs = refl

pub question_malformed : (bs : List ℕ) → many (length bs) BK (block (length bs)) bs ≡ none → question bs ≡ none
unfolding question
question_malformed bs h = rw (h, question)

pub question_unended : (bs : List ℕ) (q : List Block) (cs : List ℕ)
    → many (length bs) BK (block (length bs)) bs ≡ some (q, cs) → marked EN cs && ends (drop 2 cs) ≡ false
    → question bs ≡ none
unfolding question
question_unended bs q cs h e = rw (h, e, question)

pub question_read : (bs : List ℕ) (q : List Block) (cs : List ℕ)
    → many (length bs) BK (block (length bs)) bs ≡ some (q, cs) → marked EN cs && ends (drop 2 cs) ≡ true
    → question bs ≡ some q
unfolding question
question_read bs q cs h e = rw (h, e, question)

pub well_formed_is : (bs : List ℕ) → well_formed bs ≡ is_question (question bs)
unfolding well_formed
well_formed_is bs = refl

pub question_of_is : (bs : List ℕ) → question_of bs ≡ blocks_of (question bs)
unfolding question_of
question_of_is bs = refl
