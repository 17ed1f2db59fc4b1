-- A question's records in their order (01, "The question"; cause 5): the parsers of a block and of the whole.
--   Mark               the two letters before a record: BK, RW, CD, OL, EN
--   marked m bs        mark m stands next
--   many n m p         records of mark m as long as it stands next, at most n; one m p: just one
--   block n            a block after its mark BK, at most n records of a kind
--   question bs        the blocks, then EN, then nothing
--   well_formed bs      cause 5 does not apply
--   question_of bs      the question, no blocks where there is none
use Rattle.std.specs.Prelude.{ℕ, zero, suc, Bool, true, false, ◌&&◌, List, [], ◌∷◌, eqb, length, drop}
use Rattle.std.proofs.Math.Option.{Option, none, some}
use Rattle.model.specs.Format.{Parser, after, ◌>>=◌, give, byte, relation, condition, output}
use Rattle.model.specs.Question.{Block}

pub record Mark : Type 0 where
  pub first : ℕ
  pub second : ℕ

abbrev pub BK : Mark
BK = record { first = 66; second = 75 }

abbrev pub RW : Mark
RW = record { first = 82; second = 87 }

abbrev pub CD : Mark
CD = record { first = 67; second = 68 }

abbrev pub OL : Mark
OL = record { first = 79; second = 76 }

abbrev pub EN : Mark
EN = record { first = 69; second = 78 }

unfoldable pub marked : Mark → List ℕ → Bool
marked m [] = false
marked m (a ∷ []) = false
marked m (a ∷ b ∷ bs) = eqb a m.first && eqb b m.second

module _ {A : Type 0} where
  unfoldable pub many : ℕ → Mark → Parser A → Parser (List A)
  many zero m p bs = some ([], bs)
  many (suc n) m p bs = elim (marked m bs) [
    | true ↦ after (p (drop 2 bs)) (λ a cs. after (many n m p cs) (λ xs ds. some (a ∷ xs, ds)))
    | false ↦ some ([], bs)
  ]

  unfoldable pub one : Mark → Parser A → Parser A
  one m p bs = elim (marked m bs) [ true ↦ p (drop 2 bs) | false ↦ none ]

unfoldable pub block : ℕ → Parser Block
block n = do
  p ← byte
  ws ← many n RW relation
  cs ← many n CD condition
  os ← one OL output
  give (record { parent = p; relations = ws; conditions = cs; outputs = os })

unfoldable pub ends : List ℕ → Bool
ends [] = true
ends (b ∷ bs) = false

-- a record takes at least two bytes, so their number is enough for every `many`
unfoldable pub question : List ℕ → Option (List Block)
question bs = elim (many (length bs) BK (block (length bs)) bs) [
  | none ↦ none
  | some p ↦ elim (marked EN p.1 && ends (drop 2 p.1)) [ true ↦ some p.0 | false ↦ none ]
]

abbrev pub is_question : Option (List Block) → Bool
is_question none = false
is_question (some q) = true

abbrev pub blocks_of : Option (List Block) → List Block
blocks_of none = []
blocks_of (some q) = q

unfoldable pub well_formed : List ℕ → Bool
well_formed bs = is_question (question bs)

unfoldable pub question_of : List ℕ → List Block
question_of bs = blocks_of (question bs)
