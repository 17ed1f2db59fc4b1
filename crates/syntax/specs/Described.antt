-- What the descriptions of a question mean: the model's question, decoded from its places in the bytes.
--   element_at bs i         the element at place i; elements_at bs n i: n elements, one after the other
--   relation_at bs i        the relation row whose mark stands at i; relations_at bs n i: n of them
--   condition_at bs i       the condition whose mark stands at i; conditions_at bs n i: n of them
--   described bs b         the block that description b tells of
--   blocks_in bs q          the question that the descriptions kept in q tell of
use Rattle.std.specs.Prelude.{ℕ, zero, suc, ◌+◌, List, [], ◌∷◌, map, take}
use Rattle.syntax.specs.Places.{byte_at, word_at, record_end, condition_end}
use Rattle.syntax.specs.declared.Block.{Block}
use Rattle.syntax.specs.declared.Question.{Question}
use Rattle.syntax.specs.declared.Record.TheVariants.{Rw}
use Rattle.model.specs.Format.{signed}
use Rattle.model.specs.Question.{Element, empty, constant, variable, fixed, aggregate, RelationRow, Condition}
use Rattle.model.specs.Question as model

abbrev pub decode : (k a f b c : ℕ) → Element
decode zero a f b c = empty
decode (suc zero) a f b c = constant (signed a)
decode (suc (suc zero)) a f b c = variable a
decode (suc (suc (suc zero))) a f b c = fixed a
decode (suc (suc (suc (suc k)))) a f b c = aggregate f b c

unfoldable pub element_at : List ℕ → ℕ → Element
element_at bs i = decode (byte_at bs i) (word_at bs (i + 1)) (byte_at bs (i + 1)) (byte_at bs (i + 2)) (byte_at bs (i + 3))

unfoldable pub elements_at : List ℕ → ℕ → ℕ → List Element
elements_at bs zero i = []
elements_at bs (suc n) i = element_at bs i ∷ elements_at bs n (i + 9)

unfoldable pub relation_at : List ℕ → ℕ → RelationRow
relation_at bs i = record { table = byte_at bs (i + 2); entries = elements_at bs (byte_at bs (i + 3)) (i + 4) }

unfoldable pub relations_at : List ℕ → ℕ → ℕ → List RelationRow
relations_at bs zero i = []
relations_at bs (suc n) i = relation_at bs i ∷ relations_at bs n (record_end Rw bs i)

unfoldable pub condition_at : List ℕ → ℕ → Condition
condition_at bs i =
    record { operator = byte_at bs (i + 2); left = element_at bs (i + 3); right = element_at bs (i + 12) }

unfoldable pub conditions_at : List ℕ → ℕ → ℕ → List Condition
conditions_at bs zero i = []
conditions_at bs (suc n) i = condition_at bs i ∷ conditions_at bs n (condition_end bs i)

unfoldable pub described : List ℕ → Block → model.Block
described bs b =
    record {
      parent = b.parent;
      relations = relations_at bs b.rows b.rows_at;
      conditions = conditions_at bs b.conditions b.conditions_at;
      outputs = elements_at bs b.outputs b.outputs_at;
    }

unfoldable pub blocks_in : List ℕ → Question → List model.Block
blocks_in bs q = map (described bs) (take q.count q.blocks)
