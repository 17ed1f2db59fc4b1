-- The items that stand in output columns, and what a block is that stands nowhere (01, number 9).
--   element_of e        the element that item e is
--   passes_on e         item e is a min or a max: a ratio where its column is one
--   is_average e        item e is an average: a ratio whatever its column is
--   absent_block        the description of a block that stands nowhere: no records, and no parent
use Rattle.std.specs.Prelude.{Bool, ◌&&◌, ◌||◌, eqb, ltb}
use Rattle.model.specs.Question.{Element}
use Rattle.syntax.specs.Described.{decode}
use Rattle.syntax.specs.Places.{no_block}
use Rattle.syntax.specs.declared.Block.{Block}
use Rattle.syntax.specs.declared.Item.{Item}

abbrev pub element_of : Item → Element
element_of e = decode e.kind e.argument e.function e.block e.column

abbrev pub passes_on : Item → Bool
passes_on e = ltb 3 e.kind && (eqb e.function 2 || eqb e.function 3)

abbrev pub is_average : Item → Bool
is_average e = ltb 3 e.kind && ltb 3 e.function

abbrev pub absent_block : Block
absent_block = record no_block { parent = 255 }
