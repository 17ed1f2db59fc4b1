-- The causes 7 to 10 of one element, by its kind, from its 64 bits and the masks of its block: 11 where none applies.
--   in_mask mask v            variable v is from 0 to 15 and in the mask
--   constant_cause a          a constant, given by its 64 bits, beyond 10^15 in size: 10
--   variable_cause own two v  a variable not from 0 to 15: 7; not the block's own, or of two blocks: 8
--   fixed_cause above v       a fixed variable not from 0 to 15: 7; of no ancestor: 8
--   aggregate_cause t f r     an aggregate: 7 unless t tells that its column is there, 9 where it sums a ratio column
use Rattle.std.specs.Prelude.{ℕ, Bool, ◌&&◌, ◌||◌, not, cond, eqb, ltb, leb, nat_abs, get_or}
use Rattle.model.specs.Format.{signed}
use Rattle.scope.specs.Masks.{has_bit}
use Rattle.syntax.specs.Places.{no_block}
use Rattle.syntax.specs.declared.Block.{Block}
use Rattle.syntax.specs.declared.Question.{Question}

abbrev pub in_mask : (mask v : ℕ) → Bool
in_mask mask v = ltb v 16 && has_bit mask v

abbrev pub constant_cause : ℕ → ℕ
constant_cause a = cond (leb (nat_abs (signed a)) 1000000000000000) 11 10

abbrev pub variable_cause : (own two v : ℕ) → ℕ
variable_cause own two v = cond (ltb v 16) (cond (in_mask own v && not (in_mask two v)) 11 8) 7

abbrev pub fixed_cause : (above v : ℕ) → ℕ
fixed_cause above v = cond (ltb v 16) (cond (in_mask above v) 11 8) 7

abbrev pub aggregate_cause : Bool → ℕ → Bool → ℕ
aggregate_cause t f r = cond t (cond ((eqb f 1 || eqb f 4) && r) 9 11) 7

abbrev pub block_of : Question → ℕ → Block
block_of q k = cond (ltb k 5) (get_or q.blocks k no_block) no_block

abbrev pub child_there : Question → (j k c : ℕ) → Bool
child_there q j k c =
    ltb k q.count && ltb k 5 && (ltb 0 k && eqb (block_of q k).parent j && ltb c (block_of q k).outputs)
