use Prim.Native.Nat.{◌-◌}
use Rattle.reader.specs.Causes.{ancestor}
use Rattle.model.specs.Question.{block_at}
use Rattle.reader.proofs.MaskLoops.{Climbing}
use Rattle.scope.specs.Masks.{mask_of}
use Rattle.syntax.specs.Described.{blocks_in}
use Rattle.reader.proofs.above_of.Given as goal

abbrev pub invariant-loop-step : goal.invariant-loop-step
invariant-loop-step l =
    Climbing (blocks_in l.s l.q) (mask_of (ancestor 5 (blocks_in l.s l.q) (block_at (blocks_in l.s l.q) l.j).parent)) (6 - l._step) l.up l.mask
