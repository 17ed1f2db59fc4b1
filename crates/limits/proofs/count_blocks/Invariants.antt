-- `limits::count_blocks` meets its contract. The loop's invariant: the blocks to come, counted after those passed, give
-- the whole.
use mathlib.Core.Path.{◌≡◌}
use Rattle.limits.specs.Limits.{others_in}
use Rattle.limits.specs.Tally.{no_tally, tally_all}
use Rattle.limits.proofs.Steps.{others_from}
use Rattle.limits.proofs.count_blocks.Given as goal

abbrev pub invariant-loop-b : goal.invariant-loop-b
invariant-loop-b l =
    tally_all l.y (others_from l.s l.b-items l.b-index) ≡ tally_all no_tally (others_in l.s l.fn.q)
