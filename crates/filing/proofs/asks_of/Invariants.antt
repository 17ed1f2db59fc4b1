-- `filing::asks_of` meets its contract. The loop's invariant: the blocks from the k-th on, after those passed, give
-- the whole. Five blocks are kept, whatever the count.
use mathlib.Core.Path.{◌≡◌}
use Rattle.limits.specs.Limits.{others_in}
use Rattle.filing.specs.Asks.{no_asked, ask_all}
use Rattle.filing.proofs.Walks.{others_from}
use Rattle.filing.proofs.asks_of.Given as goal

abbrev pub invariant-loop-k : goal.invariant-loop-k
invariant-loop-k l = ask_all l.y (others_from l.s l.q l.k) ≡ ask_all no_asked (others_in l.s l.q)
