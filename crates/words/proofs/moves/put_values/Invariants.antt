-- `moves::put_values` meets its contract: after j turns the first j values are in place. Assumes nothing.
use Prim.Native.Nat.{◌≤◌}
use mathlib.Core.Path.{◌≡◌}
use lib.ListN.{length}
use lib.Seq.{paste}
use Rattle.words.specs.Words.{words_of}
use Rattle.words.proofs.moves.put_values.Given as goal

abbrev pub invariant-loop-j : goal.invariant-loop-j
invariant-loop-j l =
    (l.j ≤ l.m) × (length l.words ≡ length l.initial.words) × (l.words ≡ paste l.initial.words (words_of l.p) l.from (words_of l.j))
