-- `moves::put_row` meets its contract: after c turns the first c columns are in place. Assumes nothing.
use Prim.Native.Nat.{◌≤◌}
use mathlib.Core.Path.{◌≡◌}
use lib.ListN.{length}
use lib.Seq.{paste}
use Rattle.words.specs.Words.{words_of}
use Rattle.words.proofs.moves.put_row.Given as goal

abbrev pub invariant-loop-c : goal.invariant-loop-c
invariant-loop-c l =
    (l.c ≤ l.n) × (length l.words ≡ length l.initial.words) × (l.words ≡ paste l.initial.words (words_of l.p) l.row (words_of l.c))
