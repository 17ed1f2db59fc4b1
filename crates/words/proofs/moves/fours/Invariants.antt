-- `moves::fours` meets its contract: after each turn the values from place j on are moved up. Assumes nothing.
use Prim.Native.Nat.{◌≤◌}
use mathlib.Core.Path.{◌≡◌}
use lib.ListN.{length}
use Rattle.words.specs.Words.{words_of, shifted}
use Rattle.words.proofs.moves.fours.Given as goal

abbrev pub invariant-loop-j : goal.invariant-loop-j
invariant-loop-j l =
    (l.p ≤ l.j) × (l.j ≤ l.e) × (length l.words ≡ length l.initial.words)
    × (l.words ≡ shifted (words_of l.j) (words_of l.e) (words_of l.m) l.initial.words)

abbrev pub decreases-loop-j : goal.decreases-loop-j
decreases-loop-j l = l.j
