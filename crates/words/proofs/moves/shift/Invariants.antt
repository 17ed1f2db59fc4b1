-- `moves::shift` meets its contract: after each turn the values from place j to where the fours ended are moved up, and
-- the fours before them. Assumes nothing.
use Rattle.words.specs.Words.{words_of}
use Rattle.words.proofs.ShiftLoop.{Moved}
use Rattle.words.proofs.moves.shift.Given as goal

abbrev pub invariant-loop-j : goal.invariant-loop-j
invariant-loop-j l = Moved l.initial.words (words_of l.p) (words_of l.initial.j) (words_of l.m) l.words (words_of l.j)

abbrev pub decreases-loop-j : goal.decreases-loop-j
decreases-loop-j l = l.j
