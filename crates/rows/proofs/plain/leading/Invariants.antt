-- The columns before c are plain.
use Prim.Native.Nat.{◌≤◌}
use Rattle.rows.specs.Plain.{PlainTo}
use Rattle.rows.proofs.plain.leading.Given as goal

abbrev pub invariant-loop-c : goal.invariant-loop-c
invariant-loop-c l = (l.c ≤ l.n) × PlainTo l.c l.row
