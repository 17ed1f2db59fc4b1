-- `filing::slots::file_slots` meets its contract. The loop's invariant: the slots before the i-th are filled, and no
-- other. Past the fifth block there is nothing to fill.
use mathlib.Core.Path.{◌≡◌}
use Rattle.filing.proofs.Cases.{slots_to}
use Rattle.filing.proofs.slots.file_slots.Given as goal

abbrev pub invariant-loop-i : goal.invariant-loop-i
invariant-loop-i l =
    l.files ≡ slots_to l.a l.block l.group l.n l.count l.sets l.initial.files l.i
