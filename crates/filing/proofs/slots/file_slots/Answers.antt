use Rattle.groups.specs.Asking.{asked_at}
use Rattle.std.proofs.Common.{rules}
use Prim.Native.Nat.{◌+◌, ◌*◌}
use native.Mathlib.Omega.{arith}
use mathlib.Core.Path.{◌≡◌, ap, ◌∙◌}
use lib.ListN.{length}
use Rattle.filing.proofs.Cases.{slots_begin, slots_end, slots-left, slots-put}
use Rattle.filing.proofs.FileLaws.{slots_length}
use Rattle.filing.proofs.slots.file_slots.Goals as goal
use Rattle.filing.proofs.slots.file_slots.Goals.{then-ask, else-ask}

pub loop-i-init : goal.loop-i-init
loop-i-init c =
    let given = c.args in
    slots_begin given.a.now given.block given.group given.n given.count given.sets.now given.files.now

pub loop-i-preserved : goal.loop-i-preserved
loop-i-preserved c =
    let given = c.args in
    let i = c.loop-i.i in
    let k = c.from.result in
    let there : c.unwrap_or-ask.result ≡ asked_at given.a.now (3 * k + i) = search rules in
    elim c.if-ask.branch [
      | then-ask w ↦
          w.files-is
          ∙ slots-put given.a.now given.block given.group given.n given.count k i c.unwrap_or-ask.result given.sets.now
          given.files.now c.loop-i.files c.from.ensures there c.loop-i.invariant
          c.slot_place-at.result w.put_slot.new.files (λ e. omega (arith, w.if-ask.true, e)) c.slot_place-at.ensures.0
          w.put_slot.ensures
      | else-ask w ↦
          w.files-is
          ∙ slots-left given.a.now given.block given.group given.n given.count k i c.unwrap_or-ask.result given.sets.now
          given.files.now c.loop-i.files c.from.ensures there c.loop-i.invariant (omega (arith, w.if-ask.false))
    ]

pub shape_of-files : goal.shape_of-files
shape_of-files c =
    let given = c.args in
    ap length c.loop-i.invariant
    ∙ slots_length given.a.now given.block given.group given.n given.count given.sets.now
    given.files.now c.loop-i.i

pub returns : goal.returns
returns c =
    let given = c.args in
    slots_end given.a.now given.block given.group given.n given.count c.loop-i.i given.sets.now
    given.files.now c.loop-i.files (omega arith) (omega arith) c.loop-i.invariant
