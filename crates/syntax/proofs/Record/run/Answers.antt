use Prim.Native.Nat.{◌-◌}
use native.Mathlib.Omega.{arith}
use mathlib.Core.Path.{sym, ◌∙◌}
use lib.ListN.{length}
use Rattle.syntax.proofs.Laws.{run_turned, run_done, record_in}
use Rattle.syntax.proofs.Record.run.Goals as goal

pub loop-self-smaller : goal.loop-self-smaller
loop-self-smaller c =
    let h = record_in c.args.self c.args.s.now c.loop-self.i (sym c.stands.ensures ∙ c.loop-self-test.true) in omega arith

pub loop-self-preserved : goal.loop-self-preserved
loop-self-preserved c =
    let a = c.args in
    let l = c.loop-self in
    let ok = sym c.stands.ensures ∙ c.loop-self-test.true in
    let h = record_in a.self a.s.now l.i ok in (
      omega arith,
      omega arith,
      run_turned a.self a.s.now l.n l.i (omega arith) ok c.end_of-i.ensures ∙ l.invariant.2,
    )

pub returns : goal.returns
returns c =
    let a = c.args in
    let l = c.loop-self in (
      sym (run_done (length a.s.now - l.n) a.self a.s.now l.n l.i (sym c.stands.ensures ∙ c.loop-self-test.false))
          ∙ l.invariant.2,
      l.invariant.1,
    )
