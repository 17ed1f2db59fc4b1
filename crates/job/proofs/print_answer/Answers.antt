-- The first line and the rows shown, or the line of a refusal.
use Prim.Native.Nat.{◌*◌, ◌/◌, ◌≤◌}
use mathlib.Core.Path.{sym, subst}
use lib.ListN.{length}
use Rattle.job.proofs.RowLaws.{shown-room}
use Rattle.job.proofs.TextLaws.{answer-accepted, answer-refused}
use Rattle.job.proofs.WroteLaws.{wrote-within, printed-bytes, printed-count}
use Rattle.job.proofs.print_answer.Goals as goal

pub lines-requires : goal.lines-requires
lines-requires c =
    let a = c.args in
    let n = c.shown_rows in (
      wrote-within c.ok_line-next.ensures,
      subst (λ k. k * a.a.columns ≤ length a.words.now / 2) (sym n.ensures)
          (shown-room a.a.rows a.a.columns (length a.words.now)),
    )

pub returns-then-a-eq0 : goal.returns-then-a-eq0
returns-then-a-eq0 c =
    let a = c.args in
    let n = c.shown_rows in
    let w = answer-accepted a.a a.words.now n.result
    c.if-a-eq0.true n.ensures
    c.ok_line-next.ensures c.lines.ensures in record { bytes = printed-bytes w; count = printed-count w }

pub returns : goal.returns
returns c =
    let a = c.args in
    let w = answer-refused a.a a.words.now c.if-a-eq0.false
    c.no_line.ensures in record { bytes = printed-bytes w; count = printed-count w }
