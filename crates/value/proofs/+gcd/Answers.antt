-- `gcd` meets its contract: by zero it is the first number, else Euclid's step.
use Rattle.std.proofs.Common.{sym, ap, ◌∙◌}
use native.Mathlib.Nat.{pos_of_ne-zero}
use Rattle.value.proofs.Euclid.{gcd-zero, gcd_step}
use Rattle.model.specs.Value as model
use Rattle.value.proofs.+gcd.Goals as goal

pub returns-then-b-eq0 : goal.returns-then-b-eq0
returns-then-b-eq0 t c = sym (ap (λ b. model.gcd c.args.a b) c.if-b-eq0.true ∙ gcd-zero _)

pub returns-else-b-eq0 : goal.returns-else-b-eq0
returns-else-b-eq0 t c = c.gcd.ensures ∙ sym (gcd_step _ _ (pos_of_ne-zero c.if-b-eq0.false))
