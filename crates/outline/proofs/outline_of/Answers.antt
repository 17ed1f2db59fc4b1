-- Each field is what the call that gives it promises, over the block that is described.
-- Assumes nothing.
use mathlib.Core.Path.{ap, ◌∙◌}
use lib.ListN.{take}
use Rattle.model.specs.Matching.{live}
use Rattle.model.specs.Question.{names_in}
use Rattle.relations.specs.Rows.{most}
use Rattle.scope.specs.Masks.{mask_of}
use Rattle.outline.proofs.outline_of.Goals as goal

pub returns : goal.returns
returns c =
    let s = c.args.s.now in
    let there = c.block_of-b.ensures s in
    record {
      places-are = there;
      level-is = c.level-level.ensures s;
      named-are = c.named-named.ensures ∙ ap (λ b. mask_of (λ k. names_in k b)) there;
      live-are = c.live_of-live.ensures.rows ∙ ap (λ b. take most (live b)) there;
      few = c.live_of-live.ensures.few;
      three = c.live_of-live.ensures.three;
    }
