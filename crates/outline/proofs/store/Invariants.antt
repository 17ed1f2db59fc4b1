-- The descriptions of the blocks below the next are in their places.

use lib.ListN.{get_or}
use Rattle.outline.proofs.PartLaws.{Storing}
use Rattle.outline.proofs.StoredLaws.{stored_words}
use Rattle.outline.specs.Stored.{no_outline, Narrow}
use Rattle.outline.proofs.store.Given as goal

abbrev pub invariant-loop-block : goal.invariant-loop-block
invariant-loop-block l =
    Storing (stored_words l.q.blocks) (λ k. Narrow (get_or l.q.blocks k no_outline)) 0 l.initial.code l.block l.code
