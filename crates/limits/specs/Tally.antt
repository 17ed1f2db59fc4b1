-- Aggregates counted by the block number that they name, each number to 4 and no further.
--   no_tally           nothing counted
--   bump t k          one more aggregate of block k: `over` is set where it is the fourth
--   tally_of t e       element e counted; tally_all t es: each element of a list
--   sides c           the two elements of a condition
use Rattle.std.specs.Prelude.{ℕ, ◌+◌, false, ◌||◌, cond, List, [], ◌∷◌, eqb, ltb, get_or, set, replicate}
use Rattle.model.specs.Question.{Element, empty, constant, variable, fixed, aggregate, Condition}
use Rattle.limits.specs.declared.Tally.{Tally}

abbrev pub no_tally : Tally
no_tally = record { counts = replicate 256 0; over = false }

unfoldable pub bump : Tally → ℕ → Tally
bump t k =
    cond (ltb (get_or t.counts k 0) 4)
    (record {
      counts = set t.counts k (get_or t.counts k 0 + 1);
      over = t.over || eqb (get_or t.counts k 0) 3;
    })
    t

abbrev pub tally_of : Tally → Element → Tally
tally_of t empty = t
tally_of t (constant x) = t
tally_of t (variable v) = t
tally_of t (fixed v) = t
tally_of t (aggregate f k c) = bump t k

unfoldable pub tally_all : Tally → List Element → Tally
tally_all t [] = t
tally_all t (e ∷ es) = tally_all (tally_of t e) es

abbrev pub sides : Condition → List Element
sides c = c.left ∷ c.right ∷ []
