-- The aggregates that name each block, taken from a list of elements: the first three of each of five blocks.
--   no_asked            none is asked for
--   kept_of a k         how many are kept for block k
--   ask a f k c        function f of column c of block k in the next slot of the block; a where it has none
--   ask_of a e          element e asked for, where it is an aggregate; ask_all a es: each element of a list, in order
--   asked_by k e        function and column of e, where e is an aggregate of block k; asked_of k es: those of a list
--   sides c            the two elements of a condition
use Rattle.std.specs.Prelude.{ℕ, ◌+◌, ◌*◌, ◌&&◌, cond, List, [], ◌∷◌, eqb, ltb, get_or, set, replicate}
use Rattle.groups.specs.Asking.{no_ask}
use Rattle.groups.specs.declared.Asked.{Asked}
use Rattle.model.specs.Lists.{concat_map}
use Rattle.model.specs.Question.{Element, empty, constant, variable, fixed, aggregate, Condition}

abbrev pub no_asked : Asked
no_asked = record { slots = replicate 15 no_ask; counts = replicate 5 0 }

abbrev pub kept_of : Asked → ℕ → ℕ
kept_of a k = get_or a.counts k 0

unfoldable pub ask : Asked → (f k c : ℕ) → Asked
ask a f k c =
    cond (ltb k 5 && ltb (kept_of a k) 3)
    (record {
      slots = set a.slots (3 * k + kept_of a k) (record { function = f; column = c });
      counts = set a.counts k (kept_of a k + 1);
    })
    a

abbrev pub ask_of : Asked → Element → Asked
ask_of a empty = a
ask_of a (constant x) = a
ask_of a (variable v) = a
ask_of a (fixed v) = a
ask_of a (aggregate f k c) = ask a f k c

unfoldable pub ask_all : Asked → List Element → Asked
ask_all a [] = a
ask_all a (e ∷ es) = ask_all (ask_of a e) es

abbrev pub asked_by : ℕ → Element → List (ℕ × ℕ)
asked_by k empty = []
asked_by k (constant x) = []
asked_by k (variable v) = []
asked_by k (fixed v) = []
asked_by k (aggregate f b c) = cond (eqb k b) ((f, c) ∷ []) []

unfoldable pub asked_of : ℕ → List Element → List (ℕ × ℕ)
asked_of k es = concat_map (asked_by k) es

abbrev pub sides : Condition → List Element
sides c = c.left ∷ c.right ∷ []
