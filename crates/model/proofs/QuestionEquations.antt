-- The equations of specs/Question, one for each definition; of the two tests over a list, one for each case.
use Prim.Native.Nat.{ℕ}
use mathlib.Core.Bool.{Bool, false, ◌&&◌, ◌||◌, not}
use mathlib.Core.List.{List, [], ◌∷◌, ◌++◌}
use mathlib.Core.Path.{◌≡◌, refl}
use Rattle.model.specs.Lists.{any, concat_map}
use Rattle.model.specs.Question.{Element, RelationRow, Condition, Block, is_aggregate, names, plain, in_rows}
use Rattle.model.specs.Question.{in_conditions, names_in, row_elements, other_elements, elements}
use Rattle.model.proofs.ListEquations.{any_append}

pub plain_is : (c : Condition) → plain c ≡ not (is_aggregate c.left) && not (is_aggregate c.right)
unfolding plain
plain_is c = refl

pub in_rows_is : (p : Element → Bool) (ws : List RelationRow) → in_rows p ws ≡ any (λ w. any p w.entries) ws
unfolding in_rows
in_rows_is p ws = refl

pub in_rows-nil : (p : Element → Bool) → in_rows p [] ≡ false
unfolding in_rows any
in_rows-nil p = refl

pub in_rows-cons : (p : Element → Bool) (w : RelationRow) (ws : List RelationRow)
    → in_rows p (w ∷ ws) ≡ any p w.entries || in_rows p ws
unfolding in_rows any
in_rows-cons p w ws = refl

pub in_rows-append : (p : Element → Bool) (l r : List RelationRow) → in_rows p (l ++ r) ≡ in_rows p l || in_rows p r
unfolding in_rows
in_rows-append p l r = any_append _ l r

pub in_conditions_is : (p : Element → Bool) (cs : List Condition)
    → in_conditions p cs ≡ any (λ c. p c.left || p c.right) cs
unfolding in_conditions
in_conditions_is p cs = refl

pub in_conditions-nil : (p : Element → Bool) → in_conditions p [] ≡ false
unfolding in_conditions any
in_conditions-nil p = refl

pub in_conditions-cons : (p : Element → Bool) (c : Condition) (cs : List Condition)
    → in_conditions p (c ∷ cs) ≡ p c.left || p c.right || in_conditions p cs
unfolding in_conditions any
in_conditions-cons p c cs = refl

pub in_conditions-append : (p : Element → Bool) (l r : List Condition)
    → in_conditions p (l ++ r) ≡ in_conditions p l || in_conditions p r
unfolding in_conditions
in_conditions-append p l r = any_append _ l r

pub names_in_is : (k : ℕ) (b : Block)
    → names_in k b ≡ any (names k) b.outputs || in_conditions (names k) b.conditions
unfolding names_in
names_in_is k b = refl

pub row_elements_is : (b : Block) → row_elements b ≡ concat_map (λ w. w.entries) b.relations
unfolding row_elements
row_elements_is b = refl

pub other_elements_is : (b : Block)
    → other_elements b ≡ concat_map (λ c. c.left ∷ c.right ∷ []) b.conditions ++ b.outputs
unfolding other_elements
other_elements_is b = refl

pub elements_is : (b : Block) → elements b ≡ row_elements b ++ other_elements b
unfolding elements
elements_is b = refl
