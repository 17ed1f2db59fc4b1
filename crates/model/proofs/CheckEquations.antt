-- The equations of specs/Scope, specs/Checks and specs/Plan, one for each case.
use Prim.Native.Nat.{ℕ, suc, ◌+◌, ◌*◌}
use mathlib.Core.Bool.{true, false, ◌&&◌, ◌||◌, not}
use mathlib.Core.List.{List, map}
use mathlib.Core.Path.{◌≡◌, refl}
use lib.Dec.{eqb, ltb, leb}
use lib.IntN.{ℤ}
use lib.ListN.{length, get_or}
use Rattle.model.specs.Checks.{from_to, counts_fit, placed, element_there, block_there, all_there, element_bound}
use Rattle.model.specs.Checks.{block_bound, all_bound, ratio_element, ratio_at}
use Rattle.model.specs.Lists.{all, any, filter, range, concat_map}
use Rattle.model.specs.Matching.{live}
use Rattle.model.specs.Plan.{file, index, merging, head_entry, wants_one, admits, byte_in, path_in, plan_of}
use Rattle.model.specs.Plan.{plan_record, plan_admitted}
use Rattle.model.specs.Question.{empty, Block, block_at, names, is_var, is_fixed, any_fixed, in_rows, in_conditions}
use Rattle.model.specs.Question.{elements}
use Rattle.model.specs.Scope.{levels, owns, refers, within, subtree, owned_in, referred_in, outside, outsiders}
use Rattle.model.specs.Scope.{level_of}
use Rattle.model.specs.Tables.{tables, columns}

-- Scope
pub owns_is : (v : ℕ) (b : Block) → owns v b ≡ in_rows (is_var v) b.relations
unfolding owns
owns_is v b = refl

pub refers_is : (v : ℕ) (b : Block)
    → refers v b
    ≡ in_rows (is_fixed v) b.relations || (in_conditions (is_fixed v) b.conditions || any (is_fixed v) b.outputs)
unfolding refers
refers_is v b = refl

pub within-spent : (q : List Block) (k j : ℕ) → within 0 q k j ≡ eqb j k
unfolding within
within-spent q k j = refl

pub within_level : (n : ℕ) (q : List Block) (k j : ℕ)
    → within (suc n) q k j ≡ eqb j k || within n q k (block_at q j).parent
unfolding within
within_level n q k j = refl

pub subtree_is : (q : List Block) (k : ℕ) → subtree q k ≡ filter (within levels q k) (range 0 (length q))
unfolding subtree
subtree_is q k = refl

pub owned_in_is : (q : List Block) (k v : ℕ) → owned_in q k v ≡ any (λ j. owns v (block_at q j)) (subtree q k)
unfolding owned_in
owned_in_is q k v = refl

pub referred_in_is : (q : List Block) (k v : ℕ) → referred_in q k v ≡ any (λ j. refers v (block_at q j)) (subtree q k)
unfolding referred_in
referred_in_is q k v = refl

pub outside_is : (q : List Block) (k v : ℕ) → outside q k v ≡ referred_in q k v && not (owned_in q k v)
unfolding outside
outside_is q k v = refl

pub outsiders_is : (q : List Block) (k : ℕ) → outsiders q k ≡ filter (outside q k) (range 0 16)
unfolding outsiders
outsiders_is q k = refl

pub level_of-spent : (q : List Block) (j : ℕ) → level_of 0 q j ≡ 1
unfolding level_of
level_of-spent q j = refl

pub level_of-root : (n : ℕ) (q : List Block) → level_of (suc n) q 0 ≡ 1
unfolding level_of
level_of-root n q = refl

pub level_of_below : (n : ℕ) (q : List Block) (j : ℕ)
    → level_of (suc n) q (suc j) ≡ suc (level_of n q (block_at q (suc j)).parent)
unfolding level_of
level_of_below n q j = refl

-- Checks
pub counts_fit_is : (q : List Block)
    → counts_fit q
    ≡ from_to 1 5 (length q)
    && all
    (λ b. leb (length b.relations) 3 && leb (length b.conditions) 8 && from_to 1 4 (length b.outputs))
    q
    && all (λ k. leb (length (filter (names k) (concat_map elements q))) 3) (range 0 256)
unfolding counts_fit
counts_fit_is q = refl

pub placed-root : (q : List Block) → placed q 0 ≡ eqb (block_at q 0).parent 255
unfolding placed
placed-root q = refl

pub placed_below : (q : List Block) (j : ℕ)
    → placed q (suc j) ≡ ltb (block_at q (suc j)).parent (suc j) && leb (level_of 5 q (suc j)) levels
unfolding placed
placed_below q j = refl

pub block_there_is : (d : List ℤ) (q : List Block) (j : ℕ)
    → block_there d q j
    ≡ placed q j
    && all (λ w. ltb w.table (tables d) && eqb (length w.entries) (columns d w.table))
    (block_at q j).relations
    && all (element_there q j) (elements (block_at q j))
unfolding block_there
block_there_is d q j = refl

pub all_there_is : (d : List ℤ) (q : List Block) → all_there d q ≡ all (block_there d q) (range 0 (length q))
unfolding all_there
all_there_is d q = refl

pub block_bound_is : (q : List Block) (j : ℕ) → block_bound q j ≡ all (element_bound q j) (elements (block_at q j))
unfolding block_bound
block_bound_is q j = refl

pub all_bound_is : (q : List Block) → all_bound q ≡ all (block_bound q) (range 0 (length q))
unfolding all_bound
all_bound_is q = refl

pub ratio_at-spent : (q : List Block) (b c : ℕ) → ratio_at 0 q b c ≡ false
unfolding ratio_at
ratio_at-spent q b c = refl

pub ratio_at_level : (n : ℕ) (q : List Block) (b c : ℕ)
    → ratio_at (suc n) q b c ≡ ratio_element (λ k x. ratio_at n q k x) (get_or (block_at q b).outputs c empty)
unfolding ratio_at
ratio_at_level n q b c = refl

-- Plan
pub admits-file : (q : List Block) (k : ℕ) → admits q k file ≡ true
unfolding admits
admits-file q k = refl

pub admits-index : (q : List Block) (k c : ℕ) → admits q k (index c) ≡ wants_one (head_entry (live (block_at q k)) c)
unfolding admits
admits-index q k c = refl

pub admits-merging : (q : List Block) (k c : ℕ)
    → admits q k (merging c) ≡ any_fixed (head_entry (live (block_at q k)) c) && eqb (length (outsiders q k)) 1
unfolding admits
admits-merging q k c = refl

pub plan_of_is : (n : ℕ) (ps : List ℕ) → plan_of n ps ≡ map (path_in ps) (range 0 n)
unfolding plan_of
plan_of_is n ps = refl

pub plan_record_is : (ps : List ℕ) (k : ℕ)
    → plan_record ps k
    ≡ eqb (byte_in ps (4 * k)) 80 && eqb (byte_in ps (1 + 4 * k)) 76
    && ltb (byte_in ps (2 + 4 * k)) 3
    && (not (eqb (byte_in ps (2 + 4 * k)) 0) || eqb (byte_in ps (3 + 4 * k)) 0)
unfolding plan_record
plan_record_is ps k = refl

pub plan_admitted_is : (q : List Block) (ps : List ℕ)
    → plan_admitted q ps
    ≡ eqb (length ps) (4 * length q)
    && all (λ k. plan_record ps k && admits q k (path_in ps k)) (range 0 (length q))
unfolding plan_admitted
plan_admitted_is q ps = refl
