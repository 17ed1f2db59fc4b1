-- What is held by place is what the model's tests find in the block that is described.
use Prim.Native.Nat.{ℕ, zero, suc, ◌+◌}
use native.Mathlib.Omega.{arith}
use mathlib.Core.Bool.{Bool, true, false, ◌&&◌, ◌||◌}
use mathlib.Core.List.{List}
use mathlib.Core.Path.{◌≡◌, refl, sym, ap, ap₂, ◌∙◌}
use lib.Bits.{bit_or}
use lib.Dec.{eqb, ltb}
use Rattle.model.specs.Lists.{any}
use Rattle.model.specs.Question.{Element, names, is_var, is_fixed, in_rows, in_conditions, names_in}
use Rattle.model.specs.Scope.{owns, refers}
use Rattle.model.proofs.CheckEquations.{owns_is, refers_is}
use Rattle.model.proofs.ListEquations.{any-nil, any-cons}
use Rattle.model.proofs.QuestionEquations.{in_rows-nil, in_rows-cons, in_conditions-nil, in_conditions-cons, names_in_is}
use Rattle.syntax.specs.Described.{decode, element_at, elements_at, relation_at, relations_at, condition_at, conditions_at}
use Rattle.syntax.specs.Described.{described}
use Rattle.syntax.specs.Places.{byte_at, word_at, record_end, condition_end}
use Rattle.syntax.specs.declared.Block.{Block}
use Rattle.scope.specs.Gathering.{holds_at, elements_hold, records_hold, rows_hold, conditions_hold}
use Rattle.syntax.specs.declared.Record.TheVariants.{Rw}
use Rattle.scope.specs.declared.Kind.{Kind}
use Rattle.scope.specs.declared.Kind.TheVariants.{Variable, Fixed, Aggregate}
use borrow.Author.Tests.{ne_eqb, lt-ltb}
use Rattle.scope.specs.Masks.{mask_of}
use Rattle.scope.specs.Shown.{shown}
use Rattle.scope.proofs.MaskLaws.{mask_same, mask_or}

decode-variable : (k a f b c v : ℕ) → eqb k 2 && eqb v a ≡ is_var v (decode k a f b c)
decode-variable zero a f b c v = refl
decode-variable (suc zero) a f b c v = refl
decode-variable (suc (suc zero)) a f b c v = refl
decode-variable (suc (suc (suc zero))) a f b c v = refl
decode-variable (suc (suc (suc (suc k)))) a f b c v = rw (ne_eqb (suc (suc (suc (suc k)))) 2 (λ e. omega arith)) refl

decode-fixed : (k a f b c v : ℕ) → eqb k 3 && eqb v a ≡ is_fixed v (decode k a f b c)
decode-fixed zero a f b c v = refl
decode-fixed (suc zero) a f b c v = refl
decode-fixed (suc (suc zero)) a f b c v = refl
decode-fixed (suc (suc (suc zero))) a f b c v = refl
decode-fixed (suc (suc (suc (suc k)))) a f b c v = rw (ne_eqb (suc (suc (suc (suc k)))) 3 (λ e. omega arith)) refl

decode-names : (k a f b c v : ℕ) → ltb 3 k && eqb v b ≡ names v (decode k a f b c)
decode-names zero a f b c v = refl
decode-names (suc zero) a f b c v = refl
decode-names (suc (suc zero)) a f b c v = refl
decode-names (suc (suc (suc zero))) a f b c v = refl
decode-names (suc (suc (suc (suc k)))) a f b c v = rw (lt-ltb 3 (suc (suc (suc (suc k)))) (omega arith)) refl

pub holds-variable : (bs : List ℕ) (v i : ℕ) → holds_at Variable bs i v ≡ is_var v (element_at bs i)
unfolding holds_at element_at
holds-variable bs v i =
    decode-variable (byte_at bs i) (word_at bs (i + 1)) (byte_at bs (i + 1)) (byte_at bs (i + 2)) (byte_at bs (i + 3)) v

pub holds-fixed : (bs : List ℕ) (v i : ℕ) → holds_at Fixed bs i v ≡ is_fixed v (element_at bs i)
unfolding holds_at element_at
holds-fixed bs v i =
    decode-fixed (byte_at bs i) (word_at bs (i + 1)) (byte_at bs (i + 1)) (byte_at bs (i + 2)) (byte_at bs (i + 3)) v

pub holds_name : (bs : List ℕ) (v i : ℕ) → holds_at Aggregate bs i v ≡ names v (element_at bs i)
unfolding holds_at element_at
holds_name bs v i =
    decode-names (byte_at bs i) (word_at bs (i + 1)) (byte_at bs (i + 1)) (byte_at bs (i + 2)) (byte_at bs (i + 3)) v

-- a test p of elements that tells what is held at each place
module _ (k : Kind) (bs : List ℕ) (v : ℕ) (p : Element → Bool) (h : (i : ℕ) → holds_at k bs i v ≡ p (element_at bs i)) where
  pub elements-any : (n i : ℕ) → elements_hold k bs n i v ≡ any p (elements_at bs n i)
  unfolding elements_hold elements_at
  elements-any zero i = sym (any-nil p)
  elements-any (suc n) i =
      ap₂ ◌||◌ (h i) (elements-any n (i + 9)) ∙ sym (any-cons p (element_at bs i) (elements_at bs n (i + 9)))

  pub rows-any : (n i : ℕ) → rows_hold k bs n i v ≡ in_rows p (relations_at bs n i)
  unfolding records_hold relations_at relation_at
  rows-any zero i = sym (in_rows-nil p)
  rows-any (suc n) i =
      ap₂ ◌||◌ (elements-any (byte_at bs (i + 3)) (i + 4)) (rows-any n (record_end Rw bs i))
      ∙ sym (in_rows-cons p (relation_at bs i) (relations_at bs n (record_end Rw bs i)))

  two-any : (i : ℕ) → elements_hold k bs 2 (i + 3) v ≡ p (element_at bs (i + 3)) || p (element_at bs (i + 12))
  unfolding elements_hold
  two-any i =
      let e : i + 3 + 9 ≡ i + 12 = omega arith in
      ap₂ ◌||◌ (h (i + 3)) (or-none (holds_at k bs (i + 3 + 9) v) ∙ h (i + 3 + 9) ∙ ap (λ j. p (element_at bs j)) e)
    where
      or-none : (a : Bool) → a || false ≡ a
      or-none true = refl
      or-none false = refl

  pub conditions-any : (n i : ℕ) → conditions_hold k bs n i v ≡ in_conditions p (conditions_at bs n i)
  unfolding records_hold conditions_at condition_at
  conditions-any zero i = sym (in_conditions-nil p)
  conditions-any (suc n) i =
      ap₂ ◌||◌ (two-any i) (conditions-any n (condition_end bs i))
      ∙ sym (in_conditions-cons p (condition_at bs i) (conditions_at bs n (condition_end bs i)))

module _ (bs : List ℕ) (b : Block) (v : ℕ) where
  pub owns-held : rows_hold Variable bs b.rows b.rows_at v ≡ owns v (described bs b)
  unfolding described
  owns-held =
      rows-any Variable bs v (is_var v) (holds-variable bs v) b.rows b.rows_at
      ∙ sym (owns_is v (described bs b))

  pub refers-held : rows_hold Fixed bs b.rows b.rows_at v
      || (conditions_hold Fixed bs b.conditions b.conditions_at v
      || elements_hold Fixed bs b.outputs b.outputs_at v)
      ≡ refers v (described bs b)
  unfolding described
  refers-held =
      ap₂ ◌||◌ (rows-any Fixed bs v (is_fixed v) (holds-fixed bs v) b.rows b.rows_at)
      (ap₂ ◌||◌ (conditions-any Fixed bs v (is_fixed v) (holds-fixed bs v) b.conditions b.conditions_at)
      (elements-any Fixed bs v (is_fixed v) (holds-fixed bs v) b.outputs b.outputs_at))
      ∙ sym (refers_is v (described bs b))

  pub shown-held : conditions_hold Variable bs b.conditions b.conditions_at v
      || elements_hold Variable bs b.outputs b.outputs_at v
      ≡ shown v (described bs b)
  unfolding described shown
  shown-held =
      ap₂ ◌||◌ (conditions-any Variable bs v (is_var v) (holds-variable bs v) b.conditions b.conditions_at)
      (elements-any Variable bs v (is_var v) (holds-variable bs v) b.outputs b.outputs_at)

  pub names-held : elements_hold Aggregate bs b.outputs b.outputs_at v
      || conditions_hold Aggregate bs b.conditions b.conditions_at v
      ≡ names_in v (described bs b)
  unfolding described
  names-held =
      ap₂ ◌||◌ (elements-any Aggregate bs v (names v) (holds_name bs v) b.outputs b.outputs_at)
      (conditions-any Aggregate bs v (names v) (holds_name bs v) b.conditions b.conditions_at)
      ∙ sym (names_in_is v (described bs b))

module _ (bs : List ℕ) (b : Block) where
  pub own_is : (x : ℕ) → x ≡ mask_of (rows_hold Variable bs b.rows b.rows_at)
      → x ≡ mask_of (λ v. owns v (described bs b))
  own_is x e = e ∙ mask_same (rows_hold Variable bs b.rows b.rows_at) _ (λ v l. owns-held bs b v)

  pub used_is : (x y z : ℕ) → x ≡ mask_of (rows_hold Fixed bs b.rows b.rows_at)
      → y ≡ mask_of (conditions_hold Fixed bs b.conditions b.conditions_at)
      → z ≡ mask_of (elements_hold Fixed bs b.outputs b.outputs_at)
      → bit_or x (bit_or y z) ≡ mask_of (λ v. refers v (described bs b))
  used_is x y z e f g =
      let p = rows_hold Fixed bs b.rows b.rows_at in
      let q = conditions_hold Fixed bs b.conditions b.conditions_at in
      let r = elements_hold Fixed bs b.outputs b.outputs_at in
      ap₂ bit_or e (ap₂ bit_or f g ∙ mask_or q r)
      ∙ mask_or p (λ v. q v || r v)
      ∙ mask_same (λ v. p v || (q v || r v)) (λ v. refers v (described bs b)) (λ v l. refers-held bs b v)

  pub shown_is : (x y : ℕ) → x ≡ mask_of (conditions_hold Variable bs b.conditions b.conditions_at)
      → y ≡ mask_of (elements_hold Variable bs b.outputs b.outputs_at)
      → bit_or x y ≡ mask_of (λ v. shown v (described bs b))
  shown_is x y e f =
      let p = conditions_hold Variable bs b.conditions b.conditions_at in
      let q = elements_hold Variable bs b.outputs b.outputs_at in
      ap₂ bit_or e f
      ∙ mask_or p q
      ∙ mask_same (λ v. p v || q v) (λ v. shown v (described bs b)) (λ v l. shown-held bs b v)

  pub named_is : (x y : ℕ) → x ≡ mask_of (elements_hold Aggregate bs b.outputs b.outputs_at)
      → y ≡ mask_of (conditions_hold Aggregate bs b.conditions b.conditions_at)
      → bit_or x y ≡ mask_of (λ v. names_in v (described bs b))
  named_is x y e f =
      let p = elements_hold Aggregate bs b.outputs b.outputs_at in
      let q = conditions_hold Aggregate bs b.conditions b.conditions_at in
      ap₂ bit_or e f
      ∙ mask_or p q
      ∙ mask_same (λ v. p v || q v) (λ v. names_in v (described bs b)) (λ v l. names-held bs b v)
