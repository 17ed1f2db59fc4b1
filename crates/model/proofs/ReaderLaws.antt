-- What is read keeps the kinds: no relation row holds an aggregate.
use Prim.Native.Nat.{ℕ, zero, suc, ◌<◌, ◌≤◌}
use mathlib.Core.Bool.{Bool, true, false, ◌&&◌, not}
use mathlib.Core.List.{List, [], ◌∷◌}
use mathlib.Core.Option.{Option, none, some}
use mathlib.Core.Path.{◌≡◌, refl, subst}
use lib.Dec.{leb, T, eqb, leb→le}
use lib.IntN.{ℤ}
use lib.ListN.{length, get_or, drop}
use Rattle.model.specs.Checks.{from_to, counts_fit}
use Rattle.model.specs.Format.{output_kinds, Parser, after, ◌>>=◌, give, fail, only, times, byte, number64}
use Rattle.model.specs.Format.{eight, aggregate_is, element_of, element, row_kinds, relation, condition, output}
use Rattle.model.specs.Lists.{any, All}
use Rattle.model.specs.Question.{Element, empty, constant, variable, fixed, aggregate, RelationRow, Block}
use Rattle.model.specs.Question.{no_block, block_at, is_aggregate, in_rows}
use Rattle.model.specs.Records.{Mark, BK, RW, CD, OL, EN, marked, many, one, block, ends, question, blocks_of}
use Rattle.model.specs.Records.{question_of}
use Rattle.model.proofs.Accepted.{sound}
use Rattle.model.proofs.RefusalLaws.{QuestionPasses}
use Rattle.model.proofs.SizeLaws.{OutputKind}
use Rattle.model.proofs.Sound.{Sound}
use Rattle.model.proofs.Tests.{place-in, all-at, and_left, and_right}

module _ {A : Type 0} where
  -- what a reader gives has P
  abbrev Has : (A → Type 0) → Option (A × List ℕ) → Type 0
  Has P none = Unit {0}
  Has P (some x) = P x.0

any_has : {A : Type 0} (o : Option (A × List ℕ)) → Has (λ x. Unit {0}) o
any_has none = tt
any_has (some x) = tt

module _ {A B : Type 0} (P : A → Type 0) (Q : B → Type 0) where
  after-has : (o : Option (A × List ℕ)) (f : A → Parser B) → Has P o
      → ((a : A) → P a → (bs : List ℕ) → Has Q (f a bs)) → Has Q (after o f)
  unfolding after
  after-has none f h g = tt
  after-has (some x) f h g = g x.0 h x.1

module _ {A : Type 0} (P : A → Type 0) where
  times-has : (n : ℕ) (r : Parser A) (bs : List ℕ) → ((cs : List ℕ) → Has P (r cs)) → Has (All P) (times n r bs)
  unfolding times
  times-has zero r bs h = tt
  times-has (suc n) r bs h = after-has P (All P) (r bs) _ (h bs)
      (λ a p cs. after-has (All P) (All P) (times n r cs) _ (times-has n r cs h) (λ xs ps ds. (p, ps)))

  many-has : (n : ℕ) (x : Mark) (r : Parser A) (bs : List ℕ) → ((cs : List ℕ) → Has P (r cs))
      → Has (All P) (many n x r bs)
  unfolding many
  many-has zero x r bs h = tt
  many-has (suc n) x r bs h = go (marked x bs) refl (λ cs. many-has n x r cs h)
    where
      go : (t : Bool) → marked x bs ≡ t → ((cs : List ℕ) → Has (All P) (many n x r cs))
          → Has (All P) (many (suc n) x r bs)
      go true e k = rw (e, many) (after-has P (All P) (r (drop 2 bs)) _ (h (drop 2 bs))
          (λ a p cs. after-has (All P) (All P) (many n x r cs) _ (k cs) (λ xs ps ds. (p, ps))))
      go false e k = rw (e, many) tt

abbrev Plain : Element → Type 0
Plain e = T (not (is_aggregate e))

abbrev PlainRow : RelationRow → Type 0
PlainRow w = All Plain w.entries

-- what the kinds of its records leave of a block
pub record Kinds (k : Block) : Type 0 where
  pub rows : All PlainRow k.relations
  pub outputs : All OutputKind k.outputs

only_has : {A : Type 0} (t : Bool) (a : A) (bs : List ℕ) → Has (λ a'. (a ≡ a') × T t) (only t a bs)
unfolding only
only_has true a bs = (refl, tt)
only_has false a bs = tt

only_row : (t : Bool) (bs : List ℕ) → Has Plain (only t empty bs)
unfolding only
only_row true bs = tt
only_row false bs = tt

row-element : (k : ℕ) (xs bs : List ℕ) → T (row_kinds k) → Has Plain (element_of k xs bs)
unfolding element_of give fail
row-element zero xs bs t = only_row (eqb (number64 xs) 0) bs
row-element (suc zero) xs bs t = tt
row-element (suc (suc zero)) xs bs t = tt
row-element (suc (suc (suc zero))) xs bs t = tt
row-element (suc (suc (suc (suc zero)))) xs bs t = absurd t
row-element (suc (suc (suc (suc (suc k))))) xs bs t = tt

only_output : (t : Bool) (f k c : ℕ) (bs : List ℕ) → Has OutputKind (only t (aggregate f k c) bs)
unfolding only
only_output true f k c bs = tt
only_output false f k c bs = tt

output-element : (k : ℕ) (xs bs : List ℕ) → T (output_kinds k) → Has OutputKind (element_of k xs bs)
unfolding element_of give fail aggregate_is
output-element zero xs bs t = absurd t
output-element (suc zero) xs bs t = absurd t
output-element (suc (suc zero)) xs bs t = tt
output-element (suc (suc (suc zero))) xs bs t = absurd t
output-element (suc (suc (suc (suc zero)))) xs bs t = only_output _ (get_or xs 0 0) (get_or xs 1 0) (get_or xs 2 0) bs
output-element (suc (suc (suc (suc (suc k))))) xs bs t = tt

element_has : (kinds : ℕ → Bool) (P : Element → Type 0)
    → ((k : ℕ) (xs bs : List ℕ) → T (kinds k) → Has P (element_of k xs bs)) → (bs : List ℕ) → Has P (element kinds bs)
unfolding element ◌>>=◌
element_has kinds P each bs =
    after-has (λ k. Unit {0}) P (byte bs) _ (any_has (byte bs)) (λ k u cs.
    after-has (λ k'. (k ≡ k') × T (kinds k)) P (only (kinds k) k cs) _ (only_has (kinds k) k cs) (λ k' h ds.
    after-has (λ xs. Unit {0}) P (eight ds) _ (any_has (eight ds)) (λ xs v es.
    each k' xs es (subst (λ z. T (kinds z)) h.0 h.1))))

relation_has : (bs : List ℕ) → Has PlainRow (relation bs)
unfolding relation ◌>>=◌ give
relation_has bs =
    after-has (λ k. Unit {0}) PlainRow (byte bs) _ (any_has (byte bs)) (λ t u cs.
    after-has (λ k. Unit {0}) PlainRow (byte cs) _ (any_has (byte cs)) (λ n u ds.
    after-has (All Plain) PlainRow (times n (element row_kinds) ds) _
    (times-has Plain n (element row_kinds) ds (element_has row_kinds Plain row-element)) (λ es h fs. h)))

output_has : (bs : List ℕ) → Has (All OutputKind) (output bs)
unfolding output ◌>>=◌
output_has bs =
    after-has (λ k. Unit {0}) (All OutputKind) (byte bs) _ (any_has (byte bs)) (λ n u cs.
    times-has OutputKind n (element output_kinds) cs (element_has output_kinds OutputKind output-element))

one_has : {A : Type 0} (P : A → Type 0) (m : Mark) (r : Parser A) (bs : List ℕ)
    → ((cs : List ℕ) → Has P (r cs)) → Has P (one m r bs)
unfolding one
one_has P m r bs h = go (marked m bs) refl
  where
    go : (t : Bool) → marked m bs ≡ t → Has P (one m r bs)
    go true e = rw (e, one) (h (drop 2 bs))
    go false e = rw (e, one) tt

block_has : (n : ℕ) (bs : List ℕ) → Has Kinds (block n bs)
unfolding block ◌>>=◌ give
block_has n bs =
    after-has (λ k. Unit {0}) Kinds (byte bs) _ (any_has (byte bs)) (λ p u cs.
    after-has (All PlainRow) Kinds (many n RW relation cs) _ (many-has PlainRow n RW relation cs relation_has)
    (λ ws h ds.
    after-has (λ k. Unit {0}) Kinds (many n CD condition ds) _ (any_has (many n CD condition ds)) (λ xs u es.
    after-has (All OutputKind) Kinds (one OL output es) _ (one_has (All OutputKind) OL output es output_has)
    (λ os v fs.
    record { rows = h; outputs = v }))))

abbrev Has? : (List Block → Type 0) → Option (List Block) → Type 0
Has? P none = Unit {0}
Has? P (some q) = P q

question_has : (bs : List ℕ) → Has? (All Kinds) (question bs)
unfolding question
question_has bs = go (many (length bs) BK (block (length bs)) bs) refl
    (many-has Kinds (length bs) BK (block (length bs)) bs (block_has (length bs)))
  where
    go : (o : Option (List Block × List ℕ)) → many (length bs) BK (block (length bs)) bs ≡ o → Has (All Kinds) o
        → Has? (All Kinds) (question bs)
    go none e h = rw (e, question) tt
    go (some x) e h = rw (e, question) (fin (marked EN x.1 && ends (drop 2 x.1)))
      where
        fin : (t : Bool) → Has? (All Kinds) (elim t as (λ _. Option (List Block)) [ true ↦ some x.0 | false ↦ none ])
        fin true = h
        fin false = tt

-- so a question that is read and that no cause refuses is sound
none-plain : (es : List Element) → All Plain es → any is_aggregate es ≡ false
unfolding any
none-plain [] u = refl
none-plain (empty ∷ es) u = none-plain es u.1
none-plain (constant x ∷ es) u = none-plain es u.1
none-plain (variable x ∷ es) u = none-plain es u.1
none-plain (fixed x ∷ es) u = none-plain es u.1
none-plain (aggregate f k c ∷ es) u = absurd u.0

plain_rows : (ws : List RelationRow) → All PlainRow ws → T (not (in_rows is_aggregate ws))
unfolding in_rows any
plain_rows [] u = tt
plain_rows (w ∷ ws) u = rw (none-plain w.entries u.0) (plain_rows ws u.1)

plain_at : (q : List Block) (j : ℕ) → All Kinds q → T (not (in_rows is_aggregate (block_at q j).relations))
unfolding in_rows any
plain_at [] j u = tt
plain_at (k ∷ q) zero u = plain_rows k.relations u.0.rows
plain_at (k ∷ q) (suc j) u = plain_at q j u.1

kinds_of : (bs : List ℕ) → All Kinds (question_of bs)
unfolding question_of
kinds_of bs = go (question bs) (question_has bs)
  where
    go : (o : Option (List Block)) → Has? (All Kinds) o → All Kinds (blocks_of o)
    go none h = tt
    go (some q) h = h

pub passed_sound : (d : List ℤ) (qs : List ℕ) → QuestionPasses d qs → Sound (question_of qs)
passed_sound d qs p =
    sound d (question_of qs) p.counts p.there p.bound (λ j. plain_at (question_of qs) j (kinds_of qs))

-- and it has a block
pub passed-some : (d : List ℤ) (qs : List ℕ) → QuestionPasses d qs → 0 < length (question_of qs)
unfolding counts_fit
passed-some d qs p = leb→le 1 (length (question_of qs)) (let a = p.counts in search (and_left, and_right))

pub passed-outputs : (qs : List ℕ) (k : ℕ) → All OutputKind (block_at (question_of qs) k).outputs
passed-outputs qs k = go (question_of qs) k (kinds_of qs)
  where
    go : (q : List Block) (k : ℕ) → All Kinds q → All OutputKind (block_at q k).outputs
    go [] k u = tt
    go (b ∷ q) zero u = u.0.outputs
    go (b ∷ q) (suc k) u = go q k u.1

-- the count limits of a block
pub record Counts (b : Block) : Type 0 where
  pub relations : length b.relations ≤ 3
  pub conditions : length b.conditions ≤ 8
  pub some-column : 1 ≤ length b.outputs
  pub columns : length b.outputs ≤ 4

abbrev counts_of : Block → Bool
counts_of b = leb (length b.relations) 3 && leb (length b.conditions) 8 && from_to 1 4 (length b.outputs)

counts_of_lem : (b : Block) → T (counts_of b) → Counts b
counts_of_lem b t =
    record {
      relations = leb→le (length b.relations) 3 (search (and_left, and_right));
      conditions = leb→le (length b.conditions) 8 (search (and_left, and_right));
      some-column = leb→le 1 (length b.outputs) (search (and_left, and_right));
      columns = leb→le (length b.outputs) 4 (search (and_left, and_right));
    }

pub passed-counts : (d : List ℤ) (qs : List ℕ) → QuestionPasses d qs → (k : ℕ) → k < length (question_of qs)
    → Counts (block_at (question_of qs) k)
unfolding counts_fit
passed-counts d qs p k h =
    let c = p.counts in
    counts_of_lem (block_at (question_of qs) k)
    (all-at counts_of (question_of qs) (block_at (question_of qs) k) (search (and_left, and_right))
    (place-in (question_of qs) no_block k h))
