-- The whole question by place is the model's: `formed-is`, `question-is`, and what the reading holds of its blocks.
use Prim.Native.Nat.{ℕ, zero, suc, ◌+◌, ◌≤◌, ◌<◌}
use native.Mathlib.Omega.{arith}
use mathlib.Core.Bool.{Bool, true, false, ◌&&◌, not, cond}
use mathlib.Core.List.{List, [], ◌∷◌, ◌++◌, map}
use mathlib.Core.Logic.{⊎_elim}
use mathlib.Core.Path.{◌≡◌, refl, sym, ap, ap₂, ◌∙◌, subst}
use lib.Dec.{leb, T, eqb, ltb}
use lib.ListN.{length-map, length, drop, get_or, set, take, length-append, get_or-append}
use lib.Seq.{drop-drop, get_or-set_same, get_or-set_other}
use Rattle.syntax.specs.Described.{relations_at, conditions_at, elements_at, described, blocks_in}
use Rattle.syntax.specs.Places.{head_ok, elements_ok, record_end, record_ok, no_block, block, block_within, put, walk}
use Rattle.syntax.specs.Places.{no_question, reading, well_formed, condition_end}
use Rattle.syntax.specs.declared.Block.{Block}
use Rattle.syntax.specs.declared.Question.{Question}
use Rattle.syntax.specs.declared.Record.TheVariants.{Rw, Bk, En}
use Rattle.model.proofs.RecordEquations.{ends-nil, ends-cons, question_malformed, question_unended, question_read}
use Rattle.model.proofs.RecordEquations.{well_formed_is, question_of_is}
use Rattle.model.specs.Checks.{from_to}
use Rattle.model.specs.Lists.{All, all}
use Rattle.model.specs.Records.{BK, EN, marked, ends}
use Rattle.syntax.proofs.Blocks.{not_there, block_reads}
use Rattle.syntax.proofs.Elements.{le-or, nil-at, cons-at}
use Rattle.syntax.proofs.Laws.{on, block_bare, record_whole, put-long}
use Rattle.syntax.proofs.Lie.{Lies, block_lies}
use Rattle.syntax.proofs.Records.{marked-long, head_is, record-marked}
use Rattle.syntax.proofs.Runs.{list_at, count_from, stop_from, marked_other, Many, all_read, broken, many-run}
use borrow.Author.Tests.{lt-leb, le-ltb, le-leb, lt-ltb, eq-eqb, ne_eqb, ltb-true, ltb-false, eqb-true, eqb-false}
use Rattle.model.specs.Question as model
use Rattle.model.specs.Records as records

module _ (bs : List ℕ) where
  abbrev pub stands_at : ℕ → Bool
  stands_at i = not (eqb (block bs i).end 0)

  abbrev pub end_at : ℕ → ℕ
  end_at i = (block bs i).end

  -- the blocks that stand from place i on, at most f
  unfoldable pub blocks_from : ℕ → ℕ → List Block
  blocks_from f i = list_at (block bs) end_at (count_from stands_at end_at f i) i

  blocks_more : (f i : ℕ) → eqb (block bs i).end 0 ≡ false → blocks_from (suc f) i ≡ block bs i ∷ blocks_from f (end_at i)
  unfolding blocks_from count_from list_at
  blocks_more f i e = rw e refl

  blocks-done : (f i : ℕ) → eqb (block bs i).end 0 ≡ true → blocks_from (suc f) i ≡ []
  unfolding blocks_from count_from list_at
  blocks-done f i e = rw e refl

  stop-more : (f i : ℕ) → eqb (block bs i).end 0 ≡ false
      → stop_from stands_at end_at (suc f) i ≡ stop_from stands_at end_at f (end_at i)
  unfolding stop_from
  stop-more f i e = rw e refl

  stop-done : (f i : ℕ) → eqb (block bs i).end 0 ≡ true → stop_from stands_at end_at (suc f) i ≡ i
  unfolding stop_from
  stop-done f i e = rw e refl

  -- q holds the blocks of the list: their number, the first five, and whether all are within the limits
  pub record Holds (q : Question) (l : List Block) : Type 0 where
    pub count : q.count ≡ length l
    pub long : length q.blocks ≡ 5
    pub first : (k : ℕ) → k < 5 → k < length l → get_or q.blocks k no_block ≡ get_or l k no_block
    pub within : q.within ≡ all block_within l

  all_last : (l : List Block) (b : Block)
      → all block_within (l ++ (b ∷ [])) ≡ all block_within l
      && block_within b
  unfolding all
  all_last [] b = and-true (block_within b)
    where
      and-true : (t : Bool) → t && true ≡ t
      and-true true = refl
      and-true false = refl
  all_last (x ∷ l) b = ap (λ t. block_within x && t) (all_last l b) ∙ assoc (block_within x) _ _
    where
      assoc : (s t u : Bool) → s && (t && u) ≡ (s && t) && u
      assoc true t u = refl
      assoc false t u = refl

  last-is : (l : List Block) (b : Block) → get_or (l ++ (b ∷ [])) (length l) no_block ≡ b
  last-is [] b = refl
  last-is (x ∷ l) b = last-is l b

  put_holds : (q : Question) (l : List Block) (b : Block) → Holds q l → Holds (put q b) (l ++ (b ∷ []))
  unfolding put
  put_holds q l b h =
      record {
        count = (let a = length-append l (b ∷ []) in let c = h.count in omega arith);
        long = put-long q b h.long;
        first = first;
        within = ap (λ t. t && block_within b) h.within ∙ sym (all_last l b);
      }
    where
      n : length (l ++ (b ∷ [])) ≡ suc (length l)
      n = length-append l (b ∷ []) ∙ (let e : length l + 1 ≡ suc (length l) = omega arith in e)

      filled : (t : Bool) → ltb q.count 5 ≡ t → (k : ℕ) → k < 5 → k < length (l ++ (b ∷ []))
          → get_or (cond t (set q.blocks q.count b) q.blocks) k no_block ≡ get_or (l ++ (b ∷ [])) k no_block
      filled true e k five inside =
          on (eqb k q.count)
          (λ i.
          let a = eqb-true k q.count i in let c = h.count in let m = h.long in
          rw (a, get_or-set_same q.blocks q.count b no_block (omega (arith, ltb-true q.count 5 e)), c)
          (sym (last-is l b)))
          (λ i.
          let a = eqb-false k q.count i in let c = h.count in let m = n in
          let u : k < length l = below k inside (λ z. a (z ∙ sym c)) in
          rw (get_or-set_other q.blocks q.count k b no_block a)
          (h.first k five u ∙ sym (get_or-append l (b ∷ []) no_block k u)))
        where
          below : (k : ℕ) → k < length (l ++ (b ∷ [])) → (k ≡ length l → ⊥) → k < length l
          below k i d = let m = n in omega arith
      filled false e k five inside =
          let c = h.count in let u = ltb-false q.count 5 e in
          h.first k five (omega arith) ∙ sym (get_or-append l (b ∷ []) no_block k (omega arith))

      first : (k : ℕ) → k < 5 → k < length (l ++ (b ∷ []))
          → get_or (put q b).blocks k no_block ≡ get_or (l ++ (b ∷ [])) k no_block
      first = filled (ltb q.count 5) refl

  append-cons : (l : List Block) (b : Block) (r : List Block) → (l ++ (b ∷ [])) ++ r ≡ l ++ (b ∷ r)
  append-cons [] b r = refl
  append-cons (x ∷ l) b r = ap (λ t. x ∷ t) (append-cons l b r)

  append-nil : (l : List Block) → l ++ [] ≡ l
  append-nil [] = refl
  append-nil (x ∷ l) = ap (λ t. x ∷ t) (append-nil l)

  walk-holds : (f : ℕ) (q : Question) (l : List Block) → Holds q l
      → Holds (walk f bs q) (l ++ blocks_from f q.end) × ((walk f bs q).end ≡ stop_from stands_at end_at f q.end)
  unfolding walk put blocks_from count_from stop_from list_at
  walk-holds zero q l h = (subst (λ m. Holds q m) (sym (append-nil l)) h, refl)
  walk-holds (suc f) q l h =
      on (eqb (block bs q.end).end 0) done
      (more (walk-holds f (put q (block bs q.end)) (l ++ (block bs q.end ∷ []))
      (put_holds q l (block bs q.end) h)))
    where
      b : Block
      b = block bs q.end

      Goal : Type 0
      Goal =
          Holds (walk (suc f) bs q) (l ++ blocks_from (suc f) q.end)
          × ((walk (suc f) bs q).end ≡ stop_from stands_at end_at (suc f) q.end)

      done : eqb (block bs q.end).end 0 ≡ true → Goal
      done e =
          rw (blocks-done f q.end e, stop-done f q.end e, e) (subst (λ m. Holds q m) (sym (append-nil l)) h, refl)

      more : Holds (walk f bs (put q b)) ((l ++ (b ∷ [])) ++ blocks_from f (put q b).end)
          × ((walk f bs (put q b)).end ≡ stop_from stands_at end_at f (put q b).end)
          → eqb (block bs q.end).end 0 ≡ false → Goal
      more r e =
          rw (blocks_more f q.end e, stop-more f q.end e, e)
          (subst (λ m. Holds (walk f bs (put q b)) m) (append-cons l b (blocks_from f (put q b).end)) r.0, r.1)

  -- the reading holds all blocks that stand, and ends where they end
  abbrev pub all_blocks : List Block
  all_blocks = blocks_from (length bs) 0

  pub reading-holds : Holds (reading bs) all_blocks
  unfolding reading all
  reading-holds =
      (walk-holds (length bs) no_question []
      (record { count = refl; long = refl; first = λ k h l. absurd (omega arith); within = refl })).0

  reading-end : (reading bs).end ≡ stop_from stands_at end_at (length bs) 0
  unfolding reading all
  reading-end =
      (walk-holds (length bs) no_question []
      (record { count = refl; long = refl; first = λ k h l. absurd (omega arith); within = refl })).1

  -- the end mark, and nothing after it
  ends_is : (j : ℕ) → j + 2 ≤ length bs → ends (drop (j + 2) bs) ≡ eqb (j + 2) (length bs)
  ends_is j h =
      ⊎_elim
      (λ k. ap ends (cons-at bs (j + 2) k) ∙ ends-cons _ _ ∙ sym (ne_eqb (j + 2) (length bs) (λ z. omega arith)))
      (λ k. ap ends (nil-at bs (j + 2) (omega arith)) ∙ ends-nil ∙ sym (eq-eqb (j + 2) (length bs) (omega arith)))
      (le-or (suc (j + 2)) (length bs))

  end-stands : (j : ℕ) → marked EN (drop j bs) ≡ true → record_ok En bs j ≡ true
  unfolding head_ok elements_ok record_end
  end-stands j e =
      let l = marked-long bs EN j e in
      rw (record_whole En bs j (omega arith) (omega arith), head_is bs En j e) refl

  formed-at : (j : ℕ) → j ≡ (reading bs).end → (t : Bool) → marked EN (drop j bs) ≡ t
      → well_formed bs ≡ marked EN (drop j bs) && ends (drop 2 (drop j bs))
  unfolding well_formed record_end
  formed-at j s true e =
      rw (sym s, end-stands j e, e, drop-drop 2 j bs)
      (let p : j + 2 + 0 ≡ j + 2 = omega arith in
      sym (ends_is j (marked-long bs EN j e) ∙ ap (λ k. eqb k (length bs)) (sym p)))
  formed-at j s false e = rw (sym s, not_there bs En j e, e) refl

  -- the model's blocks, where all were read
  abbrev pub question : List model.Block
  question = list_at (λ i. described bs (block bs i)) end_at (count_from stands_at end_at (length bs) 0) 0

  stand-marked : (i : ℕ) → stands_at i ≡ true → marked BK (drop i bs) ≡ true
  unfolding block
  stand-marked i e =
      on (record_ok Bk bs i) (λ t. record-marked bs Bk i t)
      (λ t. absurd (subst T (sym e ∙ ap (λ (b : Block). not (eqb b.end 0)) (block_bare bs i t)) tt))

  by_blocks : Many BK (records.block (length bs)) bs stands_at (λ i. described bs (block bs i)) end_at (block_reads bs)
      stand-marked (length bs) 0
      → (well_formed bs ≡ records.well_formed bs) × (records.well_formed bs ≡ true → records.question_of bs ≡ question)
  by_blocks (all_read h) =
      on (marked EN (drop j bs) && ends (drop 2 (drop j bs)))
      (λ t.
      let q = question_read bs question (drop j bs) h t in (
        formed ∙ t ∙ sym (well_formed_is bs ∙ ap records.is_question q),
        λ w. question_of_is bs
            ∙ ap records.blocks_of q,
      ))
      (λ t.
      let q = question_unended bs question (drop j bs) h t in
      let n : records.well_formed bs ≡ false = well_formed_is bs ∙ ap records.is_question q in
      (formed ∙ t ∙ sym n, λ w. absurd (subst T (sym w ∙ n) tt)))
    where
      j : ℕ
      j = stop_from stands_at end_at (length bs) 0

      formed : well_formed bs ≡ marked EN (drop j bs) && ends (drop 2 (drop j bs))
      formed = formed-at j (sym reading-end) (marked EN (drop j bs)) refl
  by_blocks (broken h k) =
      let j = stop_from stands_at end_at (length bs) 0 in
      let m : marked EN (drop j bs) ≡ false = marked_other BK EN (drop j bs) (λ z. omega arith) k in
      let n : records.well_formed bs ≡ false = well_formed_is bs ∙ ap records.is_question (question_malformed bs h) in (
        formed-at j (sym reading-end) (marked EN (drop j bs)) refl ∙ ap (λ t. t && ends (drop 2 (drop j bs))) m ∙ sym n,
        λ w. absurd (subst T (sym w ∙ n) tt),
      )

  both_ways : (well_formed bs ≡ records.well_formed bs)
      × (records.well_formed bs ≡ true → records.question_of bs ≡ question)
  both_ways =
      by_blocks (many-run BK (records.block (length bs)) bs stands_at (λ i. described bs (block bs i)) end_at
      (block_reads bs) stand-marked (length bs) 0)

  -- number 5 by place is the model's
  pub formed-is : well_formed bs ≡ records.well_formed bs
  formed-is = both_ways.0

  map-list : {A B : Type 0} (g : A → B) (v : ℕ → A) (end : ℕ → ℕ) (n i : ℕ)
      → list_at (λ j. g (v j)) end n i ≡ map g (list_at v end n i)
  unfolding list_at
  map-list g v end zero i = refl
  map-list g v end (suc n) i = ap (λ l. g (v i) ∷ l) (map-list g v end n (end i))

  -- the model's question is what the descriptions of all blocks tell of
  pub question-is : records.well_formed bs ≡ true → records.question_of bs ≡ map (described bs) all_blocks
  unfolding blocks_from
  question-is w = both_ways.1 w ∙ map-list (described bs) (block bs) end_at (count_from stands_at end_at (length bs) 0) 0

-- where there are at most five blocks, the reading has all of them
take_places : (l m : List Block) (n : ℕ) → length l ≤ n → n ≤ length m
    → ((k : ℕ) → k < n → k < length l → get_or m k no_block ≡ get_or l k no_block) → take (length l) m ≡ l
take_places [] m n a b h = refl
take_places (x ∷ l) [] n a b h = absurd (omega arith)
take_places (x ∷ l) (y ∷ m) zero a b h = absurd (omega arith)
take_places (x ∷ l) (y ∷ m) (suc n) a b h =
    ap₂ ◌∷◌ (h 0 (omega arith) (omega arith))
    (take_places l m n (omega arith) (omega arith) (λ k i j. h (suc k) (omega arith) (omega arith)))

pub reading-blocks : (bs : List ℕ) → (reading bs).count ≤ 5
    → take (reading bs).count (reading bs).blocks ≡ all_blocks bs
reading-blocks bs few =
    let h = reading-holds bs in let n = h.count in let five = h.long in
    ap (λ k. take k (reading bs).blocks) h.count
    ∙ take_places (all_blocks bs) (reading bs).blocks 5 (omega arith) (omega arith) h.first

-- the model's question is what the kept descriptions tell of, where there are at most five blocks
pub read_is : (bs : List ℕ) → records.well_formed bs ≡ true → (reading bs).count ≤ 5
    → records.question_of bs ≡ blocks_in bs (reading bs)
unfolding blocks_in
read_is bs w few = question-is bs w ∙ ap (map (described bs)) (sym (reading-blocks bs few))

-- and it has as many blocks as were read
pub count_is : (bs : List ℕ) → records.well_formed bs ≡ true → length (records.question_of bs) ≡ (reading bs).count
count_is bs w =
    ap length (question-is bs w) ∙ length-map (all_blocks bs) (described bs) ∙ sym (reading-holds bs).count

-- the counts of a block's description are those of its records
relations-length : (bs : List ℕ) (n i : ℕ) → length (relations_at bs n i) ≡ n
unfolding relations_at
relations-length bs zero i = refl
relations-length bs (suc n) i = ap suc (relations-length bs n (record_end Rw bs i))

conditions-length : (bs : List ℕ) (n i : ℕ) → length (conditions_at bs n i) ≡ n
unfolding conditions_at
conditions-length bs zero i = refl
conditions-length bs (suc n) i = ap suc (conditions-length bs n (condition_end bs i))

pub elements-length : (bs : List ℕ) (n i : ℕ) → length (elements_at bs n i) ≡ n
unfolding elements_at
elements-length bs zero i = refl
elements-length bs (suc n) i = ap suc (elements-length bs n (i + 9))

-- the limits of 6 on one block
abbrev pub within : model.Block → Bool
within b = leb (length b.relations) 3 && leb (length b.conditions) 8 && from_to 1 4 (length b.outputs)

block_within_lem : (bs : List ℕ) (b : Block) → block_within b ≡ within (described bs b)
unfolding described
block_within_lem bs b =
    rw (
      relations-length bs b.rows b.rows_at,
      conditions-length bs b.conditions b.conditions_at,
      elements-length bs b.outputs b.outputs_at,
    )
    (assoc (ltb b.rows 4) (ltb b.conditions 9) (ltb 0 b.outputs) (ltb b.outputs 5)
    ∙ ap₂ ◌&&◌ (ap₂ ◌&&◌ (below b.rows 3) (below b.conditions 8))
    (ap₂ ◌&&◌ (above b.outputs) (below b.outputs 4)))
  where
    assoc : (p q r s : Bool) → p && q && r && s ≡ (p && q) && (r && s)
    assoc true true true s = refl
    assoc true true false s = refl
    assoc true false r s = refl
    assoc false q r s = refl

    below : (n m : ℕ) → ltb n (suc m) ≡ leb n m
    below n m = ⊎_elim (λ h. lt-ltb n (suc m) (omega arith) ∙ sym (le-leb n m h))
        (λ h. le-ltb n (suc m) (omega arith) ∙ sym (lt-leb n m h)) (le-or n m)

    above : (n : ℕ) → ltb 0 n ≡ leb 1 n
    above n = ⊎_elim (λ h. lt-ltb 0 n h ∙ sym (le-leb 1 n h)) (λ h. le-ltb 0 n (omega arith) ∙ sym (lt-leb 1 n h))
        (le-or 1 n)

pub within_is : (bs : List ℕ) → records.well_formed bs ≡ true → (reading bs).within ≡ all within (records.question_of bs)
unfolding all
within_is bs w = (reading-holds bs).within ∙ go (all_blocks bs) ∙ ap (all within) (sym (question-is bs w))
  where
    go : (l : List Block) → all block_within l ≡ all within (map (described bs) l)
    go [] = refl
    go (b ∷ l) = ap₂ ◌&&◌ (block_within_lem bs b) (go l)

-- the places of every block that was read lie in the bytes
blocks_lie : (bs : List ℕ) (f i : ℕ) → All (Lies bs) (blocks_from bs f i)
unfolding blocks_from count_from list_at
blocks_lie bs zero i = tt
blocks_lie bs (suc f) i = on (eqb (block bs i).end 0) done (more (blocks_lie bs f (end_at bs i)))
  where
    positive : (m : ℕ) → (m ≡ 0 → ⊥) → 0 < m
    positive zero h = absurd (h refl)
    positive (suc m) h = omega arith

    done : eqb (block bs i).end 0 ≡ true → All (Lies bs) (blocks_from bs (suc f) i)
    done e = rw (blocks-done bs f i e) tt

    more : All (Lies bs) (blocks_from bs f (end_at bs i)) → eqb (block bs i).end 0 ≡ false
        → All (Lies bs) (blocks_from bs (suc f) i)
    more r e =
        rw (blocks_more bs f i e) (block_lies bs i (positive (block bs i).end (eqb-false (block bs i).end 0 e)), r)

pub all_lie : (bs : List ℕ) → All (Lies bs) (all_blocks bs)
all_lie bs = blocks_lie bs (length bs) 0
