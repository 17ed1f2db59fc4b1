-- Blocks by place, and the whole question, are those that the model's parsers read.
use Prim.Native.Nat.{ℕ, zero, suc, ◌+◌, ◌≤◌, ◌<◌}
use native.Mathlib.Omega.{arith}
use mathlib.Core.Bool.{Bool, true, false, not}
use mathlib.Core.List.{List, ◌∷◌}
use mathlib.Core.Logic.{◌⊎◌, inl, inr, ⊎_elim}
use mathlib.Core.Option.{none, some}
use mathlib.Core.Path.{◌≡◌, refl, sym, ap, ap₂, ◌∙◌, subst}
use lib.Dec.{T, eqb}
use lib.ListN.{length, drop}
use lib.Seq.{drop-drop}
use Rattle.syntax.specs.Described.{relation_at, relations_at, condition_at, conditions_at, elements_at, described}
use Rattle.syntax.specs.Places.{elements_ok, byte_at, head_ok, record_end, condition_end, record_ok, runs, no_block}
use Rattle.syntax.specs.Places.{block}
use Rattle.syntax.specs.declared.Block.{Block}
use Rattle.syntax.specs.declared.Run.{Run}
use Rattle.syntax.specs.declared.Record.{Record}
use Rattle.syntax.specs.declared.Record.TheVariants.{Rw, Cd, Ol, Bk}
use Rattle.model.proofs.FormatEquations.{after_none, after-some, only-fails}
use Rattle.model.proofs.RecordEquations.{one-there, one-missing, block-nil, block_read}
use Rattle.model.specs.Format.{Parser, after, only, relation, condition, output}
use Rattle.model.specs.Question.{RelationRow, Condition}
use Rattle.model.specs.Records.{BK, RW, CD, OL, marked, many, one}
use Rattle.syntax.proofs.Conditions.{end-within, past-stays, condition_past}
use Rattle.syntax.proofs.Elements.{le-or, nil-at, only-pass}
use Rattle.syntax.proofs.Laws.{on, run_done, end_is, block_is, block_bare, with_bare, record_whole}
use Rattle.syntax.proofs.Records.{mark_of, head_is, record-marked, cut, one_at, relation-reads, condition-reads}
use Rattle.syntax.proofs.Records.{output-reads}
use Rattle.syntax.proofs.Runs.{list_at, count_from, stop_from, run_is, marked_other, Many, all_read, broken}
use Rattle.syntax.proofs.Runs.{many-run}
use borrow.Author.Tests.{ne_eqb}
use Rattle.model.specs.Question as model
use Rattle.model.specs.Records as records

pub relations_are : (bs : List ℕ) (n i : ℕ) → relations_at bs n i ≡ list_at (relation_at bs) (record_end Rw bs) n i
unfolding relations_at list_at
relations_are bs zero i = refl
relations_are bs (suc n) i = ap (λ l. relation_at bs i ∷ l) (relations_are bs n (record_end Rw bs i))

-- past the end the conditions that follow are the same from every place
conditions_beyond : (bs : List ℕ) (n i j : ℕ) → length bs ≤ i → length bs ≤ j
    → list_at (condition_at bs) (record_end Cd bs) n i ≡ list_at (condition_at bs) (record_end Cd bs) n j
unfolding list_at
conditions_beyond bs zero i j h k = refl
conditions_beyond bs (suc n) i j h k =
    ap₂ ◌∷◌ (condition_past bs i h ∙ sym (condition_past bs j k))
    (conditions_beyond bs n (record_end Cd bs i) (record_end Cd bs j) (omega (arith, end_is Cd bs i))
    (omega (arith, end_is Cd bs j)))

conditions_step : (bs : List ℕ) (n i : ℕ)
    → list_at (condition_at bs) (record_end Cd bs) n (condition_end bs i)
    ≡ list_at (condition_at bs) (record_end Cd bs) n (record_end Cd bs i)
conditions_step bs n i =
    ⊎_elim
    (λ h. conditions_beyond bs n (condition_end bs i) (record_end Cd bs i) (past-stays bs i h)
    (omega (arith, end_is Cd bs i)))
    (λ h. ap (list_at (condition_at bs) (record_end Cd bs) n) (end-within bs i h))
    (le-or (length bs) i)

pub conditions_are : (bs : List ℕ) (n i : ℕ) → conditions_at bs n i ≡ list_at (condition_at bs) (record_end Cd bs) n i
unfolding conditions_at list_at
conditions_are bs zero i = refl
conditions_are bs (suc n) i =
    ap (λ l. condition_at bs i ∷ l) (conditions_are bs n (condition_end bs i) ∙ conditions_step bs n i)

not-true : {P : Type 0} → false ≡ true → P
not-true e = absurd (subst T (sym e) tt)

module _ (bs : List ℕ) where
  abbrev f : ℕ
  f = length bs

  -- a record whose mark does not stand there
  pub not_there : (r : Record) (i : ℕ) → marked (mark_of r) (drop i bs) ≡ false → record_ok r bs i ≡ false
  not_there r i e = on (record_ok r bs i) (λ t. not-true (sym e ∙ record-marked bs r i t)) (λ t. t)

  -- a run of records from place i on: all read, or stopped before a malformed one
  module _ {A : Type 0} (r : Record) (p : Parser A) (val : ℕ → A)
      (reads : (i : ℕ) → marked (mark_of r) (drop i bs) ≡ true
      → p (drop 2 (drop i bs)) ≡ only (record_ok r bs i) (val i) (drop (record_end r bs i) bs)) where
    abbrev pub RunRead : ℕ → Type 0
    RunRead i =
        (many f (mark_of r) p (drop i bs) ≡ some
        (list_at val (record_end r bs) (runs r bs i).count i, drop (runs r bs i).at bs))
        ⊎ ((many f (mark_of r) p (drop i bs) ≡ none) × (marked (mark_of r) (drop (runs r bs i).at bs) ≡ true))

    pub run-read : (i : ℕ) → RunRead i
    run-read i =
        go (many-run (mark_of r) p bs (record_ok r bs) val (record_end r bs) reads (λ j. record-marked bs r j) f i)
      where
        k : ℕ
        k = count_from (record_ok r bs) (record_end r bs) f i

        at-is : (runs r bs i).at ≡ stop_from (record_ok r bs) (record_end r bs) f i
        at-is = ap (λ (x : Run). x.at) (run_is f r bs 0 i)

        count_is : (runs r bs i).count ≡ k
        count_is = ap (λ (x : Run). x.count) (run_is f r bs 0 i) ∙ (let e : 0 + k ≡ k = omega arith in e)

        go : Many (mark_of r) p bs (record_ok r bs) val (record_end r bs) reads (λ j. record-marked bs r j) f i
            → RunRead i
        go (all_read h) = inl (rw (at-is, count_is) h)
        go (broken h m) = inr (h, rw at-is m)

  -- where no record stands, its run is empty
  run-empty : (r : Record) (i : ℕ) → record_ok r bs i ≡ false → runs r bs i ≡ record { at = i; count = 0 }
  run-empty r i e = run_done f r bs 0 i e

  -- a block after its mark
  module _ (i : ℕ) (e : marked BK (drop i bs) ≡ true) where
    abbrev stands : Bool
    stands = not (eqb (block bs i).end 0)

    abbrev Reads : Type 0
    Reads = records.block f (drop (i + 2) bs) ≡ only stands (described bs (block bs i)) (drop (block bs i).end bs)

    abbrev r : Run
    r = runs Rw bs (i + 3)

    abbrev c : Run
    c = runs Cd bs r.at

    none_read : block bs i ≡ no_block → records.block f (drop (i + 2) bs) ≡ none → Reads
    none_read b h = h ∙ sym (rw b (only-fails false _ _ refl))

    head-stands : i + 3 ≤ length bs → record_ok Bk bs i ≡ true
    unfolding head_ok elements_ok record_end
    head-stands h =
        rw (record_whole Bk bs i (omega arith) (omega arith), head_is bs Bk i e) refl

    -- no output list where the run of conditions ends: no block
    no_output : i + 3 ≤ length bs → record_ok Ol bs c.at ≡ false → block bs i ≡ no_block
    no_output h o = block_is bs i (head-stands h) ∙ with_bare bs i r c o

    abbrev third : List RelationRow → List Condition → Parser model.Block
    third ws xs ds =
        after (one OL output ds)
        (λ os es. some (record { parent = byte_at bs (i + 2); relations = ws; conditions = xs; outputs = os }, es))

    abbrev second : List RelationRow → Parser model.Block
    second ws cs = after (many f CD condition cs) (third ws)

    block-bytes : i + 3 ≤ length bs
        → records.block f (drop (i + 2) bs) ≡ after (many f RW relation (drop (i + 3) bs)) second
    block-bytes h = ap (records.block f) (one_at bs i h) ∙ block_read f (byte_at bs (i + 2)) (drop (i + 3) bs)

    rows : List RelationRow
    rows = relations_at bs r.count (i + 3)

    conditions : List Condition
    conditions = conditions_at bs c.count r.at

    -- the block where its output list stands
    whole : Block
    whole =
        record {
          parent = byte_at bs (i + 2);
          rows_at = i + 3;
          rows = r.count;
          conditions_at = r.at;
          conditions =
              c.count;
          outputs_at = c.at + 3;
          outputs = byte_at bs (c.at + 2);
          end = record_end Ol bs c.at;
        }

    whole_is : i + 3 ≤ length bs → record_ok Ol bs c.at ≡ true → block bs i ≡ whole
    unfolding whole
    whole_is h o = block_is bs i (head-stands h) ∙ rw o refl

    abbrev output-of : model.Block
    output-of =
        record {
          parent = byte_at bs (i + 2);
          relations = rows;
          conditions = conditions;
          outputs =
              elements_at bs (byte_at bs (c.at + 2)) (c.at + 3);
        }

    by-record : i + 3 ≤ length bs → (t : Bool) → record_ok Ol bs c.at ≡ t
        → only t output-of (drop (record_end Ol bs c.at) bs) ≡ only stands (described bs (block bs i))
        (drop (block bs i).end bs)
    unfolding described whole rows conditions
    by-record h true o =
        rw (whole_is h o)
        (let n : eqb (record_end Ol bs c.at) 0 ≡ false =
        ne_eqb (record_end Ol bs c.at) 0 (λ z. let g = end_is Ol bs c.at in omega arith) in
        rw n refl)
    by-record h false o = only-fails false _ _ refl ∙ sym (rw (no_output h o) (only-fails false _ _ refl))

    by-output : i + 3 ≤ length bs → (t : Bool) → marked OL (drop c.at bs) ≡ t
        → third rows conditions (drop c.at bs) ≡ only stands (described bs (block bs i)) (drop (block bs i).end bs)
    by-output h true m =
        rw (one-there OL output (drop c.at bs) m, output-reads bs c.at m)
        (only-pass (record_ok Ol bs c.at) (elements_at bs (byte_at bs (c.at + 2)) (c.at + 3))
        (drop (record_end Ol bs c.at) bs)
        (λ os. record { parent = byte_at bs (i + 2); relations = rows; conditions = conditions; outputs = os })
        ∙ by-record h (record_ok Ol bs c.at) refl)
    by-output h false m =
        rw (one-missing OL output (drop c.at bs) m)
        (after_none _ ∙ sym (rw (no_output h (not_there Ol c.at m)) (only-fails false _ _ refl)))

    -- where a run of relation rows or of conditions stops before a malformed one, no output list stands
    after-rows : i + 3 ≤ length bs → marked RW (drop r.at bs) ≡ true → block bs i ≡ no_block
    after-rows h m =
        let n : record_ok Cd bs r.at ≡ false =
        not_there Cd r.at (marked_other RW CD (drop r.at bs) (λ z. omega arith) m) in
        let s : c.at ≡ r.at = ap (λ (x : Run). x.at) (run-empty Cd r.at n) in
        no_output h
        (not_there Ol c.at (marked_other RW OL (drop c.at bs) (λ z. omega arith) (rw s m)))

    after-conditions : i + 3 ≤ length bs → marked CD (drop c.at bs) ≡ true → block bs i ≡ no_block
    after-conditions h m =
        no_output h (not_there Ol c.at (marked_other CD OL (drop c.at bs) (λ z. omega arith) m))

    by-conditions : i + 3 ≤ length bs → RunRead Cd condition (condition_at bs) (condition-reads bs) r.at
        → second rows (drop r.at bs) ≡ only stands (described bs (block bs i)) (drop (block bs i).end bs)
    unfolding conditions
    by-conditions h (inl x) =
        rw (x, sym (conditions_are bs c.count r.at))
        (after-some _ _ _ ∙ by-output h (marked OL (drop c.at bs)) refl)
    by-conditions h (inr x) =
        rw x.0 (after_none _ ∙ sym (rw (after-conditions h x.1) (only-fails false _ _ refl)))

    by_rows : i + 3 ≤ length bs → RunRead Rw relation (relation_at bs) (relation-reads bs) (i + 3) → Reads
    unfolding rows
    by_rows h (inl x) =
        block-bytes h
        ∙ rw (x, sym (relations_are bs r.count (i + 3)))
        (after-some _ _ _
        ∙ by-conditions h
        (run-read Cd condition (condition_at bs) (condition-reads bs) r.at))
    by_rows h (inr x) = none_read (after-rows h x.1) (block-bytes h ∙ rw x.0 (after_none _))

    short : length bs < i + 3 → Reads
    short h =
        none_read (block_bare bs i (cut bs Bk i (let g = end_is Bk bs i in omega arith)))
        (ap (records.block f) (nil-at bs (i + 2) (omega arith)) ∙ block-nil f)

    pub block_reads : records.block f (drop 2 (drop i bs)) ≡ only stands (described bs (block bs i))
        (drop (block bs i).end bs)
    block_reads =
        ap (records.block f) (drop-drop 2 i bs)
        ∙ ⊎_elim (λ h. by_rows h (run-read Rw relation (relation_at bs) (relation-reads bs) (i + 3))) short
        (le-or (i + 3) (length bs))
