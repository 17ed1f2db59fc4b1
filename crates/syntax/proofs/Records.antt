-- A record by place is the record that the model's parser reads there.
use Prim.Native.Nat.{ℕ, suc, ◌+◌, ◌*◌, ◌-◌, ◌<◌, ◌≤◌}
use native.Mathlib.Omega.{arith}
use mathlib.Core.Bool.{Bool, true, false, ◌&&◌}
use mathlib.Core.List.{List, [], ◌∷◌}
use mathlib.Core.Logic.{⊎_elim}
use mathlib.Core.Option.{none, some}
use mathlib.Core.Path.{◌≡◌, refl, sym, ap, ◌∙◌, subst}
use lib.Dec.{T, eqb, ltb, leb}
use lib.ListN.{length, drop}
use lib.Seq.{drop-drop}
use Rattle.syntax.specs.Described.{element_at, elements_at, relation_at, condition_at}
use Rattle.syntax.specs.Places.{byte_at, is_mark, head_of, head_ok, record_end, record_ok, element_ok, elements_ok}
use Rattle.model.proofs.FormatEquations.{after_none, only-fails, relation-nil, relation_short, relation_read}
use Rattle.model.proofs.FormatEquations.{condition-nil, condition-other, condition_read, output-nil, output_read}
use Rattle.model.proofs.RecordEquations.{marked-nil, marked_short, marked_two}
use Rattle.model.specs.Format.{Parser, after, only, element, relation, condition, output, condition_kinds}
use Rattle.model.specs.Question.{Element, Condition}
use Rattle.model.specs.Records.{Mark, BK, RW, CD, OL, EN, marked}
use Rattle.syntax.proofs.Elements.{only-pass, only_then, le-or, cons-at, nil-at, times-some, times-short}
use Rattle.syntax.proofs.Elements.{element-some, element-none, after_only}
use Rattle.syntax.proofs.Laws.{both, head-size, record_short, record_cut, record_whole}
use Rattle.syntax.specs.declared.Record.{Record}
use Rattle.syntax.specs.declared.Record.TheVariants.{Rw, Cd, Ol, Bk, En}
use borrow.Author.Tests.{leb-true}

abbrev pub mark_of : Record → Mark
mark_of Rw = RW
mark_of Cd = CD
mark_of Ol = OL
mark_of Bk = BK
mark_of En = EN

mark_is : (r : Record) (x y : ℕ) → is_mark r x y ≡ eqb x (mark_of r).first && eqb y (mark_of r).second
mark_is Rw x y = refl
mark_is Cd x y = refl
mark_is Ol x y = refl
mark_is Bk x y = refl
mark_is En x y = refl

module _ (bs : List ℕ) where
  pub marked-at : (m : Mark) (i : ℕ) → i + 2 ≤ length bs
      → marked m (drop i bs) ≡ eqb (byte_at bs i) m.first && eqb (byte_at bs (i + 1)) m.second
  marked-at m i h =
      ap (marked m) (cons-at bs i (omega arith) ∙ ap (λ l. byte_at bs i ∷ l) (cons-at bs (i + 1) (omega arith)))
      ∙ marked_two m (byte_at bs i) (byte_at bs (i + 1)) (drop (i + 1 + 1) bs)

  marked-cut : (m : Mark) (i : ℕ) → length bs < i + 2 → marked m (drop i bs) ≡ false
  marked-cut m i h =
      ⊎_elim
      (λ k. ap (marked m) (cons-at bs i k ∙ ap (λ l. byte_at bs i ∷ l) (nil-at bs (i + 1) (omega arith)))
      ∙ marked_short m (byte_at bs i))
      (λ k. ap (marked m) (nil-at bs i (omega arith)) ∙ marked-nil m)
      (le-or (suc i) (length bs))

  -- where a mark stands there are two bytes
  pub marked-long : (m : Mark) (i : ℕ) → marked m (drop i bs) ≡ true → i + 2 ≤ length bs
  marked-long m i e =
      ⊎_elim (λ k. k) (λ k. absurd (subst T (sym e ∙ marked-cut m i k) tt)) (le-or (i + 2) (length bs))

  pub head_is : (r : Record) (i : ℕ) → marked (mark_of r) (drop i bs) ≡ true
      → is_mark r (byte_at bs i) (byte_at bs (i + 1)) ≡ true
  head_is r i e =
      mark_is r (byte_at bs i) (byte_at bs (i + 1)) ∙ sym (marked-at (mark_of r) i (marked-long (mark_of r) i e)) ∙ e

  -- a well-formed record has its mark
  pub record-marked : (r : Record) (i : ℕ) → record_ok r bs i ≡ true → marked (mark_of r) (drop i bs) ≡ true
  unfolding record_ok head_ok
  record-marked r i e =
      let p = both (leb (head_of r) (length bs - i)) _ e in
      let q = both (leb (record_end r bs i) (length bs)) _ p.1 in
      let t = both (head_ok r bs i) _ q.1 in
      let m = both (is_mark r (byte_at bs i) (byte_at bs (i + 1))) _ t.0 in
      let l : i + 2 ≤ length bs =
      (let a = (head-size r).0 in let b = leb-true (head_of r) (length bs - i) p.0 in omega arith) in
      marked-at (mark_of r) i l ∙ sym (mark_is r (byte_at bs i) (byte_at bs (i + 1))) ∙ m.0

  -- a record that is cut, and one that is whole
  pub cut : (r : Record) (i : ℕ) → length bs < record_end r bs i → record_ok r bs i ≡ false
  cut r i k =
      ⊎_elim (λ h. record_cut r bs i h k) (λ h. record_short r bs i h) (le-or (head_of r) (length bs - i))

  pub one_at : (i : ℕ) → i + 3 ≤ length bs → drop (i + 2) bs ≡ byte_at bs (i + 2) ∷ drop (i + 3) bs
  one_at i l =
      let e : i + 2 + 1 ≡ i + 3 = omega arith in
      cons-at bs (i + 2) (omega arith) ∙ ap (λ j. byte_at bs (i + 2) ∷ drop j bs) e

  two : (i : ℕ) → i + 4 ≤ length bs → drop (i + 2) bs ≡ byte_at bs (i + 2) ∷ byte_at bs (i + 3) ∷ drop (i + 4) bs
  two i l =
      let f : i + 3 + 1 ≡ i + 4 = omega arith in
      one_at i (omega arith)
      ∙ ap (λ t. byte_at bs (i + 2) ∷ t) (cons-at bs (i + 3) (omega arith) ∙ ap (λ j. byte_at bs (i + 3) ∷ drop j bs) f)

  relation-cut : (i : ℕ) → i + 2 ≤ length bs → length bs < record_end Rw bs i → relation (drop (i + 2) bs) ≡ none
  unfolding record_end
  relation-cut i h k =
      ⊎_elim
      (λ l.
      ap relation (two i l)
      ∙ relation_read (byte_at bs (i + 2)) (byte_at bs (i + 3)) (drop (i + 4) bs)
      ∙ rw (times-short bs Rw (byte_at bs (i + 3)) (i + 4) k (omega arith)) (after_none _))
      (λ l. ⊎_elim
      (λ n. ap relation (one_byte n l) ∙ relation_short (byte_at bs (i + 2)))
      (λ n. ap relation (nil-at bs (i + 2) (omega arith)) ∙ relation-nil)
      (le-or (i + 3) (length bs)))
      (le-or (i + 4) (length bs))
    where
      one_byte : i + 3 ≤ length bs → length bs < i + 4 → drop (i + 2) bs ≡ byte_at bs (i + 2) ∷ []
      one_byte n l =
          cons-at bs (i + 2) (omega arith) ∙ ap (λ t. byte_at bs (i + 2) ∷ t) (nil-at bs (i + 2 + 1) (omega arith))

  -- a head that has its mark
  head-row : (i : ℕ) → marked RW (drop i bs) ≡ true → head_ok Rw bs i ≡ true
  unfolding head_ok
  head-row i e = rw (head_is Rw i e) refl

  -- a relation row after its mark
  pub relation-reads : (i : ℕ) → marked RW (drop i bs) ≡ true
      → relation (drop 2 (drop i bs)) ≡ only (record_ok Rw bs i) (relation_at bs i) (drop (record_end Rw bs i) bs)
  unfolding record_end relation_at
  relation-reads i e = ap relation (drop-drop 2 i bs) ∙ ⊎_elim whole broken (le-or (record_end Rw bs i) (length bs))
    where
      l : i + 2 ≤ length bs
      l = marked-long RW i e

      n : ℕ
      n = byte_at bs (i + 3)

      broken : length bs < record_end Rw bs i
          → relation (drop (i + 2) bs) ≡ only (record_ok Rw bs i) (relation_at bs i) (drop (record_end Rw bs i) bs)
      broken k = relation-cut i l k ∙ sym (only-fails (record_ok Rw bs i) _ _ (cut Rw i k))

      whole : record_end Rw bs i ≤ length bs
          → relation (drop (i + 2) bs) ≡ only (record_ok Rw bs i) (relation_at bs i) (drop (record_end Rw bs i) bs)
      whole k =
          rw (record_whole Rw bs i (omega arith) k, head-row i e)
          (ap relation (two i (omega arith))
          ∙ relation_read (byte_at bs (i + 2)) n (drop (i + 4) bs)
          ∙ rw (times-some bs Rw n (i + 4) k)
          (only-pass (elements_ok Rw bs n (i + 4)) (elements_at bs n (i + 4)) (drop (i + 4 + 9 * n) bs)
          (λ xs. record { table = byte_at bs (i + 2); entries = xs })))

  -- an output list after its mark
  head-output : (i : ℕ) → marked OL (drop i bs) ≡ true → head_ok Ol bs i ≡ true
  unfolding head_ok
  head-output i e = rw (head_is Ol i e) refl

  pub output-reads : (i : ℕ) → marked OL (drop i bs) ≡ true
      → output (drop 2 (drop i bs))
      ≡ only (record_ok Ol bs i) (elements_at bs (byte_at bs (i + 2)) (i + 3)) (drop (record_end Ol bs i) bs)
  unfolding record_end
  output-reads i e = ap output (drop-drop 2 i bs) ∙ ⊎_elim whole broken (le-or (record_end Ol bs i) (length bs))
    where
      l : i + 2 ≤ length bs
      l = marked-long OL i e

      n : ℕ
      n = byte_at bs (i + 2)

      Reads : Type 0
      Reads = output (drop (i + 2) bs) ≡ only (record_ok Ol bs i) (elements_at bs n (i + 3)) (drop (record_end Ol bs i) bs)

      broken : length bs < record_end Ol bs i → Reads
      broken k =
          ⊎_elim
          (λ m. ap output (one_at i m) ∙ output_read n (drop (i + 3) bs) ∙ times-short bs Ol n (i + 3) k m)
          (λ m. ap output (nil-at bs (i + 2) (omega arith)) ∙ output-nil)
          (le-or (i + 3) (length bs))
          ∙ sym (only-fails (record_ok Ol bs i) _ _ (cut Ol i k))

      whole : record_end Ol bs i ≤ length bs → Reads
      whole k =
          rw (record_whole Ol bs i (omega arith) k, head-output i e)
          (ap output (one_at i (omega arith)) ∙ output_read n (drop (i + 3) bs)
          ∙ times-some bs Ol n (i + 3) k)

  -- a condition after its mark
  head-condition : (i : ℕ) → marked CD (drop i bs) ≡ true → head_ok Cd bs i ≡ ltb (byte_at bs (i + 2)) 6
  unfolding head_ok
  head-condition i e = rw (head_is Cd i e) refl

  pub condition-reads : (i : ℕ) → marked CD (drop i bs) ≡ true
      → condition (drop 2 (drop i bs)) ≡ only (record_ok Cd bs i) (condition_at bs i) (drop (record_end Cd bs i) bs)
  unfolding record_end condition_at elements_ok
  condition-reads i e = ap condition (drop-drop 2 i bs) ∙ ⊎_elim whole broken (le-or (record_end Cd bs i) (length bs))
    where
      l : i + 2 ≤ length bs
      l = marked-long CD i e

      o : ℕ
      o = byte_at bs (i + 2)

      Reads : Type 0
      Reads = condition (drop (i + 2) bs) ≡ only (record_ok Cd bs i) (condition_at bs i) (drop (record_end Cd bs i) bs)

      second : Element → Parser Condition
      second x cs = after (element condition_kinds cs) (λ y ds. some (record { operator = o; left = x; right = y }, ds))

      both-cut : length bs < record_end Cd bs i → after (element condition_kinds (drop (i + 3) bs)) second ≡ none
      both-cut k =
          ⊎_elim
          (λ m. rw (element-some bs Cd (i + 3) m)
          (after_only (element_ok Cd bs (i + 3)) (element_at bs (i + 3)) (drop (i + 3 + 9) bs) second
          (rw (element-none bs Cd (i + 3 + 9) (omega arith)) (after_none _))))
          (λ m. rw (element-none bs Cd (i + 3) m) (after_none second))
          (le-or (i + 3 + 9) (length bs))

      by_code : length bs < record_end Cd bs i → (t : Bool) → ltb o 6 ≡ t → condition (o ∷ drop (i + 3) bs) ≡ none
      by_code k true c = condition_read o (drop (i + 3) bs) c ∙ both-cut k
      by_code k false c = condition-other o (drop (i + 3) bs) c

      broken : length bs < record_end Cd bs i → Reads
      broken k =
          ⊎_elim
          (λ m. ap condition (one_at i m) ∙ by_code k (ltb o 6) refl)
          (λ m. ap condition (nil-at bs (i + 2) (omega arith)) ∙ condition-nil)
          (le-or (i + 3) (length bs))
          ∙ sym (only-fails (record_ok Cd bs i) _ _ (cut Cd i k))

      and-true : (a b : Bool) → a && (b && true) ≡ a && b
      and-true a true = refl
      and-true true false = refl
      and-true false false = refl

      by_whole : record_end Cd bs i ≤ length bs → (t : Bool) → ltb o 6 ≡ t
          → condition (o ∷ drop (i + 3) bs)
          ≡ only (t && (element_ok Cd bs (i + 3) && (element_ok Cd bs (i + 3 + 9) && true))) (condition_at bs i)
          (drop (record_end Cd bs i) bs)
      by_whole k true c =
          let p : i + 12 ≡ i + 3 + 9 = omega arith in
          let r : i + 3 + 18 ≡ i + 3 + 9 + 9 = omega arith in
          rw (and-true (element_ok Cd bs (i + 3)) (element_ok Cd bs (i + 3 + 9)), p, r)
          (condition_read o (drop (i + 3) bs) c
          ∙ rw (element-some bs Cd (i + 3) (omega arith))
          (only_then (element_ok Cd bs (i + 3)) (element_ok Cd bs (i + 3 + 9)) (element_at bs (i + 3))
          (drop (i + 3 + 9) bs)
          (drop (i + 3 + 9 + 9) bs) _ second
          (rw (element-some bs Cd (i + 3 + 9) (omega arith))
          (only-pass (element_ok Cd bs (i + 3 + 9)) (element_at bs (i + 3 + 9)) (drop (i + 3 + 9 + 9) bs)
          (λ y. record { operator = o; left = element_at bs (i + 3); right = y })))))
      by_whole k false c = condition-other o (drop (i + 3) bs) c ∙ sym (only-fails false _ _ refl)

      whole : record_end Cd bs i ≤ length bs → Reads
      whole k =
          rw (record_whole Cd bs i (omega arith) k, head-condition i e)
          (ap condition (one_at i (omega arith)) ∙ by_whole k (ltb o 6) refl)
