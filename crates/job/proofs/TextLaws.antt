-- The text over the words is the model's: `text-told` where the words begin with those of the rows, `text_refused`
-- under any number but 0; `rows_read`: the rows of an accepted answer are read off the words in their order. Before that,
-- what `print_answer` puts.
use Prim.Native.Nat.{ℕ, zero, suc, ◌+◌, ◌*◌, ◌/◌, ◌≤◌, min}
use native.Mathlib.Nat.{zero-lt-suc, le-div_iff_mul-le}
use native.Mathlib.Omega.{arith}
use mathlib.Core.Bool.{Bool, true, false}
use mathlib.Core.List.{List, [], ◌∷◌, ◌++◌, append_assoc, append-nil}
use mathlib.Core.Path.{◌≡◌, refl, sym, ◌∙◌, ap, ap₂}
use borrow.Author.Tests.{eq-eqb, ne_eqb, eqb-true, eqb-false}
use lib.Dec.{eqb}
use lib.IntN.{ℤ, pos}
use lib.ListN.{length, get_or, drop, length-append}
use lib.Seq.{get_or-drop, append_snoc, drop_at}
use Rattle.model.specs.Listing.{digits, integer_text, value_text, row_text, rows_text, ok_line, no_line, answer_text}
use Rattle.model.specs.Lists.{All, concat_map, overwrite}
use Rattle.model.specs.RowSet.{Row, row_words, set_words}
use Rattle.model.specs.Value.{Value}
use Rattle.model.specs.declared.Answer.{Answer}
use Rattle.model.proofs.WordLaws.{words-length, set-length}
use Rattle.job.specs.Texts.{Wrote, ratio_text, field_text, gap_text, fields_text, line_text, lines_text, ok_text}
use Rattle.job.specs.Texts.{shown_rows, text}
use Rattle.job.proofs.WroteLaws.{wrote_as, wrote_then}
use Rattle.job.proofs.RowLaws.{shown-none, shown-some}

-- ---- an accepted answer, and a refused one
module _ (a : Answer) (ws : List ℤ) where
  pub accepted-text : a.number ≡ 0 → text a ws ≡ ok_text a.rows a.columns a.trials
      ++ lines_text ws a.columns (shown_rows a.rows a.columns (length ws))
  unfolding text
  accepted-text e = rw (eq-eqb a.number 0 e) refl

  pub refused-text : (a.number ≡ 0 → ⊥) → text a ws ≡ no_line a.number
  unfolding text
  refused-text e = rw (ne_eqb a.number 0 e) refl

  pub answer-accepted : {r q : ℕ} {l m k : List ℕ} (n : ℕ) → a.number ≡ 0
      → n ≡ shown_rows a.rows a.columns (length ws) → Wrote 0 (ok_text a.rows a.columns a.trials) l m r
      → Wrote r (lines_text ws a.columns n) m k q → Wrote 0 (text a ws) l k q
  answer-accepted n e f w v =
      wrote_as (wrote_then w v) (text a ws)
      (ap (λ z. ok_text a.rows a.columns a.trials ++ lines_text ws a.columns z) f ∙ sym (accepted-text e))

  pub answer-refused : {q : ℕ} {l m : List ℕ} → (a.number ≡ 0 → ⊥) → Wrote 0 (no_line a.number) l m q
      → Wrote 0 (text a ws) l m q
  answer-refused e w = wrote_as w (text a ws) (sym (refused-text e))

-- ---- a value further on is a value of the words left
field_on : (ws : List ℤ) (c p : ℕ) → field_text ws (c + p) ≡ field_text (drop (2 * c) ws) p
unfolding field_text
field_on ws c p =
    ap₂ ratio_text
    (ap (λ i. get_or ws i (pos 0)) (let e : 2 * (c + p) ≡ 2 * c + 2 * p = omega arith in e)
    ∙ sym (get_or-drop (2 * c) ws (2 * p) (pos 0)))
    (ap (λ i. get_or ws i (pos 0)) (let e : 2 * (c + p) + 1 ≡ 2 * c + (2 * p + 1) = omega arith in e)
    ∙ sym (get_or-drop (2 * c) ws (2 * p + 1) (pos 0)))

fields_on : (ws : List ℤ) (c p n : ℕ) → fields_text ws (c + p) n ≡ fields_text (drop (2 * c) ws) p n
unfolding fields_text
fields_on ws c p zero = refl
fields_on ws c p (suc n) =
    ap₂ (λ x y. x ++ (gap_text n ++ y)) (fields_on ws c p n)
    (ap (field_text ws) (let e : c + p + n ≡ c + (p + n) = omega arith in e) ∙ field_on ws c (p + n))

line_on : (ws : List ℤ) (c p n : ℕ) → line_text ws (c + p) n ≡ line_text (drop (2 * c) ws) p n
unfolding line_text
line_on ws c p n = ap (λ x. x ++ (10 ∷ [])) (fields_on ws c p n)

-- ---- a row: its first field, and each other after a space
more_text : List ℤ → ℕ → List ℕ
more_text ws zero = []
more_text ws (suc n) = 32 ∷ (field_text ws 0 ++ more_text (drop 2 ws) n)

more_last : (ws : List ℤ) (n : ℕ) → more_text ws (suc n) ≡ more_text ws n ++ (32 ∷ field_text ws n)
unfolding more_text
more_last ws zero = ap (λ x. 32 ∷ x) (append-nil (field_text ws 0))
more_last ws (suc n) =
    ap (λ x. 32 ∷ (field_text ws 0 ++ x)) (more_last (drop 2 ws) n)
    ∙ ap (λ x. 32 ∷ x) (sym (append_assoc (field_text ws 0) (more_text (drop 2 ws) n) (32 ∷ field_text (drop 2 ws) n)))
    ∙ ap (λ x. 32 ∷ (field_text ws 0 ++ more_text (drop 2 ws) n) ++ (32 ∷ x))
    (sym (field_on ws 1 n) ∙ ap (field_text ws) (let e : 1 + n ≡ suc n = omega arith in e))

fields_first : (ws : List ℤ) (n : ℕ) → fields_text ws 0 (suc n) ≡ field_text ws 0 ++ more_text (drop 2 ws) n
unfolding fields_text more_text
fields_first ws zero = sym (append-nil (field_text ws 0))
fields_first ws (suc n) =
    ap₂ (λ x y. x ++ (32 ∷ field_text ws y)) (fields_first ws n) (let e : 0 + suc n ≡ 1 + n = omega arith in e)
    ∙ ap (λ x. field_text ws 0 ++ more_text (drop 2 ws) n ++ (32 ∷ x)) (field_on ws 1 n)
    ∙ append_assoc (field_text ws 0) (more_text (drop 2 ws) n) (32 ∷ field_text (drop 2 ws) n)
    ∙ ap (λ x. field_text ws 0 ++ x) (sym (more_last (drop 2 ws) n))

value_told : (v : Value) (rest : List ℤ) → field_text (v.num ∷ pos v.den ∷ rest) 0 ≡ value_text v
unfolding field_text ratio_text value_text integer_text
value_told v rest = refl

more_told : (vs : Row) (v : Value) (rest : List ℤ)
    → value_text v ++ (more_text (row_words vs ++ rest) (length vs) ++ (10 ∷ [])) ≡ row_text (v ∷ vs)
unfolding more_text row_words row_text
more_told [] v rest = refl
more_told (u ∷ vs) v rest =
    ap (λ x. value_text v ++ (32 ∷ x))
    (append_assoc (field_text (u.num ∷ pos u.den ∷ (row_words vs ++ rest)) 0)
    (more_text (row_words vs ++ rest) (length vs)) (10 ∷ [])
    ∙ ap (λ x. x ++ (more_text (row_words vs ++ rest) (length vs) ++ (10 ∷ []))) (value_told u (row_words vs ++ rest))
    ∙ more_told vs u rest)

row_told : (r : Row) (rest : List ℤ) → line_text (row_words r ++ rest) 0 (length r) ≡ row_text r
unfolding line_text fields_text row_words row_text
row_told [] rest = refl
row_told (v ∷ vs) rest =
    ap (λ x. x ++ (10 ∷ [])) (fields_first (v.num ∷ pos v.den ∷ (row_words vs ++ rest)) (length vs))
    ∙ append_assoc (field_text (v.num ∷ pos v.den ∷ (row_words vs ++ rest)) 0)
    (more_text (row_words vs ++ rest) (length vs)) (10 ∷ [])
    ∙ ap (λ x. x ++ (more_text (row_words vs ++ rest) (length vs) ++ (10 ∷ []))) (value_told v (row_words vs ++ rest))
    ∙ more_told vs v rest

-- ---- the rows
lines_first : (ws : List ℤ) (c n : ℕ) → lines_text ws c (suc n) ≡ line_text ws 0 c ++ lines_text (drop (2 * c) ws) c n
unfolding lines_text
lines_first ws c zero =
    ap (λ p. line_text ws p c) (let e : 0 * c ≡ 0 = omega arith in e) ∙ sym (append-nil (line_text ws 0 c))
lines_first ws c (suc n) =
    ap₂ ◌++◌ (lines_first ws c n)
    (ap (λ p. line_text ws p c) (let e : suc n * c ≡ c + n * c = omega arith in e) ∙ line_on ws c (n * c) c)
    ∙ append_assoc (line_text ws 0 c) (lines_text (drop (2 * c) ws) c n) (line_text (drop (2 * c) ws) (n * c) c)

lines_told : (c : ℕ) (rs : List Row) (rest : List ℤ) → All (λ r. length r ≡ c) rs
    → lines_text (set_words rs ++ rest) c (length rs) ≡ rows_text rs
unfolding lines_text rows_text set_words concat_map
lines_told c [] rest u = refl
lines_told c (r ∷ rs) rest u =
    lines_first (row_words r ++ set_words rs ++ rest) c (length rs)
    ∙ ap (λ ws. line_text ws 0 c ++ lines_text (drop (2 * c) ws) c (length rs)) split
    ∙ ap₂ ◌++◌ (ap (line_text (row_words r ++ (set_words rs ++ rest)) 0) (sym u.0) ∙ row_told r (set_words rs ++ rest))
    (ap (λ ws. lines_text ws c (length rs)) (drop_at (row_words r) (set_words rs ++ rest) (2 * c) long)
    ∙ lines_told c rs rest u.1)
  where
    split : row_words r ++ set_words rs ++ rest ≡ row_words r ++ (set_words rs ++ rest)
    split = append_assoc (row_words r) (set_words rs) rest

    long : length (row_words r) ≡ 2 * c
    long = words-length r ∙ ap (λ z. 2 * z) u.0

-- all rows are shown
shown-all : (c : ℕ) (rs : List Row) (rest : List ℤ) → All (λ r. length r ≡ c) rs
    → shown_rows (length rs) c (length (set_words rs ++ rest)) ≡ length rs
shown-all zero rs rest u = shown-none (length rs) 0 (length (set_words rs ++ rest)) refl
shown-all (suc c) rs rest u =
    let k = length rs in let n = length (set_words rs ++ rest) in
    let a = length-append (set_words rs) rest in let b = set-length (suc c) rs u in
    let h : k * suc c ≤ n / 2 = omega arith in
    let f : k ≤ n / 2 / suc c = (le-div_iff_mul-le (zero-lt-suc c)).1 h in
    shown-some k (suc c) n (λ e. omega arith) ∙ (let e : min k (n / 2 / suc c) ≡ k = omega arith in e)

-- ---- the whole text
first-told : (a : Answer) → ok_text a.rows a.columns a.trials ≡ ok_line a
unfolding ok_text ok_line
first-told a = go (111 ∷ 107 ∷ 32 ∷ []) (digits a.rows) (digits a.columns) (digits a.trials)
  where
    go : (o r c t : List ℕ) → o ++ (r ++ (32 ∷ [])) ++ (c ++ (32 ∷ [])) ++ (t ++ (10 ∷ []))
        ≡ o ++ (r ++ (32 ∷ (c ++ (32 ∷ (t ++ (10 ∷ []))))))
    go o r c t =
        append_assoc (o ++ (r ++ (32 ∷ []))) (c ++ (32 ∷ [])) (t ++ (10 ∷ []))
        ∙ append_assoc o (r ++ (32 ∷ [])) (c ++ (32 ∷ []) ++ (t ++ (10 ∷ [])))
        ∙ ap (λ x. o ++ x)
        (append_snoc r 32 (c ++ (32 ∷ []) ++ (t ++ (10 ∷ [])))
        ∙ ap (λ x. r ++ (32 ∷ x)) (append_snoc c 32 (t ++ (10 ∷ []))))

accepted-told : (a : Answer) (rs : List Row) → a.number ≡ 0 → answer_text a rs ≡ ok_line a ++ rows_text rs
unfolding answer_text
accepted-told a rs e = rw (eq-eqb a.number 0 e) refl

refused_told : (a : Answer) (rs : List Row) → (a.number ≡ 0 → ⊥) → answer_text a rs ≡ no_line a.number
unfolding answer_text
refused_told a rs e = rw (ne_eqb a.number 0 e) refl

-- under any number but 0 neither words nor rows tell
pub text_refused : (a : Answer) (ws : List ℤ) (rs : List Row) → (a.number ≡ 0 → ⊥) → text a ws ≡ answer_text a rs
text_refused a ws rs e = refused-text a ws e ∙ sym (refused_told a rs e)

-- the rows of an accepted answer, read off a result that held other words
pub rows_read : (a : Answer) (rs : List Row) (words : List ℤ) → a.number ≡ 0 → a.rows ≡ length rs
    → All (λ r. length r ≡ a.columns) rs
    → answer_text a rs ≡ ok_line a ++ lines_text (overwrite (set_words rs) words) a.columns a.rows
unfolding overwrite
rows_read a rs words z k u =
    accepted-told a rs z
    ∙ ap (λ t. ok_line a ++ t)
    (sym (ap (lines_text (set_words rs ++ drop (length (set_words rs)) words) a.columns) k
    ∙ lines_told a.columns rs (drop (length (set_words rs)) words) u))

-- the words begin with those of the rows
pub text-told : (a : Answer) (rs : List Row) (rest : List ℤ) → a.rows ≡ length rs
    → All (λ r. length r ≡ a.columns) rs → text a (set_words rs ++ rest) ≡ answer_text a rs
text-told a rs rest k u = go (eqb a.number 0) refl
  where
    ws : List ℤ
    ws = set_words rs ++ rest

    shown : shown_rows a.rows a.columns (length ws) ≡ length rs
    shown = ap (λ n. shown_rows n a.columns (length ws)) k ∙ shown-all a.columns rs rest u

    go : (t : Bool) → eqb a.number 0 ≡ t → text a ws ≡ answer_text a rs
    go true e =
        let z = eqb-true a.number 0 e in
        accepted-text a ws z
        ∙ ap₂ ◌++◌ (first-told a)
        (ap (lines_text ws a.columns) shown ∙ lines_told a.columns rs rest u)
        ∙ sym (accepted-told a rs z)
    go false e = text_refused a ws rs (eqb-false a.number 0 e)

-- as the rows stand in a result that held other words
pub text_written : (a : Answer) (rs : List Row) (words : List ℤ) → a.rows ≡ length rs
    → All (λ r. length r ≡ a.columns) rs → text a (overwrite (set_words rs) words) ≡ answer_text a rs
unfolding overwrite
text_written a rs words k u = text-told a rs (drop (length (set_words rs)) words) k u
