-- The text of an answer over the result's words, as the code prints it, and what printing at a place leaves. That it is
-- the model's text is proved (proofs/TextLaws: `text-told`).
--   Wrote at t l m r    t put at place `at` of l, as far as there is room, leaves m; r is the place after it, no
--                       further than the end
--   is_zero x            x is 0; is_one x: x is 1
--   ratio_text n d       a minus sign where d is 0, n alone where d is 1, else n/d
--   field_text ws p      the value at place p: its two words
--   gap_text j           the space before field j, none before the first
--   fields_text ws p n   the first n fields of the row that begins at place p; line_text ws p n: with its newline
--   lines_text ws c n    the first n rows, of c columns
--   ok_text r c t        the first line of an accepted answer of r rows, c columns and t trials
--   shown_rows k c w     as many of k rows of c columns as w words hold whole
--   text a ws           the text of answer a with the words ws
use Rattle.std.specs.Prelude.{ℕ, zero, suc, ◌+◌, ◌*◌, ◌/◌, min, Bool, false, cond, List, [], ◌∷◌, ◌++◌, ◌≡◌, eqb, ℤ, pos, negsuc, length, get_or}
use Rattle.std.proofs.lemmas.List.Edits.{sets}
use Rattle.model.specs.Listing.{digits, integer_text, no_line}
use Rattle.model.specs.declared.Answer.{Answer}

pub record Wrote (at : ℕ) (t l m : List ℕ) (r : ℕ) : Type 0 where
  pub bytes : m ≡ sets l at t
  pub place : r ≡ min (at + length t) (length l)

abbrev pub is_zero : ℤ → Bool
is_zero (pos n) = eqb n 0
is_zero (negsuc n) = false

abbrev pub is_one : ℤ → Bool
is_one (pos n) = eqb n 1
is_one (negsuc n) = false

unfoldable pub ratio_text : ℤ → ℤ → List ℕ
ratio_text n d = cond (is_zero d) (45 ∷ []) (cond (is_one d) (integer_text n) (integer_text n ++ (47 ∷ integer_text d)))

unfoldable pub field_text : List ℤ → ℕ → List ℕ
field_text ws p = ratio_text (get_or ws (2 * p) (pos 0)) (get_or ws (2 * p + 1) (pos 0))

abbrev pub gap_text : ℕ → List ℕ
gap_text zero = []
gap_text (suc j) = 32 ∷ []

unfoldable pub fields_text : List ℤ → ℕ → ℕ → List ℕ
fields_text ws p zero = []
fields_text ws p (suc n) = fields_text ws p n ++ (gap_text n ++ field_text ws (p + n))

unfoldable pub line_text : List ℤ → ℕ → ℕ → List ℕ
line_text ws p n = fields_text ws p n ++ (10 ∷ [])

unfoldable pub lines_text : List ℤ → ℕ → ℕ → List ℕ
lines_text ws c zero = []
lines_text ws c (suc n) = lines_text ws c n ++ line_text ws (n * c) c

-- the figures in the order of printing: each with the byte after it
unfoldable pub ok_text : ℕ → ℕ → ℕ → List ℕ
ok_text r c t =
    (111 ∷ 107 ∷ 32 ∷ []) ++ (digits r ++ (32 ∷ [])) ++ (digits c ++ (32 ∷ [])) ++ (digits t ++ (10 ∷ []))

unfoldable pub shown_rows : ℕ → ℕ → ℕ → ℕ
shown_rows k c w = cond (eqb c 0) k (min k (w / 2 / c))

unfoldable pub text : Answer → List ℤ → List ℕ
text a ws =
    cond (eqb a.number 0)
    (ok_text a.rows a.columns a.trials ++ lines_text ws a.columns
    (shown_rows a.rows a.columns (length ws)))
    (no_line a.number)
