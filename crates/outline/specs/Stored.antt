-- Descriptions of blocks that lie in words, sixteen a block, so that an evaluation reads them where they are.
--   no_outline            the description of a block that stands nowhere
--   outline_from code i   the words from place i on as a description; a word past the end reads 0
--   outline_in code k     the description of block k, of none where the words end before its sixteen do
--   blocks_in code        the descriptions of the five blocks
--   words_of o            the sixteen words of a description: the parent, the places of the records, the level, the blocks
--                        named, 0, how many relation rows are not dropped and their places, 0
--   with_part a k ws      the words a with ws in place of the sixteen of part k; a where they end before these do
--   stored os a          what the words a are after the five descriptions are stored: the words of each, then those
--                        behind the first eighty; a where there are fewer than eighty
--   Narrow o             the numbers of eight and of sixteen bits are so small
--   AllNarrow os         those of the five descriptions
use Rattle.std.specs.Prelude.{ℕ, ◌+◌, ◌*◌, ◌%◌, ◌<◌, cond, List, [], ◌∷◌, ◌++◌, leb, length, get_or, take, drop}
use Rattle.model.specs.Lists.{concat_map, range}
use Rattle.syntax.specs.Places.{no_block}
use Rattle.outline.specs.declared.Outline.{Outline}

abbrev pub no_outline : Outline
no_outline =
    record {
      places = no_block;
      level = 0;
      named = 0;
      live = record { count = 0; places = 0 ∷ 0 ∷ 0 ∷ [] };
    }

unfoldable pub outline_from : List ℕ → ℕ → Outline
outline_from code i =
    record {
      places =
          record {
            parent = get_or code i 0 % 256;
            rows_at = get_or code (i + 1) 0;
            rows = get_or code (i + 2) 0;
            conditions_at = get_or code (i + 3) 0;
            conditions = get_or code (i + 4) 0;
            outputs_at = get_or code (i + 5) 0;
            outputs = get_or code (i + 6) 0;
            end = get_or code (i + 7) 0;
          };
      level = get_or code (i + 8) 0 % 256;
      named = get_or code (i + 9) 0 % 65536;
      live =
          record {
            count = get_or code (i + 11) 0;
            places = get_or code (i + 12) 0 ∷ get_or code (i + 13) 0 ∷ get_or code (i + 14) 0 ∷ [];
          };
    }

unfoldable pub outline_in : List ℕ → ℕ → Outline
outline_in code k = cond (leb (16 * k + 16) (length code)) (outline_from code (16 * k)) no_outline

unfoldable pub blocks_in : List ℕ → List Outline
blocks_in code =
    outline_in code 0 ∷ outline_in code 1 ∷ outline_in code 2 ∷ outline_in code 3 ∷ outline_in code 4 ∷ []

abbrev pub words_of : Outline → List ℕ
words_of o =
    let b = o.places in
    let l = o.live in
    b.parent
    ∷ b.rows_at
    ∷ b.rows
    ∷ b.conditions_at
    ∷ b.conditions
    ∷ b.outputs_at
    ∷ b.outputs
    ∷ b.end
    ∷ o.level
    ∷ o.named
    ∷ 0
    ∷ l.count
    ∷ get_or l.places 0 0
    ∷ get_or l.places 1 0
    ∷ get_or l.places 2 0
    ∷ 0
    ∷ []

unfoldable pub with_part : List ℕ → ℕ → List ℕ → List ℕ
with_part a k ws = cond (leb (16 * k + 16) (length a)) (take (16 * k) a ++ ws ++ drop (16 * k + 16) a) a

unfoldable pub stored : List Outline → List ℕ → List ℕ
stored os a =
    cond (leb 80 (length a)) (concat_map (λ k. words_of (get_or os k no_outline)) (range 0 5) ++ drop 80 a) a

pub record Narrow (o : Outline) : Type 0 where
  pub parent-small : o.places.parent < 256
  pub level-small : o.level < 256
  pub named_small : o.named < 65536

abbrev pub AllNarrow : List Outline → Type 0
AllNarrow os = (k : ℕ) → k < 5 → Narrow (get_or os k no_outline)
