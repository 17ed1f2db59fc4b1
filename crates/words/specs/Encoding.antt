-- The one relation between words and the model's rows, for a candidate row and for a set.
--   Carries n x c       the first words of x are those of the row c of n columns
--   Encodes n l rows    the first words of l are those of the rows, each of n columns
use Rattle.std.specs.Prelude.{ℕ, ◌*◌, ◌≡◌, List, length, take, ℤ}
use Rattle.model.specs.Lists.{All}
use Rattle.model.specs.RowSet.{Row, row_words, set_words}
use Rattle.words.specs.Words.{words_of}

pub record Carries (n : ℕ) (x : List ℤ) (c : Row) : Type 0 where
  pub columns : length c ≡ n
  pub words : take (words_of n) x ≡ row_words c

pub record Encodes (n : ℕ) (l : List ℤ) (rows : List Row) : Type 0 where
  pub columns : All (λ r. length r ≡ n) rows
  pub words : take (words_of (length rows * n)) l ≡ set_words rows
