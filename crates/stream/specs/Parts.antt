-- The parts of a stream, by the bytes that remain of it. A read that fails tells nothing of them.
--   head_of bs                the head in the first six bytes: two of mark, then four of length, the lowest first
--   next_head_of bs           none where no byte is left, malformed where fewer than six are, and else the head
--   contents_of n most bs     the next n bytes; malformed where n is past the most, or fewer are left
--   contents_rest n most bs   what remains behind them; all where n is past the most
--   part_of mark most bs r    none, or the contents of the head in r, which lie in bs; malformed at another mark
--   next_part_of mark most bs the contents of the part that begins with the first byte
--   part_rest mark most bs    what remains behind it; all but the head, where the mark is another or the length past the most
--   result_map f r            r, with f of its value
--   UnlessReading r P         P, unless r is an error of reading
--   IsReading e P             e is an error of reading, by a cause of which P holds
use Rattle.std.specs.Prelude.{ℕ, List, length, take, drop, nat_lt, ◌==◌, bytes_eq, if◌then◌else◌, Option, None, Some, Result, Ok, Err, ⊤}
use Rattle.std.specs.Int.{w32, from_le_bytes}
use Rattle.std.specs.declared.io.Error.{Error}
use Rattle.stream.specs.declared.Head.{Head}
use Rattle.stream.specs.declared.StreamError.{StreamError}
use Rattle.stream.specs.declared.StreamError.TheVariants.{Malformed, Reading}

abbrev pub result_map : {X Y : Type 0} → (X → Y) → Result X StreamError → Result Y StreamError
result_map f (Ok x) = Ok (f x)
result_map f (Err e) = Err e

abbrev pub UnlessReading : {X : Type 0} → Result X StreamError → Type 0 → Type 0
UnlessReading (Ok x) P = P
UnlessReading (Err Malformed) P = P
UnlessReading (Err (Reading e)) P = ⊤

abbrev pub IsReading : StreamError → (Error → Type 0) → Type 0
IsReading Malformed P = ⊥
IsReading (Reading e) P = P e

abbrev pub head_of : List ℕ → Head
head_of bs = record { mark = take 2 bs; length = from_le_bytes w32 (drop 2 bs) }

abbrev pub next_head_of : List ℕ → Result (Option Head) StreamError
next_head_of bs =
    if length bs == 0 then Ok None else if nat_lt (length bs) 6 then Err Malformed else Ok (Some (head_of bs))

abbrev pub contents_of : ℕ → ℕ → List ℕ → Result (List ℕ) StreamError
contents_of n most bs =
    if nat_lt most n then Err Malformed else if nat_lt (length bs) n then Err Malformed else Ok (take n bs)

abbrev pub contents_rest : ℕ → ℕ → List ℕ → List ℕ
contents_rest n most bs = if nat_lt most n then bs else drop n bs

abbrev pub part_of : List ℕ → ℕ → List ℕ → Result (Option Head) StreamError → Result (Option (List ℕ)) StreamError
part_of mark most bs (Ok None) = Ok None
part_of mark most bs (Ok (Some h)) =
    if bytes_eq h.mark mark then result_map Some (contents_of h.length most bs) else Err Malformed
part_of mark most bs (Err e) = Err e

abbrev pub next_part_of : List ℕ → ℕ → List ℕ → Result (Option (List ℕ)) StreamError
next_part_of mark most bs = part_of mark most (drop 6 bs) (next_head_of bs)

abbrev pub part_rest : List ℕ → ℕ → List ℕ → List ℕ
part_rest mark most bs =
    if bytes_eq (head_of bs).mark mark then contents_rest (head_of bs).length most (drop 6 bs) else drop 6 bs
