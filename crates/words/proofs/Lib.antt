-- The laws that other crates cite: WordLaws (get and put, a row built, a set copied), Decoding (words as rows of the
-- model). ShiftLoop serves the moves.
pub mod WordLaws
pub mod ShiftLoop
pub mod Decoding
