-- The laws that other crates cite: AskLaws (`asked_slot`, `few-asked`, `others_in`), SlotLaws (`slots_are`), FileLaws
-- (what the files tell after a block's groups were made empty, and after one was filled), MemoLaws (the group of a
-- value), MarkLaws (what the marks tell of a value that was met). Walks and Cases serve the
-- functions.
pub mod Walks
pub mod Cases
pub mod AskLaws
pub mod SlotLaws
pub mod FileLaws
pub mod MemoLaws
pub mod MarkLaws
