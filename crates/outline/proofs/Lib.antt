-- Laws of an array of descriptions that is being filled, of parts of sixteen words, and of descriptions in words.
pub mod FillLaws
pub mod PartLaws
pub mod StoredLaws
