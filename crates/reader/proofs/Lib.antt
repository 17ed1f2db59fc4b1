pub mod CauseLaws
pub mod NumberLaws
pub mod ScopeLaws
pub mod LeafLaws
pub mod WalkLaws
pub mod MaskLoops
pub mod BlockLoops
pub mod ReadLaws
