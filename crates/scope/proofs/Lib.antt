-- Laws that callers cite (MaskLaws), and those of this crate's loops, blocks and columns.
pub mod MaskLaws
pub mod GatheringLaws
pub mod HeldLaws
pub mod BlockLaws
pub mod RatioLaws
