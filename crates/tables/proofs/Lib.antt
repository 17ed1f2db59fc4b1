pub mod PlaceLaws
pub mod DataLaws
pub mod LaidLaws
