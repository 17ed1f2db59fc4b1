-- What a run promises.
pub mod Settling
pub mod Runs
pub mod RunAgreement
pub mod RunOrder
