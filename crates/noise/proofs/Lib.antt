pub mod Lagged
pub mod Ring
pub mod Sequence
pub mod Filling
pub mod Cases
