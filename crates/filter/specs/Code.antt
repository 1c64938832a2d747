-- What the private functions of the crate promise one another. A reader of the claims does not need it.
pub mod Plane
pub mod Opening
pub mod Sweep
pub mod Candidate
pub mod Elements
pub mod Judge
pub mod Turn
pub mod Blocks
pub mod Show
pub mod Rows
pub mod Extend
pub mod Run
pub mod Strip
