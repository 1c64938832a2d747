-- What the private functions of the crate promise one another. A reader of the claims does not need it.
pub mod Loads
pub mod Passes
pub mod Parts
pub mod Channels
