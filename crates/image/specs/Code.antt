-- What the private functions of the crate promise one another. A reader of the claims does not need it.
pub mod Layout
pub mod Rows
pub mod Three
pub mod Strip
