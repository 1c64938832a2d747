pub mod Bits
pub mod Lists
pub mod Tab
pub mod Loops
pub mod Grid
