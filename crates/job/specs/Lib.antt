pub mod Core
pub mod Channels
pub mod Code
