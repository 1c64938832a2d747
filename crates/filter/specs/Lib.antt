pub mod Answers
pub mod Applied
pub mod Previewed
pub mod Code
pub mod Repeated
pub mod Crossed
