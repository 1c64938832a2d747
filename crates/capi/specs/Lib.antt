pub mod Answers
pub mod Part
