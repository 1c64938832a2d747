pub mod Rules
pub mod Writer
pub mod Answers
pub mod Numbers
