pub mod Generator
pub mod Noise
pub mod Sequence
pub mod Cases
