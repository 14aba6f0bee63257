pub mod Answer
pub mod Passes
