pub mod Numbered
pub mod Covered
pub mod Begun
