pub mod Covered
pub mod Moved
