pub mod Claims
pub mod Unlink
