pub mod Routine
pub mod Passes
pub mod Laws
pub mod Lent
