pub mod Rules
pub mod Integers
pub mod Laws
