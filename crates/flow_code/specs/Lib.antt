pub mod Readings
pub mod Lent
