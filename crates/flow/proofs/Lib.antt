pub mod Onward
pub mod Leaving
