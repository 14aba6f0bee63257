pub mod Words
pub mod Signs
pub mod Conditions
