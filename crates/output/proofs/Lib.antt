pub mod Pushed
pub mod Places
pub mod Lined
