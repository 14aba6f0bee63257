pub mod Places
pub mod Tables
pub mod Sent
pub mod Raised
pub mod Stored
pub mod Working
