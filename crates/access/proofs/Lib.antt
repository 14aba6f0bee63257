pub mod Places
pub mod Locating
pub mod Framed
