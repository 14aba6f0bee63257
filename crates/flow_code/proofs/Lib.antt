pub mod Fetched
pub mod Filled
pub mod Examined
