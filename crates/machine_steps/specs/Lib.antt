pub mod Steps
pub mod Ended
pub mod Fits
pub mod Laws
