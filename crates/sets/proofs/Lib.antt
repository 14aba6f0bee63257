pub mod Steps
pub mod Ends
pub mod Formed
pub mod Fits
