pub mod Listing
pub mod Laws
