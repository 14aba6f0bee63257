pub mod Serve
pub mod Layout
pub mod Locate
pub mod Laws
