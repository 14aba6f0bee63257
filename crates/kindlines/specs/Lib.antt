pub mod Bundled
pub mod Text
