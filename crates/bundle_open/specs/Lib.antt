pub mod Build
pub mod Open
