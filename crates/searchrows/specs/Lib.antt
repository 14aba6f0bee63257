pub mod Case
pub mod Rows
pub mod Table
