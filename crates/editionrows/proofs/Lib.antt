mod Form
mod Elsewhere
pub mod Rows
