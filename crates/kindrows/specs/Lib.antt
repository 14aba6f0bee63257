pub mod Case
pub mod MarkRows
pub mod ListRows
pub mod Table
