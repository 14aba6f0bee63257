pub mod Case
pub mod PassRows
pub mod CheckRows
pub mod RunRows
pub mod ListRows
pub mod Table
