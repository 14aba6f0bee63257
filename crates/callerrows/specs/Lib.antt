pub mod Case
pub mod FlowRows
pub mod CheckRows
pub mod RunRows
pub mod ListRows
pub mod Table
