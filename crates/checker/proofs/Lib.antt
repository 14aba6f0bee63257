pub mod Accepted
pub mod Looked
pub mod Inside
pub mod Parts
pub mod Passing
pub mod Stages
