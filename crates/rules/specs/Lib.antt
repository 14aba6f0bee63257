pub mod Result
pub mod Reach
pub mod Change
pub mod Narrow
pub mod Laws
