pub mod Result
pub mod Codes
pub mod Condition
pub mod Laws
