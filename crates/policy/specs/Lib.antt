pub mod Element
pub mod Policy
pub mod Build
pub mod Laws
