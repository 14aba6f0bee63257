pub mod Fields
pub mod Safe
pub mod Guarantee
pub mod Laws
pub mod Invariant
