pub mod Order
pub mod Values
pub mod Rising
