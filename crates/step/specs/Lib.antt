pub mod Registers
pub mod Setting
pub mod Control
pub mod Effect
pub mod Step
pub mod Lent
pub mod Laws
