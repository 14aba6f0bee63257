pub mod Memory
pub mod Frame
pub mod Place
pub mod Laws
