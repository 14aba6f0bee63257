pub mod Kind
pub mod Entry
pub mod Geometry
pub mod Flaw
pub mod Row
pub mod Matches
pub mod Laws
