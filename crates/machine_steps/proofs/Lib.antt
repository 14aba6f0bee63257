pub mod RunLaws
pub mod Loop
