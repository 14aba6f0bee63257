pub mod FoundField
