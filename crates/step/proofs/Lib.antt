pub mod Writing
pub mod ScratchMarks
pub mod NoOther
