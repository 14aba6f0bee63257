pub mod CommonSteps
pub mod SetJoins
pub mod Joining
pub mod JoinForms
pub mod EntryJoins
pub mod NoteJoins
