pub mod JournalText
pub mod JournalFields
pub mod JournalAnswers
pub mod JournalReading
pub mod BookText
