pub mod Alone
pub mod CountedWords
