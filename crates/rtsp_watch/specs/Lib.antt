pub mod Watching
pub mod Understanding
pub mod Ending
pub mod Growth
