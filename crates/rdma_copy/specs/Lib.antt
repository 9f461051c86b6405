pub mod Answers
pub mod Copies
pub mod Copy
pub mod Handless
