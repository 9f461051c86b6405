pub mod Entries
pub mod EntryCuts
pub mod EntryRule
pub mod EntrySteps
pub mod Outcomes
pub mod Words
