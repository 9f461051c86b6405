pub mod EntryAllows
pub mod EntryKeeps
pub mod EntryPages
pub mod EntryPins
pub mod EntrySeats
pub mod EntryWords
