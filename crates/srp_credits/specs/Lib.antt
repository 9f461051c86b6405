pub mod History
pub mod Initiator
pub mod Target
