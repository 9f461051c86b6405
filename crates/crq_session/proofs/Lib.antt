pub mod Events
pub mod Hearing
pub mod Registration
pub mod Spare
pub mod LinkLaws
pub mod Seats
