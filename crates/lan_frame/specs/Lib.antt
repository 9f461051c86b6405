pub mod Control
pub mod Filter
pub mod Filters
pub mod Station
