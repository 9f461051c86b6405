pub mod Edge
pub mod Image
pub mod Memory
pub mod Script
