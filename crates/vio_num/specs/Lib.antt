pub mod Counts
pub mod Entry
pub mod Hypervisor
pub mod Queue
pub mod Words
