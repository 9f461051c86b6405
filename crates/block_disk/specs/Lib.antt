pub mod Cdb
pub mod Sense
pub mod Disk
pub mod Steps
