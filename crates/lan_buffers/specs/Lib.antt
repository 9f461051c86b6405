pub mod Answers
pub mod Buffer
pub mod Calls
pub mod Kept
pub mod Filling
pub mod Pools
pub mod Port
pub mod Present
