pub mod Calls
pub mod Map
pub mod Sending
pub mod Source
pub mod Switch
pub mod Windows
