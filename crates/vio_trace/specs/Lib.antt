pub mod Begun
pub mod Form
pub mod Heads
pub mod Passing
pub mod Reading
pub mod Sections
pub mod Shared
pub mod Text
