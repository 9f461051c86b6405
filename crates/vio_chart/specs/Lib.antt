pub mod Columns
pub mod Drawing
pub mod Drawn
pub mod Partner
pub mod Picture
