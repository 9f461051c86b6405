pub mod Copied
pub mod Holding
pub mod Laws
