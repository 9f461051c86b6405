pub mod Escapes
pub mod Lists
pub mod Put
pub mod Steps
