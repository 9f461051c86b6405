pub mod Kept
pub mod Laws
pub mod Lists
pub mod Lives
