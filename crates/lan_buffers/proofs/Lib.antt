mod Keeping
mod Lawful
pub mod Laws
mod Leaving
mod Pooling
mod Pushing
