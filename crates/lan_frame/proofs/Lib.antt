pub mod Laws
mod Placing
