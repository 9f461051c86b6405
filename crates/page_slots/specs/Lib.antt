pub mod Page
pub mod PageClosing
pub mod PageCuts
pub mod PageRule
pub mod PageSteps
pub mod Seats
pub mod Stroke
pub mod Turns
