pub mod Leading
mod Entering
mod Looking
mod Counting
mod Leaving
mod ClosingSteps
mod Closing
mod Lasts
mod Ends
