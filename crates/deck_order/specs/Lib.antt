pub mod Uses
pub mod Orders
pub mod Working
