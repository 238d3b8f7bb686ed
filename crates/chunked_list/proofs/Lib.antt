pub mod Stretches
mod Places
mod Orders
