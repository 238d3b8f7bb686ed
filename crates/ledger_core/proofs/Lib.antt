mod Stocks
mod Crews
mod Turns
mod States
mod Endings
mod Alone
