mod Divisors
mod Numbers
mod TheFraction
