mod Joins
mod Canonical
mod Permuted
mod Listed
mod Sweeping
