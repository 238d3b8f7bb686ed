mod Entries
mod Walks
mod Changed
