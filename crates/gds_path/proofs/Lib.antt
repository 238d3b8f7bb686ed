mod Kept
mod Headings
mod Paths
mod Areas
