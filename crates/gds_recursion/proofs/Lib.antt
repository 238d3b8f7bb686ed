mod Using
mod Circles
mod Backward
