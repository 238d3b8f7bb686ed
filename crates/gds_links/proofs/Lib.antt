mod Finding
mod Numbering
