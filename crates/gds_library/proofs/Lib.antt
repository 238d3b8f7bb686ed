mod Spelled
mod Readings
mod Drafting
mod NameSets
mod Spans
mod Facts
mod OneRefusal
mod Endings
