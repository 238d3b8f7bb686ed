mod NameSets
mod Noting
mod Repeating
