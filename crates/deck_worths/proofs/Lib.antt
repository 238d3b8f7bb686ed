mod ByNames
mod OneWorth
mod HaveWorths
mod Circles
mod SoFar
mod Naming
