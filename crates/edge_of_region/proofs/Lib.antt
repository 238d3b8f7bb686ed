mod NearLine
mod SideUnits
mod Walks
mod Passing
mod Sweeping
