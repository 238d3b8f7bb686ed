mod Among
mod Formed
