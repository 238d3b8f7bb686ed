mod Held
mod Pieces
