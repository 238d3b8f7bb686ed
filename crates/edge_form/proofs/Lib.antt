pub mod Listed
mod Pushing
mod PieceOrder
mod Joining
mod Spaced
mod Deduped
