mod Copied
mod Pieces
