mod Images
mod Writing
mod Advancing
