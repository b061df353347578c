mod Standing
mod Moves
mod Paths
mod Steps
mod Root
mod Entering
mod Leaving
