mod Sounds
mod Spots
mod Searches
mod Running
