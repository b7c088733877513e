mod Lengths
mod Turns
