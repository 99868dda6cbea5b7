mod Turns
mod Named
mod Whole
