mod Turns
mod Nodes
mod Bytes
