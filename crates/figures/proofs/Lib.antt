mod Accepted
mod Holes
