mod Counting
mod Folding
mod Parting
mod Wording
