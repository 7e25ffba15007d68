pub mod Places
pub mod CoreOf
pub mod WordsOf
pub mod Fits
pub mod NamedPlaces
pub mod PartWords
