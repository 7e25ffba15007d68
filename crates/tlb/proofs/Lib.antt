-- The cache beside the plain model: each operation, the counters, translations, runs; and worked runs, computed.
pub mod Cells
pub mod Asks
pub mod Refines
pub mod Translations
pub mod Works
