mod Classes
mod Encodings
mod Reports
