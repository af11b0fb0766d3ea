pub mod BehindNodes
pub mod DigitValues
pub mod FineSupports
pub mod Numerals
pub mod Pieces
pub mod Places
pub mod Supports
pub mod Values
