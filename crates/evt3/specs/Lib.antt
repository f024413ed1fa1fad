-- Definitions that the contracts cite.
pub mod Reader
pub mod Spelling
pub mod State
pub mod Vectors
pub mod Walk
pub mod Words
