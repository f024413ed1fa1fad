-- Definitions that the contracts cite.
pub mod Reader
pub mod Spelling
pub mod State
pub mod Words
