-- Definitions that the contracts cite.
pub mod Reader
pub mod Words
