-- Definitions that the contracts cite, and the laws.
pub mod Promises
pub mod Reader
