-- Definitions that the contracts cite, and the laws.
pub mod Event
pub mod Promises
pub mod Readings
