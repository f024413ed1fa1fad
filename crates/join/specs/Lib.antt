-- Definitions that the contracts cite, and the laws.
pub mod Join
pub mod Promises
pub mod Seen
