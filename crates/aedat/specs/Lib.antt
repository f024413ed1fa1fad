-- Definitions that the contracts cite, and the laws.
pub mod Events
pub mod Lines
pub mod Packets
pub mod Parts
pub mod Promises
pub mod Reader
pub mod Specials
