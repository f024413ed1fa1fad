-- Definitions that the contracts cite, and the laws.
pub mod Header
pub mod Lines
pub mod Promises
pub mod Sides
pub mod Texts
