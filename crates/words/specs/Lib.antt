-- Definitions that the contracts cite, and the laws.
pub mod Fields
pub mod Machine
pub mod Picture
pub mod Promises
pub mod RoundTrip
pub mod Sinks
pub mod Walked
pub mod Words
pub mod Writer
pub mod Written
