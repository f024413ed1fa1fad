-- The laws of EVT3.
pub mod Promises
