-- The laws of EVT2.
pub mod Promises
