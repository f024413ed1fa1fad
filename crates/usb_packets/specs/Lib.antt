-- What was done with USB packets before, and what holds of it.
pub mod Before
pub mod Promises
