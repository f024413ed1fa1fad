-- The cases proved.
pub mod Kept
