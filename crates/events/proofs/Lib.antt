-- Lemmas, and the laws proved (Kept).
pub mod Floats
pub mod Kept
pub mod OneValue
