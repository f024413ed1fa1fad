-- Lemmas, and the laws proved (Kept).
pub mod GoodRead
pub mod Kept
pub mod Places
