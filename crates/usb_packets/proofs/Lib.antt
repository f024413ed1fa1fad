-- Lemmas, and the laws proved (Kept).
pub mod Kept
pub mod PassedBy
