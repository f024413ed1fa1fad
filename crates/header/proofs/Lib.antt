-- Lemmas, and the laws proved (Kept).
pub mod Digits
pub mod Files
pub mod Keywords
pub mod Kept
pub mod LineEnds
pub mod LineRules
pub mod Lines
pub mod Sides
pub mod Within
