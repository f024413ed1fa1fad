-- Lemmas, and the laws proved (Kept).
pub mod ByKind
pub mod GoodRead
pub mod Kept
pub mod Places
pub mod ReadBack
pub mod SpelledSteps
pub mod WritableRows
