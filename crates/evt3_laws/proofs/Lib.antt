-- Lemmas, and the laws proved (Kept).
pub mod ColumnCounts
pub mod ColumnsBack
pub mod GoodGroups
pub mod GoodRead
pub mod GroupsCut
pub mod Kept
pub mod ReadBack
pub mod SpelledLength
pub mod SpelledSteps
pub mod TimeBack
