-- Lemmas.
pub mod Chosen
pub mod ColumnWalk
pub mod Columns
pub mod Counting
pub mod Groups
pub mod Marks
pub mod OtherRows
pub mod PutSteps
pub mod RowRuns
pub mod RowSteps
pub mod SpanWords
pub mod Steps
pub mod Storing
pub mod TimeWords
pub mod Walked
pub mod WritableRows
