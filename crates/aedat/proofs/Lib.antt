-- Lemmas, and the laws proved (Kept).
pub mod Edges
pub mod EventRuns
pub mod Fields
pub mod FileRuns
pub mod GoodRead
pub mod HeaderLines
pub mod Headers
pub mod Kept
pub mod PacketRuns
pub mod Places
pub mod WholeEvents
