-- Lemmas, and the laws proved (Kept).
pub mod AllSeen
pub mod Answers
pub mod Behind
pub mod Followed
pub mod HighParts
pub mod Kept
pub mod Later
pub mod Looking
pub mod PartWay
pub mod Places
pub mod Sample
pub mod Stepped
pub mod Told
pub mod Types
