-- The definitions that the contracts cite: what a text of a history comes to, and the reply in document 01's numbers; and what is said of
-- a text that is judged, of one that is refused, and of document 01's own.
pub mod Judge
pub mod Reply
pub mod Pass
pub mod Whole
pub mod Show
pub mod Refused
pub mod Example
