-- The walk through the reads, the distance without signed numbers, and the first rule that any read breaks.
pub mod Chain
pub mod Distance
pub mod Ranks
