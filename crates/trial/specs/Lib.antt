-- The definitions that the contracts cite: the first rule that a read breaks, and the reads still to come of a walk.
pub mod Trial
pub mod Walk
