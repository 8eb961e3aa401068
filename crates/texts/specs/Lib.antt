-- The definitions that the contracts cite: a text that grows where there is room.
pub mod Text
