-- What a get may still take, what the sets may still spend, and what the blocks have saved for them.
-- Rests on Invariant.
pub mod Digits
pub mod Budget
pub mod Spend
