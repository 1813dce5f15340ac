-- The turns of the loops, and the decision.
--   Valued      the value of a row of symbols
--   RowTurns    syndromes and modified syndromes
--   Placing     the located positions
--   Mending     the amounts, and the word that they mend
--   Deciding    from what the parts promise to the codeword in reach
pub mod Valued
pub mod RowTurns
pub mod Placing
pub mod Mending
pub mod Deciding
