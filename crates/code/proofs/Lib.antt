-- What the words of specs/ give.
--   Decided     the tests say what the statements say
--   Counts      counts by position are counts of the list
--   Lowest      the lowest number that passes, as a loop finds it; no root fails exactly for a codeword
--   Finding     what seeking among all words finds
--   Distance    codewords are far apart
pub mod Decided
pub mod Counts
pub mod Lowest
pub mod Finding
pub mod Distance
