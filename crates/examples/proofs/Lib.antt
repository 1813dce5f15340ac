-- Why the rows of the table hold.
--   InReach     a codeword in reach that is found by computed tests is what correct leaves, and so for encode
--   OutOfReach  where no codeword is in reach
--   Leading     the least pair, from two pairs that are found by computed tests
--   Labels      the rows over the field of 929
--   Reels       the rows over the field of 256
--   Controls    the rows over the field of 16
pub mod InReach
pub mod OutOfReach
pub mod Leading
pub mod Labels
pub mod Reels
pub mod Controls
