-- What the report's calls rest on.
--   Written     a buffer that is written from its start
--   Telling     the changes below a position, as a loop finds them
pub mod Written
pub mod Telling
