-- What maps of bits keep.
--   Reading     the marks of a map, one by one
--   Tidying     no bit past n, by the last byte
--   Turning     one bit turned on or off
--   Counting    the ones in the bytes are the marked positions
pub mod Reading
pub mod Tidying
pub mod Turning
pub mod Counting
