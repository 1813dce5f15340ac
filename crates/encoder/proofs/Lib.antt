-- How the encoder is proved.
--   Turns       the loops over rows of symbols
--   Generating  the generator, factor by factor
--   Holding     what the register holds
--   Dividing    what a division by the generator keeps
--   Encoding    what encoding gives: for other crates, `clean`, `from_remainder` and `from_differences`
--   Summing     what the values of a remainder at the roots say of a word
pub mod Writing
pub mod Turns
pub mod Generating
pub mod Holding
pub mod Dividing
pub mod Encoding
pub mod Summing
