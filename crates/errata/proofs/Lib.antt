-- From the least pair of the modified syndromes to the codeword in reach.
--   Reading     rows of numbers as polynomials of the algebra, and back
--   Lifting     nodes, products and modified syndromes as polynomials of the algebra
--   Pinning     the roots of the least pair are the wrong positions, and its amounts the differences
--   Joining     the tests that a corrector makes pass where a codeword is in reach, and what it tries is that codeword
pub mod Reading
pub mod Lifting
pub mod Pinning
pub mod Joining
