-- What the code's theory needs of a field, over any carrier; polynomials are functions from exponents to coefficients.
--   Convolution   ring identities by rewriting, products of polynomials
--   RingSolver    a decision procedure for identities of commutative rings
--   Sums          finite sums
--   Roots         values, a polynomial with more roots than its degree, the Vandermonde kernel
--   Division      values of shifted and scaled polynomials: the generator and the register
--   Distance      words with few symbols other than 0 and vanishing power sums
--   Minimality    why a pair of two leading terms that add up to k is the least
--   LeastPair     the solver's turns, and that the least pair is the only one
--   KeyEquation   locator, evaluator, and the congruence that ties them to the power sums
--   Values        values of products, of the locator and of the evaluator
--   Errata        errors and erasures over all positions: a node that is 0 stands for nothing wrong
--   Recovery      the least pair is the locator and the evaluator, up to a factor
--   LastIndex     the same by the last index, as loops meet it
pub mod Convolution
pub mod RingSolver
pub mod Sums
pub mod Roots
pub mod Division
pub mod Distance
pub mod Minimality
pub mod LeastPair
pub mod KeyEquation
pub mod Values
pub mod Errata
pub mod Recovery
pub mod LastIndex
