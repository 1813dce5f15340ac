-- What the bay's calls rest on.
--   Holding     what a plain bay holds, part by part
--   Fitting     the word of a bay fits its code, and the code the field
--   Encoding    what the plain bay's encoding means
--   Correcting  what the plain bay's correction means
--   RoundTrip   a codeword that is damaged within reach comes back
--   Changing    a codeword in reach differs in no more positions than there are checks
pub mod Holding
pub mod Fitting
pub mod Encoding
pub mod Correcting
pub mod RoundTrip
pub mod Changing
