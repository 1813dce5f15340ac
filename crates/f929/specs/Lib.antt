pub mod Coprime
pub mod Residues
pub mod ResiduesLemmas
