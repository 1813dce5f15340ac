pub mod Sixteen
pub mod SixteenLemmas
