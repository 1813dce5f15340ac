-- Maps of one bit for each position.
use Rattle.std.specs.Prelude.{◌≡◌, ℕ, zero, suc, ◌+◌, ◌-◌, ◌*◌, ◌/◌, ◌%◌, ◌^◌, ◌<◌, Bool, true, not, ◌&&◌, List, map, length, ◌==◌, slice_index, slice_index_or}
use Rattle.std.specs.List.{range_with_len}

-- the mark of position i: bit i mod 8 of byte i div 8
abbrev pub bit_at : List ℕ → ℕ → Bool
bit_at bs i = slice_index bs (i / 8) / 2 ^ (i % 8) % 2 == 1

-- the marks of the positions below n
unfoldable pub marks : ℕ → List ℕ → List Bool
marks n bs = map (bit_at bs) (range_with_len 0 n)

-- whether none of the k bits from position i on is set
abbrev pub clear_from : List ℕ → ℕ → ℕ → Bool
clear_from bs i zero = true
clear_from bs i (suc k) = not (bit_at bs i) && clear_from bs (i + 1) k

-- whether these are the bytes of n positions, which are n / 8 rounded up, with no bit at n or beyond
unfoldable pub tidy : ℕ → List ℕ → Bool
tidy n bs = length bs == (n + 7) / 8 && clear_from bs n (8 * length bs - n)

-- the same by the last byte: what a lost map keeps
pub record Clean (n : ℕ) (bs : List ℕ) : Type 0 where
  pub bytes : length bs ≡ (n + 7) / 8
  pub rest : slice_index_or bs (n / 8) 0 < 2 ^ (n % 8)
