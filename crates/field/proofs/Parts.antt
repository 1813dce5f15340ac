-- Parts of rows, place by place.
use Rattle.std.proofs.Common.{◌≡◌, ℕ, ◌+◌, ◌-◌, ◌<◌, ◌≤◌, min, List, ◌++◌, length, get_or, take, drop, ap, ◌∙◌, le_refl, arith, length-take, get_or-drop, get_or-take}
use native.Mathlib.Nat.{min-le_left, le-min}
use borrow.Rule.Slice.PartMut.{put_mid, post_of}
use Rattle.std.proofs.lemmas.List.{get_or_append_left, get_or-append_right}

-- the first k places of a row that has as many
pub cut : (k : ℕ) (xs : List ℕ) → k ≤ length xs → length (take k xs) ≡ k
cut k xs h = let m = length-take k xs in let e : k ≤ min k (length xs) = le-min (le_refl k) h in omega (arith, m, e, min-le_left k (length xs))

-- a row xs with ys in the place of the k from a on, place by place
module _ (a k : ℕ) (xs ys : List ℕ) (here : a ≤ length xs) where
  front : length (take a xs) ≡ a
  front = cut a xs here

  pub put_low : (i : ℕ) → i < a → get_or (put_mid a k xs ys) i 0 ≡ get_or xs i 0
  put_low i h = get_or_append_left (take a xs) _ 0 i (let e = front in omega arith) ∙ get_or-take a xs i 0 h

  pub put_middle : (i : ℕ) → i < length ys → get_or (put_mid a k xs ys) (a + i) 0 ≡ get_or ys i 0
  put_middle i h =
      let e : a + i - a ≡ i = omega arith in
      get_or-append_right (take a xs) _ a (a + i) 0 front (omega arith) ∙ ap (λ (j : ℕ). get_or (ys ++ post_of a k xs) j 0) e ∙ get_or_append_left ys _ 0 i h

  pub put_high : length ys ≡ k → (i : ℕ) → a + k ≤ i → get_or (put_mid a k xs ys) i 0 ≡ get_or xs i 0
  put_high long i h =
      let e : a + (k + (i - a - k)) ≡ i = omega arith in
      get_or-append_right (take a xs) _ a i 0 front (omega arith) ∙ get_or-append_right ys _ k (i - a) 0 long (omega arith)
      ∙ get_or-drop k (drop a xs) (i - a - k) 0 ∙ get_or-drop a xs (k + (i - a - k)) 0 ∙ ap (λ (j : ℕ). get_or xs j 0) e
