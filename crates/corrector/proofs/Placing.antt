-- The turns of the loop that locates.
use Rattle.std.proofs.Common.{◌≡◌, ℕ, zero, suc, ◌+◌, ◌<◌, ◌≤◌, Bool, true, false, cond, not, ◌&&◌, ◌||◌, List, [], ◌∷◌, ◌++◌, length, get_or, sym, refl, ap, ◌∙◌, subst, ap₂, add-zero, length-append, arith}
use Rattle.field.specs.Meaning.{Meaning}
use Rattle.field.specs.Symbols.{Within}
use Rattle.code.specs.Words.{count}
use Rattle.errata.specs.Pieces.{root, located, passing}
use Rattle.corrector.specs.MendSteps.{Placed}

-- no more numbers below n pass than there are
passing_most : (n : ℕ) (p : ℕ → Bool) → length (passing n p) ≤ n
passing_most zero p = omega arith
passing_most (suc n) p = go (p n) (passing_most n p)
  where
    go : (b : Bool) → length (passing n p) ≤ n → length (cond b (passing n p ++ (n ∷ [])) (passing n p)) ≤ suc n
    go true h = let e = length-append (passing n p) (n ∷ []) in omega arith
    go false h = omega arith

module _ (f : Meaning) (erased : List Bool) (B : List ℕ) (n : ℕ) (places : List ℕ) (errors : ℕ) (p : Placed f erased B n places errors) where
  abbrev more : Bool → List ℕ
  more b = cond b (passing n (located f erased B) ++ (n ∷ [])) (passing n (located f erased B))

  abbrev tally : Bool → ℕ
  tally b = count n (λ i. not (get_or erased i false) && root f B i) + cond b 1 0

  one : (b : Bool) → cond b 1 0 ≤ 1
  one true = omega arith
  one false = omega arith

  on : (new : ℕ) (e r : Bool) → get_or erased n false ≡ e → root f B n ≡ r → (e || r) ≡ true → new ≡ errors + cond (not e && r) 1 0
      → Placed f erased B (suc n) (places ++ (n ∷ [])) new
  on new e r ee re both k = record {
    is = ap (λ xs. xs ++ (n ∷ [])) p.is ∙ sym (ap more (ap₂ ◌||◌ ee re ∙ both));
    rare = let m = p.rare in let o = one (not e && r) in omega arith;
    number = k ∙ ap₂ (λ (a : ℕ) (b : Bool). a + cond b 1 0) p.number (sym (ap₂ (λ a b. not a && b) ee re));
  }

  pub placed_erased : get_or erased n false ≡ true → Placed f erased B (suc n) (places ++ (n ∷ [])) errors
  placed_erased e = on errors true (root f B n) e refl refl (sym (add-zero errors))

  pub placed_wrong : get_or erased n false ≡ false → root f B n ≡ true → Placed f erased B (suc n) (places ++ (n ∷ [])) (errors + 1)
  placed_wrong e r = on (errors + 1) false true e r refl refl

  pub placed_none : get_or erased n false ≡ false → root f B n ≡ false → Placed f erased B (suc n) places errors
  placed_none e r = record {
    is = p.is ∙ sym (ap more (ap₂ ◌||◌ e r));
    rare = let m = p.rare in omega arith;
    number = p.number ∙ sym (add-zero _) ∙ sym (ap tally (ap₂ (λ a b. not a && b) e r));
  }

  -- there are no more of them than positions
  pub placed_most : length places ≤ n
  placed_most = subst (λ (xs : List ℕ). length xs ≤ n) (sym p.is) (passing_most n (located f erased B))

within_push : (N : ℕ) (xs : List ℕ) (y : ℕ) → 0 < N → Within N xs → y < N → Within N (xs ++ (y ∷ []))
within_push N [] y pos h k zero = k
within_push N [] y pos h k (suc i) = pos
within_push N (x ∷ xs) y pos h k zero = h 0
within_push N (x ∷ xs) y pos h k (suc i) = within_push N xs y pos (λ j. h (suc j)) k i

-- every number that passes is below n
pub passing_in : (n : ℕ) (p : ℕ → Bool) (N : ℕ) → n ≤ N → 0 < N → Within N (passing n p)
passing_in zero p N h pos = λ i. pos
passing_in (suc n) p N h pos = go (p n) (passing_in n p N (omega arith) pos)
  where
    go : (b : Bool) → Within N (passing n p) → Within N (cond b (passing n p ++ (n ∷ [])) (passing n p))
    go true below = within_push N (passing n p) n pos below (omega arith)
    go false below = below
