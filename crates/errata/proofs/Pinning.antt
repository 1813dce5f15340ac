-- What the least pair says of the codeword in reach.
use Rattle.std.proofs.Common.{◌≡◌, ℕ, zero, suc, ◌+◌, ◌-◌, ◌*◌, ◌<◌, ◌≤◌, Bool, true, false, cond, not, ◌&&◌, ◌||◌, eqb, ◌≢◌, ◌⊎◌, List, length, get_or, ℤ, pos, ◌+ℤ◌, sym, refl, ap, ◌∙◌, subst, ap₂, inl, inr, ⊎_elim, arith}
use Prim.Native.Nat.{Fin}
use native.Mathlib.Decide.{dec_lt, dec_le, ℕ_discrete}
use Rattle.std.proofs.lemmas.Bool.{eqb-true, eq-eqb, eqb-false, ne_eqb, cases_Bool}
use Rattle.std.proofs.lemmas.List.{get_or_past}
use Rattle.field.specs.Meaning.{Meaning, Laws, pow}
use Rattle.field.specs.Sums.{weighed}
use Rattle.field.specs.Lifted.{lift, poly, sym_of}
use Rattle.algebra.specs.Field.{Field}
use Rattle.algebra.specs.Poly.{In}
use Rattle.algebra.specs.Lead.{Right}
use Rattle.algebra.proofs.Convolution as C
use Rattle.algebra.proofs.Sums as S
use Rattle.algebra.proofs.Roots as R
use Rattle.algebra.proofs.KeyEquation as Q
use Rattle.algebra.proofs.Values as W
use Rattle.algebra.proofs.Distance as D
use Rattle.algebra.proofs.LastIndex as L
use Rattle.algebra.proofs.Errata as N
use Rattle.algebra.proofs.Recovery as Fd
use Rattle.algebra.proofs.RingSolver as V
use Rattle.algebra.proofs.RingSolver.{◌:+◌, ◌:−◌, ◌:*◌, ◌:=◌, one}
use Rattle.code.specs.Shape.{Shape}
use Rattle.code.specs.Words.{Word, Near, astray, marked, check_sum}
use Rattle.field.proofs.Symbols.{within_from}
use Rattle.solver.specs.Pairs.{Term, left, right, Lower, Leads}
use Rattle.field.proofs.Lifting as Br
use Rattle.solver.proofs.TermOrder.{lt_in}
use Rattle.solver.proofs.Ending.{within, in_of}
use Rattle.errata.proofs.Reading as Re
use Rattle.errata.specs.Pieces.{root, located, places_of, spread, divisor, mended}
use Rattle.errata.specs.Pinned.{Pinned, Sighted}
use Rattle.errata.proofs.Lifting as Li

pub no_both : (b : Bool) → b ≡ true → b ≡ false → ⊥
no_both b t e = let x : ◌≡◌ {A = Bool} true false = sym t ∙ e in let z : ◌≡◌ {A = ℕ} 0 1 = cc in omega arith

module _ {K : Type 0} (F : Field K) where
  open F use {𝟘, 𝟙, ◌⊕◌, ◌⊗◌, neg, inv}

  -- where the length does not matter
  pub ev_any : (n k : ℕ) (h : ℕ → K) (z : K) → ((i : ℕ) → n ≤ i → h i ≡ 𝟘) → ((i : ℕ) → k ≤ i → h i ≡ 𝟘) → R.ev F n h z ≡ R.ev F k h z
  ev_any n k h z a b = elim (dec_le n k) [ yes d ↦ sym (W.ev_more F n k h z d a) | no d ↦ W.ev_more F k n h z (omega arith) b ]

  pub pow_ne : (x : K) → ¬ (x ≡ 𝟘) → (n : ℕ) → ¬ (R.pow F x n ≡ 𝟘)
  pow_ne x ne zero e = F.one_ne (sym (R.pow_o F x) ∙ e)
  pow_ne x ne (suc n) e = W.mul_ne F x _ ne (pow_ne x ne n) (sym (R.pow_suc F x n) ∙ e)

  module _ (x : K) where
    parted : (a d : Bool) → ((cond (not a && d) x 𝟘 ≡ 𝟘) × (cond (a || d) x 𝟘 ≡ cond a x 𝟘)) ⊎ ((cond a x 𝟘 ≡ 𝟘) × (cond (a || d) x 𝟘 ≡ cond (not a && d) x 𝟘))
    parted true d = inl (refl, refl)
    parted false d = inr (refl, refl)

    pub is_on : (b : Bool) → ¬ (cond b x 𝟘 ≡ 𝟘) → b ≡ true
    is_on true ne = refl
    is_on false ne = absurd (ne refl)

    pub is_off : (b : Bool) → ¬ (x ≡ 𝟘) → cond b x 𝟘 ≡ 𝟘 → b ≡ false
    is_off true ne e = absurd (ne e)
    is_off false ne e = refl

    still_apart : (y : K) (a b : Bool) → ¬ (cond a x 𝟘 ≡ 𝟘) → ¬ (x ≡ y) → ¬ (cond a x 𝟘 ≡ cond b y 𝟘)
    still_apart y true true ne d e = d e
    still_apart y true false ne d e = ne e
    still_apart y false b ne d e = ne refl

module _ (f : Meaning) (l : Laws f) (c : Shape) (cn : c.n ≤ f.m) (marks : List Bool) (w v : List ℕ)
    (ww : Word f.q c.n w) (near : Near f c marks w v) where
  abbrev K : Type 0
  K = Fin f.q

  abbrev F : Field K
  F = lift f l

  abbrev s : ℕ → K
  s = sym_of f l

  abbrev po : List ℕ → ℕ → K
  po = poly f l

  abbrev at : ℕ → K
  at = Li.at f l

  infixl 60 ◌⊕◌
  infixl 70 ◌⊗◌
  abbrev ◌⊕◌ : K → K → K
  ◌⊕◌ = F.◌⊕◌

  abbrev ◌⊗◌ : K → K → K
  ◌⊗◌ = F.◌⊗◌

  -- marked, wrong, either
  abbrev mk : ℕ → Bool
  mk i = get_or marks i false

  abbrev wr : ℕ → Bool
  wr i = not (get_or marks i false) && not (eqb (get_or v i 0) (get_or w i 0))

  abbrev lo : ℕ → Bool
  lo i = get_or marks i false || not (eqb (get_or v i 0) (get_or w i 0))

  abbrev X : ℕ → K
  X = Li.node f l lo

  abbrev Xe : ℕ → K
  Xe = Li.node f l wr

  abbrev Xm : ℕ → K
  Xm = Li.node f l mk

  Y : ℕ → K
  Y i = (po w i ⊕ F.neg (po v i)) ⊗ R.pow F (at i) c.first

  hw : (i : ℕ) → get_or w i 0 < f.q
  hw = within_from f.q w (Li.q_pos f l) ww.symbols

  hv : (i : ℕ) → get_or v i 0 < f.q
  hv = within_from f.q v (Li.q_pos f l) near.word.symbols

  at_ne : (i : ℕ) → i < c.n → ¬ (at i ≡ F.𝟘)
  at_ne i h = Li.at_ne f l i (omega arith)

  equal_at : (a d : Bool) → (a || not d) ≡ false → d ≡ true
  equal_at true d e = absurd (no_both true refl e)
  equal_at false true e = refl
  equal_at false false e = absurd (no_both true refl e)

  differ_at : (a d : Bool) → (not a && not d) ≡ true → d ≡ false
  differ_at true d e = absurd (no_both false e refl)
  differ_at false true e = absurd (no_both false e refl)
  differ_at false false e = refl

  same_at : (i : ℕ) → lo i ≡ false → get_or v i 0 ≡ get_or w i 0
  same_at i e = eqb-true _ _ (equal_at (mk i) (eqb (get_or v i 0) (get_or w i 0)) e)

  gone : (i : ℕ) → lo i ≡ false → po w i ⊕ F.neg (po v i) ≡ F.𝟘
  gone i e = ap (λ t. po w i ⊕ F.neg t) (ap s (same_at i e)) ∙ F.add_neg (po w i)

  Y_none : (i : ℕ) → lo i ≡ false → Y i ≡ F.𝟘
  unfolding Y
  Y_none i e = ap (λ t. t ⊗ R.pow F (at i) c.first) (gone i e) ∙ C.o_mul F _

  Y_some : (i : ℕ) → i < c.n → wr i ≡ true → ¬ (Y i ≡ F.𝟘)
  unfolding Y
  Y_some i h e z =
      W.mul_ne F _ _
      (λ t. eqb-false _ _ (differ_at (mk i) (eqb (get_or v i 0) (get_or w i 0)) e) (Br.same_of f l _ _ (hv i) (hw i) (sym (R.diff_zero F (po v i) (po w i) t))))
      (pow_ne F (at i) (at_ne i h) c.first) z

  errata : N.Errata F c.n X Xe Xm Y
  errata = record {
    parts = λ i h. parted F (at i) (mk i) (not (eqb (get_or v i 0) (get_or w i 0)));
    apart = λ i j hi hj ne u. still_apart F (at i) (at j) (lo i) (lo j) u (Li.at_apart f l i j (omega arith) (omega arith) ne);
    none = λ i h e. Y_none i (is_off F (at i) (lo i) (at_ne i h) e);
    amount = λ i h ne. Y_some i h (is_on F (at i) (wr i) ne);
  }

  -- the check sums of w are those of the difference
  one_term : (i j : ℕ) (b : Bool) → lo i ≡ b → (po w i ⊕ F.neg (po v i)) ⊗ R.pow F (at i) (c.first + j) ≡ Y i ⊗ R.pow F (cond b (at i) F.𝟘) j
  unfolding Y
  one_term i j true e = ap (λ t. (po w i ⊕ F.neg (po v i)) ⊗ t) (L.pow_add F (at i) c.first j) ∙ sym (C.mul_assoc F _ _ _)
  one_term i j false e =
      ap (λ t. t ⊗ R.pow F (at i) (c.first + j)) (gone i e) ∙ C.o_mul F _
      ∙ sym (ap (λ t. t ⊗ R.pow F F.𝟘 j) (Y_none i e) ∙ C.o_mul F _)

  abbrev term : ℕ → List ℕ → ℕ → K
  term j u i = poly f l u i ⊗ R.pow F (at i) (c.first + j)

  syndrome : (j : ℕ) → j < c.checks → s (check_sum f c w j) ≡ Q.synd F c.n X Y j
  syndrome j h =
      Li.weighed_at f l w hw (c.first + j) ∙ ap (λ n. S.sum F n (term j w)) ww.long
      ∙ S.sum_cong F c.n (term j w) (λ i. Y i ⊗ R.pow F (X i) j ⊕ term j v i)
      (λ i h. V.solve3 F (λ a b p. a :* p := (a :− b) :* p :+ b :* p) refl (po w i) (po v i) (R.pow F (at i) (c.first + j)) ∙ ap (λ t. t ⊕ term j v i) (one_term i j (lo i) refl))
      ∙ S.sum_add F c.n (λ i. Y i ⊗ R.pow F (X i) j) (term j v)
      ∙ ap (λ t. Q.synd F c.n X Y j ⊕ t) (ap (λ n. S.sum F n (term j v)) (sym near.word.long) ∙ sym (Li.weighed_at f l v hv (c.first + j)) ∙ Br.nil_to f l _ (near.codeword j h))
      ∙ C.add_o F _

  e_is : D.wt F c.n Xe ≡ astray c marks w v
  e_is = Li.wt_node f l wr c.n cn

  s_is : D.wt F c.n Xm ≡ marked c marks
  s_is = Li.wt_node f l mk c.n cn

  few : D.wt F c.n Xe + D.wt F c.n Xe + D.wt F c.n Xm ≤ c.checks
  few = omega (arith, near.reach, e_is, s_is)

  module _ (g A B : List ℕ) (r : ℤ) (lead : Term) (sighted : Sighted f c marks w g A B r lead) where
    hg : (i : ℕ) → get_or g i 0 < f.q
    hg = within f l g sighted.symbols

    mods : N.Modified F c.n c.checks X Xm Y (po g)
    mods j h =
        ap s (sighted.modifies j h) ∙ Li.modified_of f l mk (check_sum f c w) (λ t. Br.value_in f l (length w) w (c.first + t) hw) c.n j
        ∙ C.conv_cong F j _ _ _ _ (λ i u. refl) (λ i u. syndrome i (omega arith))

    er : pos (D.wt F c.n Xm) ≡ r +ℤ pos 1
    er = ap pos s_is ∙ sighted.order

    e : ℕ
    e = D.wt F c.n Xe

    Ω : ℕ → K
    Ω = Q.eva F c.n X Y

    Λ : ℕ → K
    Λ = Q.loc F c.n Xe

    u' : List ℕ
    u' = Re.row f l (suc c.n) Ω

    v' : List ℕ
    v' = Re.row f l (suc c.n) Λ

    Ω_short : (i : ℕ) → suc c.n ≤ i → Ω i ≡ F.𝟘
    unfolding Ω
    Ω_short i h = Q.eva_deg F c.n X Y i (omega arith)

    Λ_short : (i : ℕ) → suc c.n ≤ i → Λ i ≡ F.𝟘
    unfolding Λ
    Λ_short i h = Q.loc_deg F c.n Xe i h

    key_in : In F c.checks (po g) Ω Λ
    unfolding Ω Λ
    key_in = Fd.key_in F c.n c.checks X Xe Xm Y (po g) errata mods

    key_right : Right F (D.wt F c.n Xm) 1 Ω Λ e
    unfolding Ω Λ e
    key_right = Fd.key_right F c.n c.checks X Xe Xm Y (po g) errata mods

    hA : (i : ℕ) → get_or A i 0 < f.q
    hA = within f l A sighted.least.solution.left_symbols

    hB : (i : ℕ) → get_or B i 0 < f.q
    hB = within f l B sighted.least.solution.right_symbols

    inn : In F c.checks (po g) (po A) (po B)
    inn = in_of f l c.checks g A B hg hB sighted.least.solution.solves

    key_leads : Leads r u' v' (right e)
    unfolding u' v'
    key_leads = Re.of_right f l r (D.wt F c.n Xm) 1 er u' v' e (Re.row_in f l _ Ω Ω_short) (Re.row_in f l _ Λ Λ_short)
        (subst (λ x. Right F (D.wt F c.n Xm) 1 x (po v') e) (sym (Re.row_poly f l _ Ω Ω_short)) (subst (λ y. Right F (D.wt F c.n Xm) 1 Ω y e) (sym (Re.row_poly f l _ Λ Λ_short)) key_right))

    not_lower : Lower r (right e) lead → ⊥
    unfolding u' v'
    not_lower = sighted.least.least u' v' (right e) (record {
      left_symbols = λ i _. Re.row_in f l _ Ω Ω_short i;
      right_symbols = λ i _. Re.row_in f l _ Λ Λ_short i;
      some = (right e, key_leads.there);
      solves = Re.of_in f l c.checks g u' v' hg (Re.row_in f l _ Ω Ω_short) (Re.row_in f l _ Λ Λ_short)
          (subst (λ x. In F c.checks (po g) x (po v')) (sym (Re.row_poly f l _ Ω Ω_short)) (subst (λ y. In F c.checks (po g) Ω y) (sym (Re.row_poly f l _ Λ Λ_short)) key_in));
    }) key_leads

    -- the lead is on the right
    at_left : (p : ℕ) → lead ≡ left p → ⊥
    unfolding e
    at_left p t =
        Fd.not_left F c.n c.checks X Xe Xm Y (po g) errata mods few (po A) (po B) p inn
        (Re.left_of f l r (D.wt F c.n Xm) 1 er A B p hA (subst (Leads r A B) t sighted.least.leads))
        (elim (dec_lt p (D.wt F c.n Xe + D.wt F c.n Xm)) [
          | yes h ↦ h
          | no h ↦ absurd (not_lower (subst (Lower r (right e)) (sym t) (lt_in r (D.wt F c.n Xm) 1 er (D.wt F c.n Xe) p (omega arith))))
        ])

    module _ (q : ℕ) (is : lead ≡ right q) where
      y : Right F (D.wt F c.n Xm) 1 (po A) (po B) q
      y = Re.right_of f l r (D.wt F c.n Xm) 1 er A B q hB (subst (Leads r A B) is sighted.least.leads)

      qe : q ≤ D.wt F c.n Xe
      unfolding e
      qe = elim (dec_le q (D.wt F c.n Xe)) [ yes h ↦ h | no h ↦ absurd (not_lower (subst (Lower r (right e)) (sym is) (omega arith))) ]

      size : q ≡ D.wt F c.n Xe
      size = Fd.size F c.n c.checks X Xe Xm Y (po g) errata mods few (po A) (po B) q inn y qe

      side : lead ≡ right (astray c marks w v)
      side = is ∙ ap right (size ∙ e_is)

      past : (xs : List ℕ) (i : ℕ) → length xs ≤ i → po xs i ≡ F.𝟘
      past xs i h = Br.nil_to f l _ (get_or_past xs i 0 h)

      B_val : (t : ℕ) → s (weighed f B t) ≡ R.ev F (suc (D.wt F c.n Xe)) (po B) (at t)
      B_val t = Br.value_of f l (length B) B t hB ∙ ev_any F (length B) _ (po B) (at t) (past B) (λ i h. y.above i (let z = size in omega arith))

      A_val : (t : ℕ) → s (weighed f A t) ≡ R.ev F (D.wt F c.n Xe + D.wt F c.n Xm) (po A) (at t)
      A_val t = Br.value_of f l (length A) A t hA ∙ ev_any F (length A) _ (po A) (at t) (past A) (λ i h. y.other i (let z = size in omega arith))

      is_root : (i : ℕ) → i < c.n → wr i ≡ true → root f B i ≡ true
      is_root i h t =
          eq-eqb _ 0 (Br.nil_of f l _ (Br.value_in f l (length B) B (f.m - i) hB)
          (B_val (f.m - i) ∙ Fd.root_at F c.n c.checks X Xe Xm Y (po g) errata mods few (po A) (po B) q inn y qe i (at (f.m - i)) h
          (ap (λ (b : Bool). cond b (at i) F.𝟘 ⊗ at (f.m - i)) t ∙ Li.at_unit f l i (omega arith))))

      no_root : (i : ℕ) → i < c.n → wr i ≡ false → root f B i ≡ false
      no_root i h t =
          ne_eqb _ 0 (λ z. Fd.no_root F c.n c.checks X Xe Xm Y (po g) errata mods few (po A) (po B) q inn y qe (at i) (at (f.m - i)) (Li.at_unit f l i (omega arith))
          other (sym (B_val (f.m - i)) ∙ Br.nil_to f l _ z))
        where
          one_other : (j : ℕ) → j < c.n → (b : Bool) → wr j ≡ b → ¬ (◌≡◌ {A = Fin f.q} (cond b (at j) F.𝟘) (at i))
          one_other j k true u d = elim (ℕ_discrete j i) [
            | yes o ↦ no_both (wr i) (subst (λ x. wr x ≡ true) o u) t
            | no o ↦ Li.at_apart f l j i (omega arith) (omega arith) o d
          ]
          one_other j k false u d = at_ne i h (sym d)

          other : (j : ℕ) → j < c.n → ¬ (Xe j ≡ at i)
          other j k = one_other j k (wr j) refl

      unmarked : (a d : Bool) → a ≡ false → (not a && not d) ≡ not d
      unmarked true d e = absurd (no_both true refl e)
      unmarked false d e = refl

      roots : (i : ℕ) → i < c.n → get_or marks i false ≡ false → root f B i ≡ not (eqb (get_or v i 0) (get_or w i 0))
      roots i h u =
          let o = unmarked (mk i) (eqb (get_or v i 0) (get_or w i 0)) u in
          ⊎_elim (λ t. is_root i h t ∙ sym t ∙ o) (λ t. no_root i h t ∙ sym t ∙ o) (cases_Bool (wr i))

      either_way : (a b d : Bool) → (a ≡ false → b ≡ d) → (a || b) ≡ (a || d)
      either_way true b d h = refl
      either_way false b d h = h refl

      lo_is : (i : ℕ) → i < c.n → located f marks B i ≡ lo i
      lo_is i h = either_way (mk i) (root f B i) _ (roots i h)

      module _ (k : ℕ) (kn : k < c.n) (on : located f marks B k ≡ true) where
        Xk : X k ≡ at k
        Xk = ap (λ (b : Bool). cond b (at k) F.𝟘) (sym (lo_is k kn) ∙ on)

        unit : X k ⊗ at (f.m - k) ≡ F.𝟙
        unit = ap (λ t. t ⊗ at (f.m - k)) Xk ∙ Li.at_unit f l k (omega arith)

        abbrev places : List ℕ
        places = places_of f c marks B

        leaves : (a d : Bool) (x : K) → d ≡ true → cond (a && not d) x F.𝟘 ≡ F.𝟘
        leaves true true x e = refl
        leaves false d x e = refl
        leaves true false x e = absurd (no_both false e refl)

        keeps : (a d : Bool) (x : K) → d ≡ false → cond a x F.𝟘 ≡ cond (a && not d) x F.𝟘
        keeps true true x e = absurd (no_both true refl e)
        keeps true false x e = refl
        keeps false d x e = refl

        D_in : spread f places k < f.q
        D_in = Li.spread_in f l places k

        D_is : s (spread f places k) ≡ W.others F c.n k X (at (f.m - k))
        D_is =
            Li.spread_of f l (located f marks B) k c.n
            ∙ sym (L.others_prod F c.n k X (Li.node f l (λ i. located f marks B i && not (eqb i k))) (at (f.m - k)) kn (leaves (located f marks B k) (eqb k k) (at k) (eq-eqb k k refl))
            (λ i h ne. ap (λ (b : Bool). cond b (at i) F.𝟘) (sym (lo_is i h)) ∙ keeps (located f marks B i) (eqb i k) (at i) (ne_eqb i k ne)))

        P_in : pow f f.a (k * c.first) < f.q
        P_in = Li.at_in f l (k * c.first)

        div_in : divisor f c B places k < f.q
        div_in = l.prod_in _ _ (l.prod_in _ _ (hB 0) P_in) D_in

        div_is : s (divisor f c B places k) ≡ po B 0 ⊗ R.pow F (at k) c.first ⊗ W.others F c.n k X (at (f.m - k))
        div_is =
            Br.prod_of f l _ _ (l.prod_in _ _ (hB 0) P_in) D_in
            ∙ ap₂ ◌⊗◌ (Br.prod_of f l _ _ (hB 0) P_in ∙ ap (λ t. po B 0 ⊗ t) (Li.at_mul f l k c.first)) D_is

        divides : divisor f c B places k ≢ 0
        divides o =
            W.mul_ne F _ _
            (W.mul_ne F _ _ (Fd.low F c.n c.checks X Xe Xm Y (po g) errata mods few (po A) (po B) q inn y qe) (pow_ne F (at k) (at_ne k kn) c.first))
            (Fd.others_ne F c.n c.checks X Xe Xm Y (po g) errata mods few (po A) (po B) q inn y qe k (at (f.m - k)) kn unit)
            (sym div_is ∙ Br.nil_to f l _ o)

        value : s (weighed f A (f.m - k)) ≡ s (divisor f c B places k) ⊗ (po w k ⊕ F.neg (po v k))
        unfolding Y
        value =
            A_val (f.m - k) ∙ Fd.amount_at F c.n c.checks X Xe Xm Y (po g) errata mods few (po A) (po B) q inn y qe k (at (f.m - k)) kn unit
            ∙ V.solve4 F (λ b d p o. b :* (d :* p) :* o := b :* p :* o :* d) refl (po B 0) (po w k ⊕ F.neg (po v k)) (R.pow F (at k) c.first) (W.others F c.n k X (at (f.m - k)))
            ∙ ap (λ t. t ⊗ (po w k ⊕ F.neg (po v k))) (sym div_is)

        mends : mended f c A B places w k ≡ get_or v k 0
        mends =
            let d = divisor f c B places k in
            let rin : f.recip d < f.q = l.recip_in d div_in divides in
            let win = Br.value_in f l (length A) A (f.m - k) hA in
            let pin : f.prod (weighed f A (f.m - k)) (f.recip d) < f.q = l.prod_in _ _ win rin in
            Br.same_of f l _ _ (l.sum_in _ _ (hw k) (l.opp_in _ pin)) (hv k)
            (Br.sum_of f l _ _ (hw k) (l.opp_in _ pin)
            ∙ ap (λ t. po w k ⊕ t) (Br.opp_of f l _ pin ∙ ap F.neg (Br.prod_of f l _ _ win rin ∙ ap₂ ◌⊗◌ value (Br.recip_of f l d div_in)))
            ∙ V.solve4 F (λ w v d i. w :− (d :* (w :− v)) :* i := w :− (w :− v) :* (d :* i)) refl (po w k) (po v k) (s d) (F.inv (s d))
            ∙ ap (λ t. po w k ⊕ F.neg ((po w k ⊕ F.neg (po v k)) ⊗ t)) (F.mul_inv (s d) (λ o. divides (Br.nil_of f l d div_in o)))
            ∙ V.solve2 F (λ w v. w :− (w :− v) :* one := v) refl (po w k) (po v k))

      all : Pinned f c marks w v A B lead
      all = record { side = side; roots = roots; divides = divides; mends = mends }

    split : (t : Term) → lead ≡ t → Pinned f c marks w v A B lead
    split (left p) t = absurd (at_left p t)
    split (right q) t = all q t

    pub pinned : Pinned f c marks w v A B lead
    pinned = split lead refl

-- the least pair shows the codeword in reach
abbrev Pins : Type 0
Pins = (f : Meaning) → Laws f → (c : Shape) → c.n ≤ f.m → (marks : List Bool) (w v : List ℕ) → Word f.q c.n w → Near f c marks w v
    → (g A B : List ℕ) (r : ℤ) (lead : Term) → Sighted f c marks w g A B r lead → Pinned f c marks w v A B lead

pub pins : Pins
pins f l c cn marks w v ww near g A B r lead sighted = pinned f l c cn marks w v ww near g A B r lead sighted
