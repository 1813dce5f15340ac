-- A buffer that is written from its start, a number at a time.
use Rattle.std.proofs.Common.{◌≡◌, ℕ, ◌+◌, ◌-◌, ◌<◌, ◌≤◌, List, [], ◌∷◌, ◌++◌, map, length, get_or, take, drop, set, sym, refl, ap, ◌∙◌, append_assoc, arith, length-append, length-drop, length-take-le}
use Rattle.std.proofs.lemmas.List.{drop-set, drop-set-add, length-map, length_push, map_push, set-append_right, take_more}
use Rattle.report.specs.Written.{over}

-- y written after xs
over_more : (xs buf : List ℕ) (i y : ℕ) → length xs ≡ i → i < length buf → set (over xs buf) i y ≡ over (xs ++ (y ∷ [])) buf
over_more xs buf i y long within =
    let n = length xs in
    let here : i - n ≡ 0 = omega arith in
    let end : n + 0 ≡ n = omega arith in
    set-append_right xs (drop n buf) n i y refl (omega arith)
    ∙ ap (λ k. xs ++ set (drop n buf) k y) here
    ∙ ap (λ l. xs ++ l) (sym (drop-set-add n buf 0 y) ∙ ap (λ k. drop n (set buf k y)) end ∙ drop-set buf n y (omega arith))
    ∙ sym (append_assoc xs (y ∷ []) (drop (n + 1) buf))
    ∙ ap (λ k. (xs ++ (y ∷ [])) ++ drop k buf) (sym (length_push xs y))

-- the next of a list written after what is written of it
pub written_more : {X : Type 0} (f : X → ℕ) (first : List ℕ) (cs : List X) (i : ℕ) (d : X) (buf : List ℕ) (at : ℕ) → i < length cs → length first + i ≡ at → at < length buf
    → set (over (first ++ map f (take i cs)) buf) at (f (get_or cs i d)) ≡ over (first ++ map f (take (i + 1) cs)) buf
written_more f first cs i d buf at lt e within =
    let long : length (first ++ map f (take i cs)) ≡ at = omega (arith, length-append first (map f (take i cs)), length-map (take i cs) f, length-take-le i cs) in
    over_more (first ++ map f (take i cs)) buf at (f (get_or cs i d)) long within
    ∙ ap (λ l. over l buf) (append_assoc first (map f (take i cs)) (f (get_or cs i d) ∷ []) ∙ ap (λ l. first ++ l) (sym (map_push f (take i cs) (get_or cs i d)) ∙ ap (map f) (sym (take_more cs i d lt))))

-- a buffer with ys written from place n on, and what lies before and past them untouched
abbrev pub over_from : ℕ → List ℕ → List ℕ → List ℕ
over_from n ys buf = take n buf ++ over ys (drop n buf)

-- a number written past xs
over_set : (xs buf : List ℕ) (m y : ℕ) → length xs ≤ m → set (over xs buf) m y ≡ over xs (set buf m y)
over_set xs buf m y h =
    let n = length xs in
    let e : n + (m - n) ≡ m = omega arith in
    set-append_right xs (drop n buf) n m y refl h ∙ ap (λ l. xs ++ l) (sym (drop-set-add n buf (m - n) y) ∙ ap (λ k. drop n (set buf k y)) e)

-- the next of a list written after what is written of it from place n on
pub from_more : {X : Type 0} (f : X → ℕ) (cs : List X) (n i : ℕ) (d : X) (buf : List ℕ) → i < length cs → n + i < length buf
    → set (over_from n (map f (take i cs)) buf) (n + i) (f (get_or cs i d)) ≡ over_from n (map f (take (i + 1) cs)) buf
from_more f cs n i d buf lt within =
    let long : length (take n buf) ≡ n = length-take-le n buf (omega arith) in
    let here : n + i - n ≡ i = omega arith in
    let fs = map f (take i cs) in
    let y = f (get_or cs i d) in
    set-append_right (take n buf) (over fs (drop n buf)) n (n + i) y long (omega arith)
    ∙ ap (λ k. take n buf ++ set (over fs (drop n buf)) k y) here
    ∙ ap (λ l. take n buf ++ l) (written_more f [] cs i d (drop n buf) i lt (omega arith) (omega (arith, length-drop n buf)))

-- the next number of both lists written, of one after xs and of the other from place n on
pub both_more : {X : Type 0} (f h : X → ℕ) (first : List ℕ) (cs : List X) (n i : ℕ) (d : X) (buf : List ℕ) → i < length cs → length first + length cs ≡ n → n + i < length buf
    → set (set (over (first ++ map f (take i cs)) (over_from n (map h (take i cs)) buf)) (length first + i) (f (get_or cs i d))) (n + i) (h (get_or cs i d))
    ≡ over (first ++ map f (take (i + 1) cs)) (over_from n (map h (take (i + 1) cs)) buf)
both_more f h first cs n i d buf lt e within =
    let B = over_from n (map h (take i cs)) buf in
    let y = h (get_or cs i d) in
    let room : length first + i < length B = omega (arith, length-append (take n buf) (over (map h (take i cs)) (drop n buf)), length-take-le n buf) in
    let xs = first ++ map f (take (i + 1) cs) in
    let short : length xs ≤ n + i = omega (arith, length-append first (map f (take (i + 1) cs)), length-map (take (i + 1) cs) f, length-take-le (i + 1) cs) in
    ap (λ o. set o (n + i) y) (written_more f first cs i d B (length first + i) lt refl room)
    ∙ over_set xs B (n + i) y short
    ∙ ap (over xs) (from_more h cs n i d buf lt within)
