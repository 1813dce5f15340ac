-- When bytes are the answer to a line.
use Rattle.std.proofs.Common.{◌≡◌, ℕ, List, Some, None, sym, ap, ◌∙◌}
use Rattle.field.specs.Meaning.{Meaning}
use Rattle.bay.specs.Plain.{Plain}
use Rattle.calls.specs.Steps.{Asked, Told, step}
use Rattle.text.specs.Answers.{question}
use Rattle.text.specs.Lines.{Says, SaysNothing, SaysOne}
use Rattle.script.specs.Requests.{requested}
use Rattle.script.specs.Replies.{line_of, positions, replying, Replies}

module _ (f : Meaning) (p : Plain) (line : List ℕ) where
  -- a line that says nothing
  pub unheard : SaysNothing line → (bytes : List ℕ) → bytes ≡ question → Replies f p line bytes p
  unheard none bytes e = record {
    heard = λ letter numbers says. absurd (none letter numbers says);
    unheard = λ _. ap (λ (b : List ℕ). (b, p)) e;
  }

  module _ (only : SaysOne) (letter : ℕ) (numbers : List ℕ) (says : Says line letter numbers) where
    same : (c : ℕ) (ns : List ℕ) → Says line c ns → requested letter numbers ≡ requested c ns
    same c ns other =
        let e = only line letter c numbers ns says other in
        ap (λ (b : ℕ). requested b numbers) e.0 ∙ ap (requested c) e.1

    heard : (bytes : List ℕ) (q : Plain) → (bytes, q) ≡ replying f p (requested letter numbers) → Replies f p line bytes q
    heard bytes q e = record {
      heard = λ c ns other. e ∙ ap (replying f p) (same c ns other);
      unheard = λ none. absurd (none letter numbers says);
    }

    -- a line that says something, and asks for no call
    pub unasked : requested letter numbers ≡ None → (bytes : List ℕ) → bytes ≡ question → Replies f p line bytes p
    unasked none bytes e = heard bytes p (ap (λ (b : List ℕ). (b, p)) e ∙ sym (ap (replying f p) none))

    -- a line that asks for a call
    pub asking : (ask : Asked) → Some ask ≡ requested letter numbers → (t : Told) (q : Plain) → (t, q) ≡ step f p ask
        → (n : ℕ) → n ≡ positions q → (bytes : List ℕ) → bytes ≡ line_of n t.call t.answer → Replies f p line bytes q
    asking ask some t q made n wide bytes e =
        heard bytes q
        (ap (λ (b : List ℕ). (b, q)) (e ∙ ap (λ (k : ℕ). line_of k t.call t.answer) wide)
        ∙ ap (λ (s : Told × Plain). (line_of (positions s.1) s.0.call s.0.answer, s.1)) made
        ∙ ap (replying f p) some)
