-- A codeword that is damaged within reach comes back.
use Rattle.std.proofs.Common.{◌≡◌, ℕ, ◌≤◌, Bool, List, Some, Ok, Result, ap}
use Rattle.field.specs.Meaning.{Meaning, Laws}
use Rattle.code.specs.Shape.{Shape}
use Rattle.code.specs.Words.{Word, Codeword, InReach, Near}
use Rattle.code.proofs.Distance.{one_in_reach}
use Rattle.report.specs.Written.{Report}
use Rattle.bay.specs.Plain.{Plain, holding, correcting}
use Rattle.bay.proofs.Correcting.{finds_it}

pub restored : (f : Meaning) → Laws f → (p : Plain) (c : Shape) → p.code ≡ Some c → c.n ≤ f.m → Word f.q c.n p.word → Codeword f c p.word
    → (w : List ℕ) (ms : List Bool) (r : Report) → InReach c ms w p.word
    → ((correcting f (holding p w ms r)).0 ≡ Ok tt) × ((correcting f (holding p w ms r)).1.word ≡ p.word)
restored f l p c e hn hw hc w ms r reach =
    let near : Near f c ms w p.word = record { word = hw; codeword = hc; reach = reach } in
    let is = finds_it f (holding p w ms r) c e p.word near (λ u h. one_in_reach f l c hn ms w u p.word h near) in
    (ap (λ (o : Result (Unit {0}) ℕ × Plain). o.0) is, ap (λ (o : Result (Unit {0}) ℕ × Plain). o.1.word) is)
