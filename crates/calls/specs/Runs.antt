-- The calls of the code, as calls to the plain bay.
use Rattle.std.specs.Prelude.{Ok, Err, Result, vec_items}
use Rattle.code.specs.declared.Refusal.{Refusal}
use Rattle.code.specs.Refusals.{number}
use Rattle.calls.specs.declared.Outcome.{Outcome}
use Rattle.calls.specs.declared.Outcome.TheVariants as outcome
use Rattle.calls.specs.declared.Call.{Call}
use Rattle.calls.specs.declared.Call.TheVariants as call
use Rattle.calls.specs.declared.Line.{Line}
use Rattle.calls.specs.Steps.{Asked, Said, Told, make, load, put, mark, clear, encode, correct, test, read, report, message, yes, no, root, part}

abbrev pub asked : Call → Asked
asked (call.Make n r b) = make n r b
asked (call.Load w map) = load (vec_items w) (vec_items map)
asked (call.Put pos sym) = put pos sym
asked (call.Mark pos) = mark pos
asked call.Clear = clear
asked call.Encode = encode
asked call.Correct = correct
asked call.Test = test
asked (call.Read buf) = read (vec_items buf)
asked (call.Report buf) = report (vec_items buf)
asked (call.Message buf) = message (vec_items buf)

abbrev pub said : Result Outcome Refusal → Said
said (Ok outcome.Done) = yes
said (Ok (outcome.Root t)) = root t
said (Ok (outcome.Part start len)) = part start len
said (Err e) = no (number e)

-- a line after its call was made
abbrev pub told : Line → Told
told l = record { call = asked l.call; answer = said l.answer }
