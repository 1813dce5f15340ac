-- A desk as a session.
use Rattle.f929.specs.Residues.{residues}
use Rattle.f256.specs.Bytes.{bytes}
use Rattle.f16.specs.Sixteen.{sixteen}
use Rattle.bay.specs.Held.{held}
use Rattle.script.specs.declared.desk.Desk.{Desk}
use Rattle.script.specs.declared.desk.Desk.TheVariants.{Waiting, Label, Reel, Control, Closed}
use Rattle.script.specs.Sessions.{Session, waiting, over, closed}

abbrev pub session : Desk → Session
session Waiting = waiting
session (Label b) = over residues (held b)
session (Reel b) = over bytes (held b)
session (Control b) = over sixteen (held b)
session Closed = closed
