-- A request of the code, as a call to the plain bay or none.
use Rattle.std.specs.Prelude.{Some, None, Option}
use Rattle.calls.specs.declared.Call.{Call}
use Rattle.calls.specs.Steps.{Asked}
use Rattle.calls.specs.Runs.{asked}

abbrev pub sought : Option Call → Option Asked
sought None = None
sought (Some c) = Some (asked c)
