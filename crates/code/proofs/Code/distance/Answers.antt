use Rattle.std.proofs.Common.{arith}
use Rattle.code.proofs.Distance.{far, one_in_reach, one_per_message}
use Rattle.code.proofs.Code.distance.Goals as goal

pub returns : goal.returns
returns c = record { value = omega arith; apart = far; reach = one_in_reach; message = one_per_message }
