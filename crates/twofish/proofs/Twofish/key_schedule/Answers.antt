-- `Twofish::key_schedule` meets its contract, from what the subkeys and the S bytes are.
use Rattle.twofish.specs.Schedule.{schedule}
use Rattle.twofish.proofs.Twofish.key_schedule.Goals as goal

pub returns : goal.returns
unfolding schedule
returns c = cc
