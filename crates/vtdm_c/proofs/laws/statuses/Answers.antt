use Rattle.std.proofs.Common.{arith, refl}
use Rattle.vtdm_c.proofs.Statuses as statuses
use Rattle.vtdm_c.proofs.laws.statuses.Goals as goal

pub returns : goal.returns
returns c = record {
  refusals = statuses.between;
  refusals_apart = statuses.refusals_apart;
  faults = statuses.behind;
  faults_apart = statuses.faults_apart;
  own = (
    omega arith,
    omega arith,
    omega arith,
    omega arith,
    omega arith,
    omega arith,
    omega arith,
    omega arith,
    omega arith,
    omega arith,
    omega arith,
    omega arith,
    omega arith,
    omega arith,
  );
  domain = refl;
  device = refl;
  attached = refl;
}
