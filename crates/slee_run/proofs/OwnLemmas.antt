-- A deployment that was read is the router's own.
use Rattle.std.proofs.Common.{ℕ, ◌<◌, ◌≤◌, ◌^◌, List, length, refl, arith}
use Rattle.deploy_model.specs.Resolving.{deployed_of}
use Rattle.script_types.specs.ProgramOf.{IsChecked, kept_program}
use Rattle.slee_descriptor.specs.declared.deployment.Deployment.{Deployment}
use Rattle.router_core.specs.States.{IsOwn}
use Rattle.router_laws_deployed.proofs.Declared.{declared_rise}
use Rattle.router_laws_deployed.proofs.Readings.{reading_parts}
use Rattle.router_laws_kept.specs.Kept.{IsKeepable}
use Rattle.router_laws_keepable.proofs.Keepable.{keepable_read}
use Rattle.slee_run.specs.Given.{IsDeployment, deploy_limit, start_of}

pub own_read : (bytes : List ℕ) (d : Deployment) → IsDeployment bytes d → IsChecked d.codes → IsOwn d (start_of d)
own_read bytes d given checked = record {
  deployed = record { parts = refl; program = refl; checked = checked };
  order = declared_rise bytes d.parts (reading_parts bytes d given.read);
}

short : (n : ℕ) → n ≤ deploy_limit → n < 2 ^ 32
short n within = omega (arith, within)

-- its states can be kept as snapshots
pub keepable_own : (bytes : List ℕ) (d : Deployment) → IsDeployment bytes d → IsKeepable (deployed_of d.parts) (kept_program d.codes)
keepable_own bytes d given = keepable_read bytes d (short (length bytes) given.within) given.read
