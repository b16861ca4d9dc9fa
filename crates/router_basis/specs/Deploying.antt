-- When a deployment is the one with which a state was made.
use Rattle.std.specs.Prelude.{◌≡◌}
use Rattle.deploy_model.specs.Resolving.{deployed_of}
use Rattle.script_types.specs.ProgramOf.{IsChecked, kept_program}
use Rattle.slee_descriptor.specs.declared.deployment.Deployment.{Deployment}
use Rattle.router_state.specs.State.{State}

-- the state has these parts and these scripts, which are checked
pub record IsDeployed (d : Deployment) (s : State) : Type 0 where
  pub parts : deployed_of d.parts ≡ s.deployment
  pub program : kept_program d.codes ≡ s.program
  pub checked : IsChecked d.codes
