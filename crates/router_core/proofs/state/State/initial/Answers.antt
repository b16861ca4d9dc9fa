use Rattle.std.proofs.Common.{arith}
use Rattle.deploy_model.specs.Resolving.{deployed_of}
use Rattle.script_types.specs.ProgramOf.{kept_program}
use Rattle.router_core.proofs.InitialLemmas.{starts_rooted, starts_steady}
use Rattle.router_core.proofs.state.State.initial.Goals as goal

pub invariant_of-result : goal.invariant_of-result
invariant_of-result c = record {
  steady = starts_steady c.args.deployment.now.parts (kept_program c.args.deployment.now.codes) c.in_ok-stores.stores.state c.in_ok-stores.ensures (omega arith);
  roots = starts_rooted (deployed_of c.args.deployment.now.parts) (kept_program c.args.deployment.now.codes) c.in_ok-stores.stores.state c.new.result c.in_ok-stores.ensures c.new.ensures;
}
