use Rattle.std.proofs.Common.{ap}
use Rattle.script_types.specs.declared.codes.Codes.{Codes}
use Rattle.slee_descriptor.proofs.deployment.Deployment.with_programs.Goals as goal

pub invariant_of-self-clause-coded : goal.invariant_of-self-clause-coded
invariant_of-self-clause-coded c =
    let with_them : Codes → Codes = λ k. record { events = k.events; tables = k.tables; services = k.services; blocks = k.blocks; names = k.names; programs = c.args.programs } in
    ap with_them c.args.self.coded
