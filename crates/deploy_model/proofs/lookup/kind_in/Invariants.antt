use Rattle.std.proofs.Common.{◌≡◌, drop}
use Rattle.deploy_model.specs.Tables.{kind_of}
use Rattle.deploy_model.proofs.lookup.kind_in.Given as goal

abbrev pub invariant-loop-declared : goal.invariant-loop-declared
invariant-loop-declared l = kind_of l.fields l.name ≡ kind_of (drop l.declared-index l.fields) l.name
