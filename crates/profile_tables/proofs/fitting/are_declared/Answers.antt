-- as many as are declared
use Rattle.std.proofs.Common.{sym}
use Rattle.profile_tables.proofs.DeclaredLemmas.{others}
use Rattle.profile_tables.proofs.fitting.are_declared.Goals as goal

pub returns-then-declared-fields : goal.returns-then-declared-fields
returns-then-declared-fields c = sym (others c.args.declared.now c.args.fields.now c.if-declared-fields.true)
