-- the same ones are kept
use Rattle.activity_context.proofs.NamedLemmas.{same_names}
use Rattle.activity_context.proofs.names.Names.ordered.Goals as goal

pub returns-clause-kept : goal.returns-clause-kept
returns-clause-kept c = rw (← c.self.view_is) (same_names c.self.inside.rows.rows)
