-- as many are kept
use Rattle.std.proofs.Common.{sym, ◌∙◌}
use Rattle.activity_context.proofs.NamedLemmas.{as_many}
use Rattle.activity_context.proofs.names.Names.len.Goals as goal

pub returns : goal.returns
returns c = rw (← c.self.view_is) (c.len.ensures ∙ sym (as_many c.self.inside.rows.rows))
