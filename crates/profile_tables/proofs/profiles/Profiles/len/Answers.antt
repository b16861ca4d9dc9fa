-- as many are kept, and the same ones
use Rattle.std.proofs.Common.{sym, ◌∙◌}
use Rattle.profile_tables.proofs.FilingLemmas.{as_many, same_rows}
use Rattle.profile_tables.proofs.profiles.Profiles.len.Goals as goal

pub returns-clause-length : goal.returns-clause-length
returns-clause-length c = rw (← c.self.view_is) (c.len.ensures ∙ sym (as_many c.self.inside.rows.rows))

pub returns-clause-order : goal.returns-clause-order
returns-clause-order c = rw (← c.self.view_is) c.self.invariant.filed.once

pub returns-clause-kept : goal.returns-clause-kept
returns-clause-kept c = rw (← c.self.view_is) (same_rows c.self.inside.rows.rows)
