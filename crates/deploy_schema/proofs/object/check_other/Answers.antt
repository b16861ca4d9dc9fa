use Rattle.std.proofs.Common.{sym, ◌∙◌}
use Rattle.deploy_schema.proofs.object.check_other.Goals as goal

pub returns-else-knows : goal.returns-else-knows
returns-else-knows g c = rw (sym c.knows.ensures ∙ c.if-knows.false) (c.under_name.ensures _ c.here-fault.ensures)
