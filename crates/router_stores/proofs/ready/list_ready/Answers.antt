-- the activity comes or goes, and the others stay
use Rattle.std.proofs.Common.{sym, ◌∙◌}
use Rattle.router_stores.proofs.ReadyLemmas.{cut_leaves, cut_unlists, put_leaves, put_lists}
use Rattle.router_stores.proofs.ready.list_ready.Goals as goal

pub returns-then-is_ready-clause-own : goal.returns-then-is_ready-clause-own
returns-then-is_ready-clause-own c = put_lists _ _ _ c.put_row.ensures.rows ∙ sym (sym c.is_ready.ensures ∙ c.if-is_ready.true)

pub returns-then-is_ready-clause-others : goal.returns-then-is_ready-clause-others
returns-then-is_ready-clause-others c = put_leaves _ _ _ c.put_row.ensures.rows

pub returns-else-is_ready-clause-own : goal.returns-else-is_ready-clause-own
returns-else-is_ready-clause-own c = cut_unlists _ _ _ c.cut_row.ensures.rows ∙ sym (sym c.is_ready.ensures ∙ c.if-is_ready.false)

pub returns-else-is_ready-clause-others : goal.returns-else-is_ready-clause-others
returns-else-is_ready-clause-others c = cut_leaves _ _ _ c.cut_row.ensures.rows
