use Rattle.script_parse_terms.proofs.ListReaders.{fields_first, fields_more, fields_end}
use Rattle.script_parse_terms.proofs.lists.field_list.Goals as goal

pub more-init : goal.more-init
more-init c = fields_first _ _ _ _ _ _ c.in_ok-first.ensures c.new-list.ensures.items c.in_ok-push.ensures.items

pub more-preserved : goal.more-preserved
more-preserved c = fields_more _ _ _ _ _ _ _ _ c.more.invariant c.in-Some.ensures c.in_ok-next.ensures c.in_ok-push-2.ensures.items

pub returns : goal.returns
returns c = fields_end _ _ _ _ _ _ c.more.invariant c.in_default.ensures
