use Rattle.script_parse_terms.proofs.ListReaders.{arguments_first, arguments_more, arguments_end}
use Rattle.script_parse_terms.proofs.lists.argument_list.Goals as goal

pub more-init : goal.more-init
more-init c = arguments_first _ _ _ _ _ _ c.in_ok-first.ensures c.new-list.ensures.items c.in_ok-push.ensures.items

pub more-preserved : goal.more-preserved
more-preserved c = arguments_more _ _ _ _ _ _ _ _ c.more.invariant c.in-Some.ensures c.in_ok-next.ensures c.in_ok-push-2.ensures.items

pub returns : goal.returns
returns c = arguments_end _ _ _ _ _ _ c.more.invariant c.in_default.ensures
