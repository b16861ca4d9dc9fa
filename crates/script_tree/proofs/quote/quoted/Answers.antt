use Rattle.std.proofs.Common.{sym, ◌∙◌}
use Rattle.script_tree.proofs.Quoting.{quote_literal}
use Rattle.script_tree.proofs.quote.quoted.Goals as goal

pub new-requires : goal.new-requires
new-requires c = quote_literal c.args.behind.now c.in-Some.quote.text c.in-Some.quote.size (sym c.in_ok-quote.ensures ∙ c.in-Some.is) c.if-size-gt-LITERAL_LIMIT.false
