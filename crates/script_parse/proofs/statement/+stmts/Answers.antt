use Rattle.std.proofs.Common.{rules, arith, [], refl, sym, ap, ◌∙◌}
use Rattle.script_parse.proofs.Blocks.{no_block_word, word_begun, while_took, for_took, if_took, if_else_took, stmts_more, stmts_end, stmts_none, block_took, block_too_deep, no_block}
use Rattle.script_parse.specs.declared.statement.BlockWord.TheVariants as words
use Rattle.std.specs.Prelude.{Some}
use Rattle.script_parse.proofs.statement.+stmts.Goals as goal

pub statement-simple_statement-requires : goal.statement-simple_statement-requires
statement-simple_statement-requires m c = record { deep = c.requires; simple = no_block_word _ c.in_default.ensures }

pub statement-branch-alloc-requires : goal.statement-branch-alloc-requires
statement-branch-alloc-requires m c = (search rules, (c.requires, word_begun words.If _ _ _ _ (c.in-Some.ensures.0 ∙ ap Some c.in-If.is) c.in-Some.ensures.1.1))

pub statement-repeat-requires : goal.statement-repeat-requires
statement-repeat-requires m c = (search rules, (c.requires, word_begun words.While _ _ _ _ (c.in-Some.ensures.0 ∙ ap Some c.in-While.is) c.in-Some.ensures.1.1))

pub statement-walk-requires : goal.statement-walk-requires
statement-walk-requires m c = (search rules, (c.requires, word_begun words.For _ _ _ _ (c.in-Some.ensures.0 ∙ ap Some c.in-For.is) c.in-Some.ensures.1.1))

pub branch-returns-in_default : goal.branch-returns-in_default
branch-returns-in_default m c = if_took _ _ _ _ _ c.in_ok-test.test c.in_ok-body.body c.requires.begun c.in_ok-test.ensures c.in_ok-body.ensures c.in_default.ensures

pub branch-returns : goal.branch-returns
branch-returns m c = if_else_took _ _ _ _ _ _ _ c.in_ok-test.test c.in_ok-body.body c.in_ok-other.other c.requires.begun c.in_ok-test.ensures c.in_ok-body.ensures c.in-Some.ensures c.in_ok-other.ensures

pub repeat-returns : goal.repeat-returns
repeat-returns m c = while_took _ _ _ _ _ c.in_ok-test.test c.in_ok-body.body c.requires.begun c.in_ok-test.ensures c.in_ok-body.ensures

pub walk-returns : goal.walk-returns
walk-returns m c = for_took _ _ _ _ _ _ _ _ _ c.in_ok-body.body c.requires.begun c.in_ok-name.ensures c.in_ok-rest.ensures.read c.in_ok-over.ensures c.in_ok-body.ensures

pub block-returns-in_default : goal.block-returns-in_default
block-returns-in_default m c = rw c.unexpected.ensures (no_block _ _ c.in_default.ensures)

pub block-returns-then-depth-eq64 : goal.block-returns-then-depth-eq64
block-returns-then-depth-eq64 m c = rw c.too_deep.ensures (block_too_deep _ _ _ c.in-Some.ensures c.if-depth-eq64.true)

pub block-returns : goal.block-returns
block-returns m c = block_took _ _ _ _ _ _ c.in-Some.ensures (omega arith) c.in_ok-body.ensures c.in_ok-rest.ensures.read

pub statements-returns-then-not-starts : goal.statements-returns-then-not-starts
statements-returns-then-not-starts m c = stmts_end _ _ _ _ (stmts_none _ _ _ c.new.ensures.items) (sym c.starts.ensures ∙ c.if-not-starts.true)

pub statements-more-init : goal.statements-more-init
statements-more-init m c = stmts_more _ _ _ _ [] _ _ (stmts_none _ _ [] refl) (sym c.starts.ensures ∙ c.if-not-starts.false) c.in_ok-first.ensures c.in_ok-list.ensures.items

pub statements-more-preserved : goal.statements-more-preserved
statements-more-preserved m c = stmts_more _ _ _ _ _ _ _ c.more.invariant (sym c.starts-in-more.ensures ∙ c.more-test.true) c.in_ok-next.ensures c.in_ok-push.ensures.items

pub statements-returns : goal.statements-returns
statements-returns m c = rw c.shrink_to_fit.ensures.items (stmts_end _ _ _ _ c.more.invariant (sym c.starts-in-more.ensures ∙ c.more-test.false))
