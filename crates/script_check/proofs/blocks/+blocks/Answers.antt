use Rattle.std.proofs.Common.{◌≡◌, ◌+◌, IfOk, drop, take, sym, subst, ap, ◌∙◌}
use Rattle.script_tree.specs.Tree.{Statement, tree_of, statement_of, statements_of}
use Rattle.script_types.specs.Program as p
use Rattle.script_types.specs.ProgramOf.{step_of, steps_of}
use Rattle.script_types.specs.ElaborationOfStatements.{statement_made}
use Rattle.script_types.specs.TokenCounts.{tokens_in_statement, tokens_in_statements}
use Rattle.script_types.proofs.ProgramRows.{for_step}
use Rattle.script_check_terms.specs.SettingOf.{setting_of}
use Rattle.script_check_steps.specs.Made.{Makes}
use Rattle.script_check.proofs.BlockLemmas.{if_is, if_else_is, while_is, for_is, for_made, gives, cut_one, rest_step}
use Rattle.script_check.proofs.Tokens.{falls, rest_falls, rest_counts, tokens_from}
use Rattle.script_check.proofs.blocks.+blocks.Goals as goal

pub check_for-returns-clause-made : goal.check_for-returns-clause-made
check_for-returns-clause-made t c =
    let scope = c.args.scope.now in
    let steps = c.in_ok-inner.inner.steps in
    let made = c.in_ok-inner.ensures.made in
    let step = ap step_of c.new.ensures.step ∙ for_step c.in_ok-range.range steps in
    let back =
    c.truncate.ensures
    ∙ ap (λ n. take n c.check_block.new.scope) c.len-visible.ensures
    ∙ cut_one scope c.check_block.new.scope c.in_ok-range.ensures.one.0 (c.in_ok-inner.ensures.scope ∙ c.in_ok-range.ensures.one.1) in
    for_made (setting_of c.args.setting.now) scope _ made.0 c.args.at c.args.name.now c.args.over.now (statements_of c.args.body.now) c.in_ok-range.range (steps_of steps.items) (rw c.as_bytes.ensures.same at c.in_ok-check_new.ensures) c.in_ok-range.ensures.made made.1 c.in_ok-check_not_on_remove.ensures
    ∙ ap (λ z. gives z (p.For c.in_ok-range.range (steps_of steps.items))) (sym back)
    ∙ ap (gives c.truncate.new.self) (sym step)

pub check_statement-check_if-requires : goal.check_statement-check_if-requires
check_statement-check_if-requires t c = falls _ _ t c.args.at _ c.decreases (ap tokens_in_statement (if_is c.args.x.now c.in-If.x c.in-If.body c.deref-in-If.result.now c.in-If.is c.deref-in-If.ensures.value)) c.requires

pub check_statement-returns-in-If-clause-made : goal.check_statement-returns-in-If-clause-made
check_statement-returns-in-If-clause-made t c = subst (λ (y : Statement). Makes c.check_if.result c.check_if.new.scope (statement_made (setting_of c.args.setting.now) c.args.scope.now c.args.at y)) (sym (if_is c.args.x.now c.in-If.x c.in-If.body c.deref-in-If.result.now c.in-If.is c.deref-in-If.ensures.value)) c.check_if.ensures.made

pub check_statement-returns-in-If-clause-tokens : goal.check_statement-returns-in-If-clause-tokens
check_statement-returns-in-If-clause-tokens t c = subst (λ (y : Statement). IfOk c.check_if.result (λ r. r.tokens ≡ tokens_in_statement y)) (sym (if_is c.args.x.now c.in-If.x c.in-If.body c.deref-in-If.result.now c.in-If.is c.deref-in-If.ensures.value)) c.check_if.ensures.tokens

pub check_statement-check_if_else-requires : goal.check_statement-check_if_else-requires
check_statement-check_if_else-requires t c = falls _ _ t c.args.at _ c.decreases (ap tokens_in_statement (if_else_is c.args.x.now c.in-IfElse.x c.in-IfElse.body c.in-IfElse.other c.deref-in-IfElse.result.now c.deref-in-IfElse-2.result.now c.in-IfElse.is c.deref-in-IfElse.ensures.value c.deref-in-IfElse-2.ensures.value)) c.requires

pub check_statement-returns-in-IfElse-clause-made : goal.check_statement-returns-in-IfElse-clause-made
check_statement-returns-in-IfElse-clause-made t c = subst (λ (y : Statement). Makes c.check_if_else.result c.check_if_else.new.scope (statement_made (setting_of c.args.setting.now) c.args.scope.now c.args.at y)) (sym (if_else_is c.args.x.now c.in-IfElse.x c.in-IfElse.body c.in-IfElse.other c.deref-in-IfElse.result.now c.deref-in-IfElse-2.result.now c.in-IfElse.is c.deref-in-IfElse.ensures.value c.deref-in-IfElse-2.ensures.value)) c.check_if_else.ensures.made

pub check_statement-returns-in-IfElse-clause-tokens : goal.check_statement-returns-in-IfElse-clause-tokens
check_statement-returns-in-IfElse-clause-tokens t c = subst (λ (y : Statement). IfOk c.check_if_else.result (λ r. r.tokens ≡ tokens_in_statement y)) (sym (if_else_is c.args.x.now c.in-IfElse.x c.in-IfElse.body c.in-IfElse.other c.deref-in-IfElse.result.now c.deref-in-IfElse-2.result.now c.in-IfElse.is c.deref-in-IfElse.ensures.value c.deref-in-IfElse-2.ensures.value)) c.check_if_else.ensures.tokens

pub check_statement-check_while-requires : goal.check_statement-check_while-requires
check_statement-check_while-requires t c = falls _ _ t c.args.at _ c.decreases (ap tokens_in_statement (while_is c.args.x.now c.in-While.x c.in-While.body c.deref-in-While.result.now c.in-While.is c.deref-in-While.ensures.value)) c.requires

pub check_statement-returns-in-While-clause-made : goal.check_statement-returns-in-While-clause-made
check_statement-returns-in-While-clause-made t c = subst (λ (y : Statement). Makes c.check_while.result c.check_while.new.scope (statement_made (setting_of c.args.setting.now) c.args.scope.now c.args.at y)) (sym (while_is c.args.x.now c.in-While.x c.in-While.body c.deref-in-While.result.now c.in-While.is c.deref-in-While.ensures.value)) c.check_while.ensures.made

pub check_statement-returns-in-While-clause-tokens : goal.check_statement-returns-in-While-clause-tokens
check_statement-returns-in-While-clause-tokens t c = subst (λ (y : Statement). IfOk c.check_while.result (λ r. r.tokens ≡ tokens_in_statement y)) (sym (while_is c.args.x.now c.in-While.x c.in-While.body c.deref-in-While.result.now c.in-While.is c.deref-in-While.ensures.value)) c.check_while.ensures.tokens

pub check_statement-check_for-requires : goal.check_statement-check_for-requires
check_statement-check_for-requires t c = falls _ _ t c.args.at _ c.decreases (ap tokens_in_statement (for_is c.args.x.now c.in-For.name c.in-For.over c.in-For.body c.deref-in-For.result.now c.in-For.is c.deref-in-For.ensures.value)) c.requires

pub check_statement-returns-in-For-clause-made : goal.check_statement-returns-in-For-clause-made
check_statement-returns-in-For-clause-made t c = subst (λ (y : Statement). Makes c.check_for.result c.check_for.new.scope (statement_made (setting_of c.args.setting.now) c.args.scope.now c.args.at y)) (sym (for_is c.args.x.now c.in-For.name c.in-For.over c.in-For.body c.deref-in-For.result.now c.in-For.is c.deref-in-For.ensures.value)) c.check_for.ensures.made

pub check_statement-returns-in-For-clause-tokens : goal.check_statement-returns-in-For-clause-tokens
check_statement-returns-in-For-clause-tokens t c = subst (λ (y : Statement). IfOk c.check_for.result (λ r. r.tokens ≡ tokens_in_statement y)) (sym (for_is c.args.x.now c.in-For.name c.in-For.over c.in-For.body c.deref-in-For.result.now c.in-For.is c.deref-in-For.ensures.value)) c.check_for.ensures.tokens

pub check_statements-check_statement-requires : goal.check_statements-check_statement-requires
check_statements-check_statement-requires t c =
    rest_falls _ _ _ _ _ _ t _ c.decreases (tokens_from c.args.body.now c.rest.x-index c.x-item.result c.rest-test.true c.x-item.is) c.rest.invariant.1 c.rest.invariant.2 c.requires

pub check_statements-rest-preserved : goal.check_statements-rest-preserved
check_statements-rest-preserved t c =
    let counts = rest_counts _ _ _ _ _ _ _ (tokens_from c.args.body.now c.rest.x-index c.x-item.result c.rest-test.true c.x-item.is) c.in_ok-made.ensures.tokens c.rest.invariant.1 c.rest.invariant.2 in
    let made = rest_step (setting_of c.args.setting.now) c.rest.scope c.check_statement.new.scope c.rest.here c.args.body.now c.rest.x-index c.in_ok-made.made.tokens c.x-item.result c.in_ok-made.made.step c.rest.steps.items c.push.new.self.items _ c.rest-test.true c.x-item.is c.rest.invariant.0 c.in_ok-made.ensures.made c.in_ok-made.ensures.tokens c.in_ok-push.ensures.items in
    (made, counts.0, counts.1)
