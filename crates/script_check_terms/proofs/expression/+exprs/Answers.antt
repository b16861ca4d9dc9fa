use Rattle.std.proofs.Common.{◌≡◌, ◌+◌, ℕ, false, take, Ok, Err, Result, sym, subst, ap, ◌∙◌, refl}
use Rattle.std.proofs.lemmas.Result.{err_from_is_err_and}
use Rattle.std.proofs.lemmas.List.{take_all}
use Rattle.script_tree.specs.Tree.{Expression, tree_of, joined, binary_of}
use Rattle.script_tree.proofs.Rows.{chain_tree}
use Rattle.script_types.specs.Elaboration.{expression_of}
use Rattle.script_check_terms.specs.Answers.{Gives, Refuses}
use Rattle.script_check_terms.specs.Links.{Makes, GivesEnded}
use Rattle.script_check_terms.specs.SettingOf.{setting_of}
use Rattle.script_check_terms.specs.TypedTerms.{typed_of}
use Rattle.script_check_terms.proofs.ChainLemmas.{refuses_then, refuses_on}
use Rattle.script_check_terms.proofs.Depths.{links_fall}
use Rattle.script_check_terms.proofs.LinkLemmas.{left_unfit, right_refused, fits_left, passed, start_is, step_gives, step_end, link_refuses, makes_next}
use Rattle.script_check_terms.proofs.expression.+exprs.Goals as goal

pub check_pair-returns-in_err-check_expression-clause-made : goal.check_pair-returns-in_err-check_expression-clause-made
check_pair-returns-in_err-check_expression-clause-made t c =
    let p = err_from_is_err_and c.from_residual.result c.from_residual.ensures.1 in
    rw (p.1, p.2) (refuses_then _ _ _ c.in_err-check_expression.ensures.made)

pub check_pair-returns-in_err-check_test-clause-made : goal.check_pair-returns-in_err-check_test-clause-made
check_pair-returns-in_err-check_test-clause-made t c =
    let p = err_from_is_err_and c.from_residual-in_err-check_test.result c.from_residual-in_err-check_test.ensures.1 in
    rw (p.1, p.2) (left_unfit (setting_of c.args.setting.now) c.args.scope.now c.args.at c.args.first.now.1 (tree_of c.args.first.now.0) (tree_of c.args.first.now.2) _ _ _ c.in_ok-check_expression.ensures.made (fits_left c.rule_of.result c.args.first.now.1 c.operand.result c.side_of-one.result c.in_ok-check_expression.field-0 c.is_nothing.result c.left_fits.result (tree_of c.args.first.now.0) c.left_fits.ensures c.rule_of.ensures c.operand.ensures c.side_of-one.ensures (sym c.is_nothing.ensures)) c.in_err-check_test.ensures)

pub check_pair-returns-in_err-check_expression-2-clause-made : goal.check_pair-returns-in_err-check_expression-2-clause-made
check_pair-returns-in_err-check_expression-2-clause-made t c =
    let p = err_from_is_err_and c.from_residual-in_err-check_expression-2.result c.from_residual-in_err-check_expression-2.ensures.1 in
    rw (p.1, p.2) (right_refused (setting_of c.args.setting.now) c.args.scope.now c.args.at c.in_ok-start.start c.args.first.now.1 (tree_of c.args.first.now.0) (tree_of c.args.first.now.2) _ _ c.in_ok-check_expression.ensures.made (sym (fits_left c.rule_of.result c.args.first.now.1 c.operand.result c.side_of-one.result c.in_ok-check_expression.field-0 c.is_nothing.result c.left_fits.result (tree_of c.args.first.now.0) c.left_fits.ensures c.rule_of.ensures c.operand.ensures c.side_of-one.ensures (sym c.is_nothing.ensures)) ∙ passed _ _ _ _ c.in_ok-check_test.ensures) (start_is c.args.at c.in_ok-start.start c.in_ok-check_expression.field-0.end (tree_of c.args.first.now.0) (c.in_ok-start.ensures.place ∙ ap (λ z. z.made.end + 1) c.side_of-one.ensures) c.in_ok-check_expression.ensures.end) c.in_err-check_expression-2.ensures.made)

pub check_pair-returns-clause-made : goal.check_pair-returns-clause-made
check_pair-returns-clause-made t c =
    step_gives (setting_of c.args.setting.now) c.args.scope.now c.args.at c.in_ok-start.start c.args.first.now.1 (tree_of c.args.first.now.0) (tree_of c.args.first.now.2) c.in_ok-check_expression.field-0 c.in_ok-check_expression-2.field-0 c.is_nothing.result c.is_nothing-2.result c.side_of-one.result c.side_of-other.result c.check_joined.result c.check_joined.ensures.made c.side_of-one.ensures c.side_of-other.ensures (sym c.is_nothing.ensures) (sym c.is_nothing-2.ensures) c.in_ok-check_expression.ensures.made (sym (fits_left c.rule_of.result c.args.first.now.1 c.operand.result c.side_of-one.result c.in_ok-check_expression.field-0 c.is_nothing.result c.left_fits.result (tree_of c.args.first.now.0) c.left_fits.ensures c.rule_of.ensures c.operand.ensures c.side_of-one.ensures (sym c.is_nothing.ensures)) ∙ passed _ _ _ _ c.in_ok-check_test.ensures) (start_is c.args.at c.in_ok-start.start c.in_ok-check_expression.field-0.end (tree_of c.args.first.now.0) (c.in_ok-start.ensures.place ∙ ap (λ z. z.made.end + 1) c.side_of-one.ensures) c.in_ok-check_expression.ensures.end) c.in_ok-check_expression-2.ensures.made

pub check_links-returns-in_err-check_test : goal.check_links-returns-in_err-check_test
check_links-returns-in_err-check_test t c =
    let p = err_from_is_err_and c.from_residual.result c.from_residual.ensures.1 in
    rw (p.1, p.2) (λ x h.
    let m = c.links.invariant x h in (
      link_refuses (setting_of c.args.setting.now) c.args.scope.now c.args.at x c.args.links.now c.links.op-index c.links-item.result _ c.links-test.true c.links-item.is
          (left_unfit (setting_of c.args.setting.now) c.args.scope.now c.args.at c.links-item.result.0 (joined x (take c.links.op-index c.args.links.now)) (tree_of c.links-item.result.1) _ _ _ m.made (fits_left c.rule_of.result c.links-item.result.0 c.operand.result c.side_of-one.result c.links.left false c.left_fits.result (joined x (take c.links.op-index c.args.links.now)) c.left_fits.ensures c.rule_of.ensures c.operand.ensures c.side_of-one.ensures m.something) c.in_err-check_test.ensures),
      tt,
    ))

pub check_links-returns-in_err-check_expression : goal.check_links-returns-in_err-check_expression
check_links-returns-in_err-check_expression t c =
    let p = err_from_is_err_and c.from_residual-in_err-check_expression.result c.from_residual-in_err-check_expression.ensures.1 in
    rw (p.1, p.2) (λ x h.
    let m = c.links.invariant x h in (
      link_refuses (setting_of c.args.setting.now) c.args.scope.now c.args.at x c.args.links.now c.links.op-index c.links-item.result _ c.links-test.true c.links-item.is
          (right_refused (setting_of c.args.setting.now) c.args.scope.now c.args.at c.in_ok-start.start c.links-item.result.0 (joined x (take c.links.op-index c.args.links.now)) (tree_of c.links-item.result.1) _ _ m.made (sym (fits_left c.rule_of.result c.links-item.result.0 c.operand.result c.side_of-one.result c.links.left false c.left_fits.result (joined x (take c.links.op-index c.args.links.now)) c.left_fits.ensures c.rule_of.ensures c.operand.ensures c.side_of-one.ensures m.something) ∙ passed _ _ _ _ c.in_ok-check_test.ensures) (start_is c.args.at c.in_ok-start.start c.links.left.end (joined x (take c.links.op-index c.args.links.now)) (c.in_ok-start.ensures.place ∙ ap (λ z. z.made.end + 1) c.side_of-one.ensures) m.end) c.in_err-check_expression.ensures.made),
      tt,
    ))

pub check_links-returns-in_err-left : goal.check_links-returns-in_err-left
check_links-returns-in_err-left t c =
    let p = err_from_is_err_and c.from_residual-in_err-left.result c.from_residual-in_err-left.ensures.1 in
    rw (p.1, p.2) (λ x h.
    let m = c.links.invariant x h in (
      link_refuses (setting_of c.args.setting.now) c.args.scope.now c.args.at x c.args.links.now c.links.op-index c.links-item.result _ c.links-test.true c.links-item.is
          (step_gives (setting_of c.args.setting.now) c.args.scope.now c.args.at c.in_ok-start.start c.links-item.result.0 (joined x (take c.links.op-index c.args.links.now)) (tree_of c.links-item.result.1) c.links.left c.in_ok-check_expression.field-0 false c.is_nothing.result c.side_of-one.result c.side_of-other.result (Err c.in_err-left.field-0.0) c.in_err-left.ensures.made c.side_of-one.ensures c.side_of-other.ensures m.something (sym c.is_nothing.ensures) m.made (sym (fits_left c.rule_of.result c.links-item.result.0 c.operand.result c.side_of-one.result c.links.left false c.left_fits.result (joined x (take c.links.op-index c.args.links.now)) c.left_fits.ensures c.rule_of.ensures c.operand.ensures c.side_of-one.ensures m.something) ∙ passed _ _ _ _ c.in_ok-check_test.ensures) (start_is c.args.at c.in_ok-start.start c.links.left.end (joined x (take c.links.op-index c.args.links.now)) (c.in_ok-start.ensures.place ∙ ap (λ z. z.made.end + 1) c.side_of-one.ensures) m.end) c.in_ok-check_expression.ensures.made),
      tt,
    ))

pub check_links-links-init : goal.check_links-links-init
check_links-links-init t c =
    λ x h. h

pub check_links-links-preserved : goal.check_links-links-preserved
check_links-links-preserved t c =
    λ x h.
    let m = c.links.invariant x h in
    makes_next (setting_of c.args.setting.now) c.args.scope.now c.args.at x c.args.links.now c.links.op-index c.links-item.result c.in_ok-left.left c.links-test.true c.links-item.is
    (step_gives (setting_of c.args.setting.now) c.args.scope.now c.args.at c.in_ok-start.start c.links-item.result.0 (joined x (take c.links.op-index c.args.links.now)) (tree_of c.links-item.result.1) c.links.left c.in_ok-check_expression.field-0 false c.is_nothing.result c.side_of-one.result c.side_of-other.result (Ok c.in_ok-left.left) c.in_ok-left.ensures.made c.side_of-one.ensures c.side_of-other.ensures m.something (sym c.is_nothing.ensures) m.made (sym (fits_left c.rule_of.result c.links-item.result.0 c.operand.result c.side_of-one.result c.links.left false c.left_fits.result (joined x (take c.links.op-index c.args.links.now)) c.left_fits.ensures c.rule_of.ensures c.operand.ensures c.side_of-one.ensures m.something) ∙ passed _ _ _ _ c.in_ok-check_test.ensures) (start_is c.args.at c.in_ok-start.start c.links.left.end (joined x (take c.links.op-index c.args.links.now)) (c.in_ok-start.ensures.place ∙ ap (λ z. z.made.end + 1) c.side_of-one.ensures) m.end) c.in_ok-check_expression.ensures.made)
    (step_end c.args.at c.in_ok-start.start c.in_ok-left.left.end c.links-item.result.0 (joined x (take c.links.op-index c.args.links.now)) (tree_of c.links-item.result.1) (start_is c.args.at c.in_ok-start.start c.links.left.end (joined x (take c.links.op-index c.args.links.now)) (c.in_ok-start.ensures.place ∙ ap (λ z. z.made.end + 1) c.side_of-one.ensures) m.end) (c.in_ok-left.ensures.end ∙ ap (λ z. z.made.end) c.side_of-other.ensures ∙ c.in_ok-check_expression.ensures.end))

pub check_links-returns : goal.check_links-returns
check_links-returns t c =
    λ x h.
    let m = c.links.invariant x h in
    subst (GivesEnded (Ok c.links.left) (setting_of c.args.setting.now) c.args.scope.now c.args.at) (ap (joined x) (take_all c.links.op-index c.args.links.now c.links-test.false)) (m.made, m.end)

pub check_expression-returns-in_err-left-in-Chain-clause-made : goal.check_expression-returns-in_err-left-in-Chain-clause-made
check_expression-returns-in_err-left-in-Chain-clause-made t c =
    let p = err_from_is_err_and c.from_residual-in_err-left-in-Chain.result c.from_residual-in_err-left-in-Chain.ensures.1 in
    rw (p.1, p.2) (subst (λ z. Refuses (expression_of (setting_of c.args.setting.now) c.args.scope.now c.args.at z) c.in_err-left-in-Chain.field-0.0) (sym (ap tree_of c.in-Chain.is ∙ chain_tree c.in-Chain.first c.in-Chain.more)) (refuses_on (setting_of c.args.setting.now) c.args.scope.now c.args.at (binary_of c.in-Chain.first.value) c.in-Chain.more.items _ (rw c.deref-in-Chain.ensures at c.in_err-left-in-Chain.ensures.made)))

pub check_expression-returns-in_ok-left-in-Chain-clause-made : goal.check_expression-returns-in_ok-left-in-Chain-clause-made
check_expression-returns-in_ok-left-in-Chain-clause-made t c =
    (let all = c.check_links.ensures (binary_of c.in-Chain.first.value) (record { something = refl; made = rw c.deref-in-Chain.ensures at c.in_ok-left-in-Chain.ensures.made; end = rw c.deref-in-Chain.ensures at c.in_ok-left-in-Chain.ensures.end }) in subst (GivesEnded c.check_links.result (setting_of c.args.setting.now) c.args.scope.now c.args.at) (sym (ap tree_of c.in-Chain.is ∙ chain_tree c.in-Chain.first c.in-Chain.more)) (rw c.deref-in-Chain-2.ensures.value at all)).0

pub check_expression-returns-in_ok-left-in-Chain-clause-end : goal.check_expression-returns-in_ok-left-in-Chain-clause-end
check_expression-returns-in_ok-left-in-Chain-clause-end t c =
    (let all = c.check_links.ensures (binary_of c.in-Chain.first.value) (record { something = refl; made = rw c.deref-in-Chain.ensures at c.in_ok-left-in-Chain.ensures.made; end = rw c.deref-in-Chain.ensures at c.in_ok-left-in-Chain.ensures.end }) in subst (GivesEnded c.check_links.result (setting_of c.args.setting.now) c.args.scope.now c.args.at) (sym (ap tree_of c.in-Chain.is ∙ chain_tree c.in-Chain.first c.in-Chain.more)) (rw c.deref-in-Chain-2.ensures.value at all)).1

pub check_expression-check_links-requires : goal.check_expression-check_links-requires
check_expression-check_links-requires t c =
    (links_fall c.args.x.now c.in-Chain.first c.in-Chain.more c.deref-in-Chain-2.result.now t c.decreases c.in-Chain.is c.deref-in-Chain-2.ensures.value, tt)
