-- where one test fails, the rows are none of a well-formed state
use Rattle.std.proofs.Common.{sym, ◌∙◌}
use Rattle.deploy_model.specs.Resolving.{deployed_of}
use Rattle.snapshot_check.proofs.WellLemmas.{all_but_closed, counts_unfit, entities_lower, not_different, not_fit, not_in_order, orders_are}
use Rattle.snapshot_check.proofs.well.is_well.Goals as goal

pub returns-then-not-are_counts : goal.returns-then-not-are_counts
returns-then-not-are_counts c = λ p. counts_unfit (deployed_of c.args.deployment.now.parts) p c.args.rows.now (sym c.are_counts.ensures ∙ c.if-not-are_counts.true)

pub returns-then-not-are_in_order : goal.returns-then-not-are_in_order
returns-then-not-are_in_order c = λ p. not_in_order (deployed_of c.args.deployment.now.parts) p c.args.rows.now (sym c.are_counts.ensures ∙ c.if-not-are_counts.false) (sym c.are_in_order.ensures ∙ c.if-not-are_in_order.true)

pub are_fit-requires : goal.are_fit-requires
are_fit-requires c = orders_are c.args.rows.now (sym c.are_in_order.ensures ∙ c.if-not-are_in_order.false)

pub returns-then-not-are_fit : goal.returns-then-not-are_fit
returns-then-not-are_fit c =
    λ p. not_fit (deployed_of c.args.deployment.now.parts) p c.args.rows.now (sym c.are_counts.ensures ∙ c.if-not-are_counts.false) (sym c.are_in_order.ensures ∙ c.if-not-are_in_order.false) (sym c.are_fit.ensures ∙ c.if-not-are_fit.true)

pub are_different-requires-clause-order : goal.are_different-requires-clause-order
are_different-requires-clause-order c = orders_are c.args.rows.now (sym c.are_in_order.ensures ∙ c.if-not-are_in_order.false)

pub are_different-requires-clause-fits : goal.are_different-requires-clause-fits
are_different-requires-clause-fits c = sym c.are_fit.ensures ∙ c.if-not-are_fit.false

pub returns-then-not-different : goal.returns-then-not-different
returns-then-not-different c =
    λ p. not_different (deployed_of c.args.deployment.now.parts) p c.args.rows.now (sym c.are_counts.ensures ∙ c.if-not-are_counts.false) (sym c.are_in_order.ensures ∙ c.if-not-are_in_order.false) (sym c.are_fit.ensures ∙ c.if-not-are_fit.false)
    (sym c.in_ok-different.ensures ∙ c.if-not-different.true)

pub are_closed-requires-clause-order : goal.are_closed-requires-clause-order
are_closed-requires-clause-order c = orders_are c.args.rows.now (sym c.are_in_order.ensures ∙ c.if-not-are_in_order.false)

pub are_closed-requires-clause-lower : goal.are_closed-requires-clause-lower
are_closed-requires-clause-lower c = entities_lower (deployed_of c.args.deployment.now.parts) c.args.rows.now (sym c.are_fit.ensures ∙ c.if-not-are_fit.false)

pub returns : goal.returns
returns c =
    λ p. c.in_ok-closed.ensures
    ∙ all_but_closed (deployed_of c.args.deployment.now.parts) p c.args.rows.now (sym c.are_counts.ensures ∙ c.if-not-are_counts.false) (sym c.are_in_order.ensures ∙ c.if-not-are_in_order.false) (sym c.are_fit.ensures ∙ c.if-not-are_fit.false)
    (sym c.in_ok-different.ensures ∙ c.if-not-different.false)
