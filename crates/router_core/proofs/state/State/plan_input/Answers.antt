use Rattle.std.proofs.Common.{sym, subst}
use Rattle.trace_history.specs.declared.choice.Choice.TheVariants as choices
use Rattle.router_draft.specs.Drafts.{IsLow}
use Rattle.router_core.proofs.NextLemmas.{goes_on}
use Rattle.router_core.proofs.state.State.plan_input.Goals as goal

pub close_plan-requires-clause-low : goal.close_plan-requires-clause-low
close_plan-requires-clause-low c = subst IsLow (sym c.basis-basis.ensures.state) (goes_on c.args.self.now.state (choices.Input c.args.signal) c.requires.enabled)
