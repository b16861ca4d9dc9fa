use Rattle.std.proofs.Common.{◌∙◌}
use Rattle.signal_script.specs.Signals.{spelled}
use Rattle.router_plans.proofs.LineLemmas.{line_fits, line_behind}
use Rattle.router_plans.proofs.taking.payload.Goals as goal

pub write_taking-requires : goal.write_taking-requires
write_taking-requires c =
    line_fits c.args.signal.now c.line_in.result.now
    (c.line_in.ensures ∙ line_behind c.args.heading.now (spelled c.args.signal.now) c.requires.heading) c.requires.valid
