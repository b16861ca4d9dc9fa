use Rattle.std.proofs.Common.{◌∙◌, ap, ℕ, ◌∷◌, ◌++◌}
use Rattle.slee_value.specs.Bytes.{spelled_text, spelled_u64}
use Rattle.signal_script.specs.Signals.{spelled}
use Rattle.router_inputs.specs.Acting.{answer_in}
use Rattle.router_plans.proofs.BegunLemmas.{taking_told}
use Rattle.router_plans.proofs.taking.begin_taking.Goals as goal

pub returns : goal.returns
returns g c =
    taking_told (g.K.Base.state c.args.keys.now) c.args.signal.now (answer_in c.args.answer) c.new-draft.result c.tell.new.self c.take.new.draft _ c.in_ok-bytes.bytes.items
    c.requires.valid c.requires.answer c.new-draft.ensures.changes c.new-draft.ensures.lines c.in_ok-heading.ensures c.in_ok-tell.ensures.changes c.in_ok-tell.ensures.lines
    c.in_ok-take.ensures.state c.in_ok-take.ensures.lines c.in_ok-take.ensures.made
    (c.in_ok-bytes.ensures ∙ ap (λ (clock : ℕ). spelled_u64 clock ++ 1 ∷ spelled_text (spelled c.args.signal.now)) c.clock.ensures)
