use Rattle.std.proofs.Common.{◌≡◌, sym, ap, subst, ◌∙◌}
use Rattle.std.specs.Prelude.{IfOk}
use Rattle.script_types.specs.ProgramOf.{kept_program}
use Rattle.script_meaning.specs.Answers.{kept}
use Rattle.script_meaning.specs.Meaning.{Report, Need, Done}
use Rattle.script_meaning.specs.Delivery.{Delivery}
use Rattle.handler_run.specs.Runs.{meaning_of_run}
use Rattle.rollback_calls.specs.Deliveries.{delivery_of}
use Rattle.rollback_calls.proofs.CallbackLemmas.{delivered_by_handler, within_limits}
use Rattle.rollback_calls.proofs.prepared.PreparedDelivery.run.Goals as goal

pub returns-in-Need : goal.returns-in-Need
returns-in-Need c =
    let d = c.args.self.now in
    delivered_by_handler (kept c.args.known.now) (kept_program c.args.codes.now) c.in_ok-which.which d.block d.entity d.arguments d.event _ (Need c.in-Need.key) c.requires.handled c.in_ok-which.ensures.block (rw c.as_bytes.ensures.bytes at c.in_ok-which.ensures.script) d.unfailed c.nothing_before-nothing.ensures (ap meaning_of_run (sym c.in-Need.is) ∙ c.in_ok-key.ensures)

pub finish-requires-clause-effects : goal.finish-requires-clause-effects
finish-requires-clause-effects c =
    let q : Report = record { outcome = c.in-Done.outcome; failure = c.in-Done.failure; effects = c.in-Done.effects; keys = c.in-Done.keys } in
    (within_limits c.args.codes.now (kept c.args.known.now) c.in_ok-which.which c.requires.handled.0 c.args.self.now.entity c.args.self.now.arguments _ q c.requires.checked ((rw c.as_bytes.ensures.bytes at c.in_ok-which.ensures.script) ∙ c.requires.handled.1) c.nothing_before-nothing.ensures (ap meaning_of_run (sym c.in-Done.is) ∙ c.in_ok-key.ensures)).0

pub finish-requires-clause-keys : goal.finish-requires-clause-keys
finish-requires-clause-keys c =
    let q : Report = record { outcome = c.in-Done.outcome; failure = c.in-Done.failure; effects = c.in-Done.effects; keys = c.in-Done.keys } in
    (within_limits c.args.codes.now (kept c.args.known.now) c.in_ok-which.which c.requires.handled.0 c.args.self.now.entity c.args.self.now.arguments _ q c.requires.checked ((rw c.as_bytes.ensures.bytes at c.in_ok-which.ensures.script) ∙ c.requires.handled.1) c.nothing_before-nothing.ensures (ap meaning_of_run (sym c.in-Done.is) ∙ c.in_ok-key.ensures)).1

pub returns : goal.returns
returns c =
    let d = c.args.self.now in
    let q : Report = record { outcome = c.in-Done.outcome; failure = c.in-Done.failure; effects = c.in-Done.effects; keys = c.in-Done.keys } in
    subst (λ (x : Delivery). IfOk c.finish.result (λ step. delivery_of step ≡ x))
    (delivered_by_handler (kept c.args.known.now) (kept_program c.args.codes.now) c.in_ok-which.which d.block d.entity d.arguments d.event _ (Done q) c.requires.handled c.in_ok-which.ensures.block (rw c.as_bytes.ensures.bytes at c.in_ok-which.ensures.script) d.unfailed c.nothing_before-nothing.ensures (ap meaning_of_run (sym c.in-Done.is) ∙ c.in_ok-key.ensures))
    c.finish.ensures
