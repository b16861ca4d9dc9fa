use Rattle.std.proofs.Common.{◌≡◌, map, sym, ap, subst, ◌∙◌}
use Rattle.std.specs.Prelude.{IfOk}
use Rattle.script_types.specs.ProgramOf.{kept_program}
use Rattle.script_meaning.specs.Meaning.{Need}
use Rattle.script_meaning.specs.Removal.{said}
use Rattle.handler_run.specs.Runs.{meaning_of_run}
use Rattle.rollback_calls.specs.LastWords.{own_answers}
use Rattle.rollback_calls.proofs.LastWordsLemmas.{removal_run, said_in_the_end, silent_for_want, answered_more, asked_one_more, fewer_left}
use Rattle.rollback_calls.proofs.parting.last_words.Goals as goal

pub returns-in-Done : goal.returns-in-Done
returns-in-Done g c =
    let ran = removal_run (kept_program c.args.codes.now) c.args.block c.args.entity c.asking.known _ _ _ c.in_ok-arguments.ensures c.nothing_before-nothing.ensures (ap meaning_of_run (sym c.in-Done.is) ∙ c.in_ok-outcome.ensures) in
    subst (λ lines. IfOk c.texts_by.result (λ texts. map (said c.args.entity) texts.items ≡ lines))
    (said_in_the_end (own_answers (g.F.OwnFields.field_of c.args.fields.now)) (kept_program c.args.codes.now) c.args.block c.args.entity c.asking.known _ (sym c.has_script.ensures ∙ c.if-not-has_script.false) c.asking.invariant.answered ran) c.texts_by.ensures

pub returns-in-None : goal.returns-in-None
returns-in-None g c =
    let ran = removal_run (kept_program c.args.codes.now) c.args.block c.args.entity c.asking.known _ _ (Need c.in-Need.key) c.in_ok-arguments.ensures c.nothing_before-nothing.ensures (ap meaning_of_run (sym c.in-Need.is) ∙ c.in_ok-outcome.ensures) in
    ap (map (said c.args.entity)) c.new-in-None.ensures.items
    ∙ silent_for_want (own_answers (g.F.OwnFields.field_of c.args.fields.now)) (kept_program c.args.codes.now) c.args.block c.args.entity c.asking.known c.in-Need.key (sym c.has_script.ensures ∙ c.if-not-has_script.false) c.asking.invariant.answered ran (sym c.in-None.is ∙ c.in_ok-seen-in-Need.ensures)

pub asking-preserved : goal.asking-preserved
asking-preserved g c =
    let ran = removal_run (kept_program c.args.codes.now) c.args.block c.args.entity c.asking.known _ _ (Need c.in-Need.key) c.in_ok-arguments.ensures c.nothing_before-nothing.ensures (ap meaning_of_run (sym c.in-Need.is) ∙ c.in_ok-outcome.ensures) in
    record {
      answered = answered_more (own_answers (g.F.OwnFields.field_of c.args.fields.now)) c.asking.known c.push.new.self c.in-Need.key c.in-Some.seen c.asking.invariant.answered (sym c.in-Some.is ∙ c.in_ok-seen-in-Need.ensures) c.in_ok-push-in-Some.ensures.ok;
      asked = asked_one_more (kept_program c.args.codes.now) c.args.block c.args.entity c.asking.known c.push.new.self c.in-Need.key c.in-Some.seen c.asking.invariant.asked ran c.in_ok-push-in-Some.ensures.ok;
    }

pub asking-smaller : goal.asking-smaller
asking-smaller g c =
    let ran = removal_run (kept_program c.args.codes.now) c.args.block c.args.entity c.asking.known _ _ (Need c.in-Need.key) c.in_ok-arguments.ensures c.nothing_before-nothing.ensures (ap meaning_of_run (sym c.in-Need.is) ∙ c.in_ok-outcome.ensures) in
    fewer_left c.args.codes.now c.args.block c.args.entity c.asking.known c.push.new.self c.in-Need.key c.in-Some.seen c.requires (sym c.has_script.ensures ∙ c.if-not-has_script.false) c.asking.invariant.asked ran c.in_ok-push-in-Some.ensures.ok
