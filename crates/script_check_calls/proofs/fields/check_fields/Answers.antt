use Rattle.std.proofs.Common.{[], ◌∷◌, ◌∙◌, sym, map, arith}
use Rattle.std.proofs.lemmas.List.{map-append}
use Rattle.std.proofs.lemmas.Result.{err_from_is_err_and}
use Rattle.script_types.specs.ProgramOf.{field_term_of}
use Rattle.script_check_terms.specs.SettingOf.{setting_of}
use Rattle.script_check_calls.proofs.FieldLemmas.{all_tokens, field_done, field_refused, given_next, tokens_behind, tokens_next}
use Rattle.script_check_calls.proofs.fields.check_fields.Goals as goal

pub returns-in_err-part-clause-made : goal.returns-in_err-part-clause-made
returns-in_err-part-clause-made c =
    let p = err_from_is_err_and c.from_residual-in_err-part.result c.from_residual-in_err-part.ensures.1 in
    rw (p.1, p.2) (field_refused (setting_of c.args.setting.now) c.args.scope.now c.args.declared.now c.fields.here c.args.fields.now c.fields.i c.index-fields-i.result (map field_term_of c.fields.terms.items) _ _ c.fields-test.true c.index-fields-i.is c.fields.invariant.made c.in_err-part.ensures.made)

pub fields-preserved : goal.fields-preserved
fields-preserved c =
    let fewer = tokens_next c.args.fields.now c.fields.i c.index-fields-i.result c.fields-test.true c.index-fields-i.is in
    let made = field_done (setting_of c.args.setting.now) c.args.scope.now c.args.declared.now c.fields.here c.args.fields.now c.fields.i c.index-fields-i.result (map field_term_of c.fields.terms.items) _ (field_term_of c.in_ok-part.part.made) c.fields-test.true c.index-fields-i.is c.fields.invariant.made c.in_ok-part.ensures.made in
    record {
      made = rw (c.in_ok-push.ensures.items, map-append field_term_of c.fields.terms.items (c.in_ok-part.part.made ∷ []), c.in_ok-part.ensures.tokens) made;
      given = given_next c.fields.given c.note.new.self c.args.fields.now c.fields.i c.index-fields-i.result c.fields-test.true c.index-fields-i.is c.fields.invariant.given (rw (← c.as_bytes.ensures.same) c.in_ok-note.ensures.noted);
      place = omega (arith, fewer, c.in_ok-part.ensures.tokens, c.fields.invariant.place);
    }

pub overflow_add-here : goal.overflow_add-here
overflow_add-here c =
    let next = tokens_next c.args.fields.now c.fields.i c.index-fields-i.result c.fields-test.true c.index-fields-i.is in
    let all = all_tokens c.args.fields.now c.fields.i c.fields-test.true in
    omega (arith, next, all, c.fields.invariant.place, c.requires)

pub overflow_add-here-in-fields : goal.overflow_add-here-in-fields
overflow_add-here-in-fields c =
    let next = tokens_next c.args.fields.now c.fields.i c.index-fields-i.result c.fields-test.true c.index-fields-i.is in
    let all = all_tokens c.args.fields.now c.fields.i c.fields-test.true in
    omega (arith, next, all, c.in_ok-part.ensures.tokens, c.fields.invariant.place, c.requires)

pub returns-clause-tokens : goal.returns-clause-tokens
returns-clause-tokens c = c.with_brackets.ensures ∙ sym (tokens_behind c.args.fields.now c.fields.i c.fields.here c.args.at (omega (arith, c.fields-test.false)) c.fields.invariant.place)
