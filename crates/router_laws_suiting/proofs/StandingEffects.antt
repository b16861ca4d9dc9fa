-- The effects that stand of a delivery are those of one of its scripts, which gave something, or none.
use Rattle.std.proofs.Common.{◌≡◌, Bool, true, false, ℕ, List, [], Option, Some, None, refl, sym, ap, ◌∙◌, inl, inr}
use Rattle.std.specs.Prelude.{cond, codes, ◌⊎◌}
use Rattle.slee_value.specs.declared.ids.ActivityId.{ActivityId}
use Rattle.slee_value.specs.declared.ids.EntityId.{EntityId}
use Rattle.slee_value.specs.declared.value.Value.{Value}
use Rattle.slee_effect.specs.declared.effect.Effect.{Effect}
use Rattle.script_types.specs.Program.{BlockProgram, Program, Steps}
use Rattle.script_meaning.specs.Answers.{Answers}
use Rattle.script_meaning.specs.Calls.{call_at}
use Rattle.script_meaning.specs.Delivery.{Complete, Delivered, Delivery, behind, called_back, callback_args, delivered_by, fine_effects, handler_of, on_failure, outcome_of, reported, run_callback, standing}
use Rattle.script_meaning.specs.Meaning.{Before, Done, Meaning, Need, Report, Unchecked, meaning_in, nothing_before, report, report_of, script_in, setting_of, start}
use Rattle.script_meaning.specs.Running.{Broke, Ending, Gave, Needs, Stays}
use Rattle.script_meaning.specs.Running as running
use Rattle.script_meaning.specs.Steps.{Flow, act_all}
use Rattle.script_meaning.specs.declared.outcome.Args.{Args}
use Rattle.script_meaning.specs.declared.outcome.Outcome.{Outcome}
use Rattle.script_meaning.specs.declared.outcome.Outcome.TheVariants as outcomes
use Rattle.script_meaning.specs.declared.which.Part.{Part}
use Rattle.script_meaning.specs.declared.which.Part.TheVariants as part
use Rattle.script_laws.proofs.SafeDeliveries.{handler_place}

-- what a script gives for an entity, with no effects before it
abbrev pub run_of : Answers → Program → BlockProgram → EntityId → Args → Steps → Ending Flow
run_of answers program block e arguments steps = act_all (setting_of answers block e arguments nothing_before) (call_at (setting_of answers block e arguments nothing_before) program 8) steps start

-- what the handler of an event on an activity is given
abbrev pub handler_args : ActivityId → List (List ℕ × Value) → Args
handler_args a fields = record { activity = a; fields = fields; failure = [] }

-- what a callback means, which is told the text of a failure
abbrev pub callback_of : Answers → Program → BlockProgram → EntityId → ActivityId → List ℕ → Steps → Before → Meaning
callback_of answers program block e a failure steps before = meaning_in answers program block steps e (callback_args a failure) before

-- Effects of one script of a delivery, which gave something: the handler, or a callback that is told the text of the handler's failure.
pub record Gives (answers : Answers) (program : Program) (block : BlockProgram) (first : Steps) (e : EntityId) (a : ActivityId) (fields : List (List ℕ × Value)) (es : List Effect) : Type 0 where
  pub which : Part
  pub steps : Steps
  pub script : script_in block which ≡ Some steps
  pub arguments : Args
  pub acting : arguments.activity ≡ a
  pub told : (arguments.fields ≡ fields) ⊎ (arguments.fields ≡ [])
  pub failure : (arguments.failure ≡ []) ⊎ ((handler : Report) × (meaning_in answers program block first e (handler_args a fields) nothing_before ≡ Done handler) × (arguments.failure ≡ handler.failure))
  pub flow : Flow
  pub end : running.State
  pub gave : run_of answers program block e arguments steps ≡ Gave flow end
  pub same : es ≡ end.effects

-- a script whose report is fine gave something
fine_run : (answers : Answers) (program : Program) (block : BlockProgram) (steps : Steps) (e : EntityId) (arguments : Args) (one : Report) → meaning_in answers program block steps e arguments nothing_before ≡ Done one → one.outcome ≡ outcomes.Fine
    → (flow : Flow) × (su : running.State) × (run_of answers program block e arguments steps ≡ Gave flow su) × (one.effects ≡ su.effects)
unfolding meaning_in
fine_run answers program block steps e arguments one is fine = by (run_of answers program block e arguments steps) refl is
  where
    done_same : (x y : Report) → Done x ≡ Done y → x ≡ y
    done_same x y same = cc

    asked : (b : Bool) (flow : Flow) (st : running.State) → run_of answers program block e arguments steps ≡ Gave flow st → cond b (report_of outcomes.Asked (codes "asked") st) (report_of outcomes.Fine [] st) ≡ Done one
        → (flow : Flow) × (su : running.State) × (run_of answers program block e arguments steps ≡ Gave flow su) × (one.effects ≡ su.effects)
    asked true flow st gave same = absurd (asked_fine (ap (λ (r : Report). r.outcome) (done_same _ one same) ∙ fine))
      where
        asked_fine : outcomes.Asked ≡ outcomes.Fine → ⊥
        asked_fine wrong = absurd (cc)
    asked false flow st gave same = (flow, st, gave, ap (λ (r : Report). r.effects) (sym (done_same _ one same)))

    by : (r : Ending Flow) → run_of answers program block e arguments steps ≡ r → report r ≡ Done one → (flow : Flow) × (su : running.State) × (run_of answers program block e arguments steps ≡ Gave flow su) × (one.effects ≡ su.effects)
    by (Gave flow st) gave same = asked st.asked flow st gave same
    by (Broke kind text st) gave same = absurd (broken (ap (λ (r : Report). r.outcome) (done_same _ one same) ∙ fine))
      where
        broken : outcomes.Broken kind ≡ outcomes.Fine → ⊥
        broken wrong = absurd (cc)
    by (Needs key) gave same = absurd (cc)
    by Stays gave same = absurd (cc)

-- a callback that came to an end wasn't there, or has a report
called : (run : Steps → Before → Meaning) (script : Option Steps) (before : Before) (g : Option Report → Delivery) (d : Delivered) → run_callback run script before g ≡ Complete d
    → ((g None ≡ Complete d) ⊎ ((steps : Steps) × (one : Report) × (script ≡ Some steps) × (run steps before ≡ Done one) × (g (Some one) ≡ Complete d)))
called run None before g d is = inl is
called run (Some steps) before g d is = by (run steps before) refl is
  where
    by : (m : Meaning) → run steps before ≡ m → reported m (λ one. g (Some one)) ≡ Complete d → ((g None ≡ Complete d) ⊎ ((own : Steps) × (one : Report) × (Some steps ≡ Some own) × (run own before ≡ Done one) × (g (Some one) ≡ Complete d)))
    by (Done one) done same = inr (steps, one, refl, done, same)
    by (Need key) done same = absurd (cc)
    by Unchecked done same = absurd (cc)

complete_same : (x y : Delivered) → Complete x ≡ Complete y → x ≡ y
complete_same x y same = cc

-- the effects that stand of a delivery are of one script, or there are none
pub standing_given : (answers : Answers) (program : Program) (block : BlockProgram) (event : List ℕ) (steps : Steps) (e : EntityId) (a : ActivityId) (fields : List (List ℕ × Value)) (d : Delivered) → handler_of event block ≡ Some steps → delivered_by answers program block steps e a fields ≡ Complete d
    → (d.effects ≡ []) ⊎ Gives answers program block steps e a fields d.effects
unfolding delivered_by
standing_given answers program block event steps e a fields d is done = by (meaning_in answers program block steps e (handler_args a fields) nothing_before) refl done
  where
    place : (n : ℕ) × (script_in block (part.On n) ≡ Some steps)
    place = handler_place event block.handlers steps is

    stands : (handler one : Report) (own : Steps) → meaning_in answers program block steps e (handler_args a fields) nothing_before ≡ Done handler → block.rolled_back ≡ Some own → meaning_in answers program block own e (callback_args a handler.failure) nothing_before ≡ Done one
        → (o : Outcome) → one.outcome ≡ o → d.effects ≡ fine_effects o one.effects → (d.effects ≡ []) ⊎ Gives answers program block steps e a fields d.effects
    stands handler one own first there ran outcomes.Fine fine same =
        let gave = fine_run answers program block own e (callback_args a handler.failure) one ran fine in
        inr (record {
          which = part.RolledBack;
          steps = own;
          script = there;
          arguments = callback_args a handler.failure;
          acting = refl;
          told = inr refl;
          failure = inr (handler, first, refl);
          flow = gave.0;
          end = gave.1;
          gave = gave.2;
          same = same ∙ gave.3;
        })
    stands handler one own first there ran outcomes.Asked fine same = inl same
    stands handler one own first there ran (outcomes.Broken kind) fine same = inl same

    rolled : (handler : Report) (exception : Option Report) → meaning_in answers program block steps e (handler_args a fields) nothing_before ≡ Done handler
        → run_callback (callback_of answers program block e a handler.failure) block.rolled_back nothing_before (λ rolled_back. Complete (record { outcome = handler.outcome; exception = outcome_of exception; rolled_back = outcome_of rolled_back; effects = standing rolled_back })) ≡ Complete d
        → (d.effects ≡ []) ⊎ Gives answers program block steps e a fields d.effects
    rolled handler exception first same = elim (called (callback_of answers program block e a handler.failure) block.rolled_back nothing_before _ d same) [
      | inl none ↦ inl (ap (λ (x : Delivered). x.effects) (sym (complete_same _ d none)))
      | inr ran ↦ stands handler ran.1 ran.0 first ran.2 ran.3 ran.1.outcome refl (ap (λ (x : Delivered). x.effects) (sym (complete_same _ d ran.4)))
    ]

    back : (handler : Report) → meaning_in answers program block steps e (handler_args a fields) nothing_before ≡ Done handler → called_back (callback_of answers program block e a handler.failure) block handler ≡ Complete d → (d.effects ≡ []) ⊎ Gives answers program block steps e a fields d.effects
    back handler first same = elim (called (callback_of answers program block e a handler.failure) (on_failure handler.outcome block.exception) (record { effects = handler.effects; keys = handler.keys }) _ d same) [
      | inl none ↦ rolled handler None first none
      | inr ran ↦ rolled handler (Some ran.1) first ran.4
    ]

    ended : (handler : Report) (o : Outcome) → meaning_in answers program block steps e (handler_args a fields) nothing_before ≡ Done handler → handler.outcome ≡ o → behind (callback_of answers program block e a) block handler o ≡ Complete d → (d.effects ≡ []) ⊎ Gives answers program block steps e a fields d.effects
    ended handler outcomes.Fine first fine same =
        let gave = fine_run answers program block steps e (handler_args a fields) handler first fine in
        inr (record {
          which = part.On place.0;
          steps = steps;
          script = place.1;
          arguments = handler_args a fields;
          acting = refl;
          told = inl refl;
          failure = inl refl;
          flow = gave.0;
          end = gave.1;
          gave = gave.2;
          same = ap (λ (x : Delivered). x.effects) (sym (complete_same _ d same)) ∙ gave.3;
        })
    ended handler outcomes.Asked first fine same = back handler first same
    ended handler (outcomes.Broken kind) first fine same = back handler first same

    by : (m : Meaning) → meaning_in answers program block steps e (handler_args a fields) nothing_before ≡ m → reported m (λ handler. behind (callback_of answers program block e a) block handler handler.outcome) ≡ Complete d → (d.effects ≡ []) ⊎ Gives answers program block steps e a fields d.effects
    by (Done handler) first same = ended handler handler.outcome first refl same
    by (Need key) first same = absurd (cc)
    by Unchecked first same = absurd (cc)
