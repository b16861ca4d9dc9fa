-- The values of the effects that stand of a delivery have spellings.
use Rattle.std.proofs.Common.{◌≡◌, Bool, true, false, ℕ, zero, suc, List, [], ◌∷◌, Some, refl, sym, subst, inl, inr, arith}
use Rattle.std.specs.Prelude.{codes, cond, slice_get, ◌⊎◌}
use Rattle.std.specs.List.{AllByRecursion, list_all}
use Rattle.slee_value.specs.declared.ids.EntityId.{EntityId}
use Rattle.slee_value.specs.declared.value.Value.{Value}
use Rattle.slee_effect.specs.declared.value.Val.TheVariants.{Plain}
use Rattle.script_types.specs.Program.{BlockProgram, HandlerProgram, Program, Steps}
use Rattle.script_meaning.specs.Delivery.{Delivered}
use Rattle.script_meaning.specs.Meaning.{Done, Report, meaning_in, nothing_before, report, report_of, script_in, setting_of, steps_of_handler}
use Rattle.script_meaning.specs.Running.{Broke, Ending, Gave, Needs, Stays}
use Rattle.script_meaning.specs.Running as running
use Rattle.script_meaning.specs.Steps.{Flow}
use Rattle.script_meaning.specs.declared.outcome.Args.{Args}
use Rattle.script_meaning.specs.declared.outcome.Outcome.TheVariants as outcomes
use Rattle.script_meaning.specs.declared.which.Part.{Part}
use Rattle.script_meaning.specs.declared.which.Part.TheVariants as part
use Rattle.router_laws_suiting.proofs.Deliveries.{IsHead, handler_ran}
use Rattle.router_laws_suiting.proofs.StandingEffects.{handler_args, run_of, standing_given}
use Rattle.router_laws_suiting.proofs.ToldByStates.{told_spelled, values_spelled}
use Rattle.router_laws_suiting.specs.Declared.{AreSpelled, BlockSpelled, ScriptSpelled}
use Rattle.router_laws_suiting.specs.Known.{IsSmall}
use Rattle.router_laws_values.proofs.SpelledSteps.{run_begins, run_fails}
use Rattle.router_laws_values.proofs.Texts.{empty_text, word_text}
use Rattle.router_laws_values.specs.Spelled.{EffectSpelled, IsSpelled, SettingSpelled, StepsSpelled}
use Rattle.router_state.specs.Fits.{is_text, is_value}
use Rattle.router_state.specs.State.{State}
use Rattle.router_state.specs.Well.{IsSound}
use Rattle.router_state.specs.declared.rows.Entity.{Entity}
use Rattle.router_state.specs.declared.rows.Event.{Event}
use Rattle.router_steps.specs.Scripts.{answers_in, delivered_in}

some_same : {A : Type 0} (x y : A) → Some x ≡ Some y → x ≡ y
some_same x y same = cc

-- the constants of each script

block_at : (program : Program) (n : ℕ) (block : BlockProgram) → AllByRecursion BlockSpelled program → slice_get program n ≡ Some block → BlockSpelled block
block_at [] n block all is = absurd (cc)
block_at (b ∷ program) zero block all is = subst BlockSpelled (some_same b block is) all.0
block_at (b ∷ program) (suc n) block all is = block_at program n block all.1 is

handler_at : (handlers : List HandlerProgram) (place : ℕ) (steps : Steps) → AllByRecursion (λ (h : HandlerProgram). StepsSpelled h.steps) handlers → steps_of_handler (slice_get handlers place) ≡ Some steps → StepsSpelled steps
handler_at [] place steps all is = absurd (cc)
handler_at (h ∷ handlers) zero steps all is = subst StepsSpelled (some_same h.steps steps is) all.0
handler_at (h ∷ handlers) (suc place) steps all is = handler_at handlers place steps all.1 is

script_spelled : (block : BlockProgram) (which : Part) (steps : Steps) → BlockSpelled block → script_in block which ≡ Some steps → StepsSpelled steps
script_spelled block (part.On place) steps all is = handler_at block.handlers place steps all.0 is
script_spelled block part.Exception steps all is = subst ScriptSpelled is all.1
script_spelled block part.RolledBack steps all is = subst ScriptSpelled is all.2
script_spelled block part.Remove steps all is = subst ScriptSpelled is all.3

module _ (s : State) (sound : IsSound s) (small : IsSmall s) (spelled : AreSpelled s.program) where
  -- all that a script of a delivery is told
  told : (block : BlockProgram) (e : EntityId) (arguments : Args) (fields : List (List ℕ × Value)) → list_all (λ (f : List ℕ × Value). is_value s.next_activity s.next_timer f.1) fields ≡ true → (arguments.fields ≡ fields) ⊎ (arguments.fields ≡ []) → is_text arguments.failure ≡ true
      → SettingSpelled (setting_of (answers_in s) block e arguments nothing_before)
  told block e arguments fields fit given failure = record {
    answers = told_spelled s sound small;
    fields = by given;
    failure = failure;
  }
    where
      by : (arguments.fields ≡ fields) ⊎ (arguments.fields ≡ []) → AllByRecursion (λ (f : List ℕ × Value). IsSpelled (Plain f.1)) arguments.fields
      by (inl same) = subst (AllByRecursion (λ (f : List ℕ × Value). IsSpelled (Plain f.1))) (sym same) (values_spelled s.next_activity s.next_timer fields fit)
      by (inr none) = subst (AllByRecursion (λ (f : List ℕ × Value). IsSpelled (Plain f.1))) (sym none) tt

  -- the text that a report tells of is a text
  report_text : (block : BlockProgram) (which : Part) (steps : Steps) (e : EntityId) (arguments : Args) (one : Report) (n : ℕ) → slice_get s.program n ≡ Some block → script_in block which ≡ Some steps → SettingSpelled (setting_of (answers_in s) block e arguments nothing_before)
      → meaning_in (answers_in s) s.program block steps e arguments nothing_before ≡ Done one → is_text one.failure ≡ true
  unfolding meaning_in
  report_text block which steps e arguments one n there script setting is = by (run_of (answers_in s) s.program block e arguments steps) refl is
    where
      done_same : (x y : Report) → Done x ≡ Done y → x ≡ y
      done_same x y same = cc

      own : StepsSpelled steps
      own = script_spelled block which steps (block_at s.program n block spelled.scripts there) script

      asked : (b : Bool) (st : running.State) → cond b (report_of outcomes.Asked (codes "asked") st) (report_of outcomes.Fine [] st) ≡ Done one → is_text one.failure ≡ true
      asked true st same = subst (λ (r : Report). is_text r.failure ≡ true) (done_same _ one same) (word_text (codes "asked") refl refl)
      asked false st same = subst (λ (r : Report). is_text r.failure ≡ true) (done_same _ one same) empty_text

      by : (r : Ending Flow) → run_of (answers_in s) s.program block e arguments steps ≡ r → report r ≡ Done one → is_text one.failure ≡ true
      by (Gave flow st) ran same = asked st.asked st same
      by (Broke kind text st) ran same = subst (λ (r : Report). is_text r.failure ≡ true) (done_same _ one same) (run_fails (setting_of (answers_in s) block e arguments nothing_before) s.program steps kind text st setting (omega arith) tt spelled.methods own ran)
      by (Needs key) ran same = absurd (cc)
      by Stays ran same = absurd (cc)

  -- so the effects that stand have spellings
  pub delivery_spelled : (a : ℕ) (v : Event) (row : Entity) (d : Delivered) → IsHead s a v → delivered_in s a v row ≡ Some d → AllByRecursion EffectSpelled d.effects
  delivery_spelled a v row d head is =
      let ran = handler_ran s a v row d is in
      elim (standing_given (answers_in s) s.program ran.block v.name ran.steps row.number (record { 0 = a }) v.fields d ran.handler ran.done) [
        | inl none ↦ subst (AllByRecursion EffectSpelled) (sym none) tt
        | inr gives ↦ subst (AllByRecursion EffectSpelled) (sym gives.same)
            (run_begins (setting_of (answers_in s) ran.block row.number gives.arguments nothing_before) s.program gives.steps gives.flow gives.end
            (told ran.block row.number gives.arguments v.fields head.fields gives.told (failure_text ran.block ran.there ran.steps ran.first gives.arguments gives.failure)) (omega arith) tt spelled.methods
            (script_spelled ran.block gives.which gives.steps (block_at s.program row.block ran.block spelled.scripts ran.there) gives.script) gives.gave)
      ]
    where
      failure_text : (block : BlockProgram) → slice_get s.program row.block ≡ Some block → (steps : Steps) → ((place : ℕ) × (script_in block (part.On place) ≡ Some steps)) → (arguments : Args)
          → ((arguments.failure ≡ []) ⊎ ((handler : Report) × (meaning_in (answers_in s) s.program block steps row.number (handler_args (record { 0 = a }) v.fields) nothing_before ≡ Done handler) × (arguments.failure ≡ handler.failure))) → is_text arguments.failure ≡ true
      failure_text block there steps first arguments (inl none) = subst (λ t. is_text t ≡ true) (sym none) empty_text
      failure_text block there steps first arguments (inr ran) = subst (λ t. is_text t ≡ true) (sym ran.2)
          (report_text block (part.On first.0) steps row.number (handler_args (record { 0 = a }) v.fields) ran.0 row.block there first.1 (told block row.number (handler_args (record { 0 = a }) v.fields) v.fields head.fields (inl refl) empty_text) ran.1)
