-- Calls of methods, scripts and deliveries.
use Rattle.std.proofs.Common.{◌≡◌, inl, Bool, true, false, cond, ℕ, zero, suc, List, [], ◌∷◌, ◌++◌, map, Option, Some, None, refl, sym, ap, subst, append-nil}
use Rattle.std.specs.Prelude.{slice_get, codes}
use Rattle.std.specs.List.{AllByRecursion}
use Rattle.slee_value.specs.declared.ids.EntityId.{EntityId}
use Rattle.slee_value.specs.declared.kind.Kind.{Kind}
use Rattle.slee_effect.specs.declared.reference.Ref.{Ref}
use Rattle.slee_effect.specs.declared.reference.Ref.TheVariants.{Known}
use Rattle.slee_effect.specs.declared.value.Val.{Val}
use Rattle.slee_effect.specs.declared.effect.Effect.{Effect}
use Rattle.script_types.specs.Program.{Steps, BlockProgram, MethodProgram, Program}
use Rattle.script_meaning.specs.declared.outcome.Args.{Args}
use Rattle.script_meaning.specs.declared.outcome.Outcome.{Outcome}
use Rattle.script_meaning.specs.declared.outcome.Outcome.TheVariants as outcomes
use Rattle.script_meaning.specs.Answers.{Answers}
use Rattle.script_meaning.specs.Running.{Setting, Holds, State, Ending, Gave, Broke, Needs, Stays, Run, then_run, found, declare}
use Rattle.script_meaning.specs.Steps.{Flow, Next, Returned, act_all}
use Rattle.script_meaning.specs.Calls.{apart, result_of, keep_result, setting_in, call_at}
use Rattle.script_meaning.specs.Meaning.{Before, Report, Meaning, Done, setting_of, start, report_of, report, meaning_in}
use Rattle.script_laws.specs.References.{Reference, ToEntity, IsKnown, Refer}
use Rattle.script_laws.proofs.KnownSets.{longer_same, known_longer}
use Rattle.script_laws.proofs.KnownOverlaid.{ValueIs}
use Rattle.script_laws.proofs.KnownRuns.{Told, VariableIs, Sound, Gives, broke}
use Rattle.script_laws.proofs.KnownConstants.{OfSteps, OfBlock, OfProgram}
use Rattle.script_laws.proofs.KnownTerms.{initial_is}
use Rattle.script_laws.proofs.KnownDoing.{Does, Ever, variables_longer, does_then, after, declare_does}
use Rattle.script_laws.proofs.KnownSteps.{FlowIs, Always, CallsDo, act_all_does}

-- what is told in a setting is told in the same for a child
told_in : (known : Reference → Type 0) (m : Setting) (block : BlockProgram) (e : Ref) → Told known m → Told known (setting_in m block e)
told_in known m block e told = record { activity = told.activity; fields = told.fields; no_activity = told.no_activity; no_timer = told.no_timer; answers = told.answers }

held_variables : (known : Reference → Type 0) (es : List Effect) (xs : List Val) → AllByRecursion (ValueIs known es) xs → AllByRecursion (VariableIs known es) (map Holds xs)
held_variables known es [] h = tt
held_variables known es (x ∷ xs) h = (h.0, held_variables known es xs h.1)

module _ (known : Reference → Type 0) (m : Setting) where
  -- behind a method its caller's entity and variables are there again
  back : (block : BlockProgram) (e : Ref) (es : List Effect) (st : State) (r : Ending Flow) → Sound known m es st → Does known (setting_in m block e) es (FlowIs known) r → Does known m es (FlowIs known) (then_run r (λ x new. Gave x (record new { variables = st.variables })))
  back block e es st (Gave x new) sound h = (h.0, h.1, h.2, (h.3.0, h.3.1, known_longer known es h.0 (ToEntity m.me) h.1 sound.2, variables_longer known es h.0 st.variables h.1 sound.3))
  back block e es st (Broke kind text new) sound h = h
  back block e es st (Needs key) sound h = tt
  back block e es st Stays sound h = tt

  apart_does : (block : BlockProgram) (e : Ref) (xs : List Val) (run : Run Flow) (es : List Effect) (st : State) → IsKnown known es (ToEntity e) → AllByRecursion (ValueIs known es) xs → Always known (setting_in m block e) run → Sound known m es st → Does known m es (FlowIs known) (apart (map Holds xs) run st)
  apart_does block e xs run es st here are h sound = back block e es st (run (record st { variables = map Holds xs })) sound (h es (record st { variables = map Holds xs }) (sound.0, sound.1, here, held_variables known es xs are))

  module _ (told : Told known m) where
    result_gives : (es : List Effect) (flow : Flow) (kind : Option Kind) (st : State) → FlowIs known es flow → Sound known m es st → Gives known m es (ValueIs known es) (result_of flow kind st)
    result_gives es (Returned x) kind st h sound = (h, sound)
    result_gives es Next (Some kind) st h sound = (initial_is known m told es kind, sound)
    result_gives es Next None st h sound = tt

    keep_does : (keeps : Bool) (es : List Effect) (flow : Flow) (kind : Option Kind) (st : State) → FlowIs known es flow → Sound known m es st → Does known m es Ever (keep_result keeps flow kind st)
    keep_does false es flow kind st h sound = (es, longer_same es, tt, sound)
    keep_does true es flow kind st h sound = after known m (ValueIs known es) Ever es (result_of flow kind st) (λ x. declare (Holds x)) (result_gives es flow kind st h sound) (λ x new is kept. declare_does known m es (Holds x) new is kept)

some_same : {A : Type 0} (x y : A) → Some x ≡ Some y → x ≡ y
some_same x y h = cc

pub found_does : {A B : Type 0} (known : Reference → Type 0) (m : Setting) (P : List Effect → B → Type 0) (es : List Effect) (o : Option A) (g : A → Run B) (st : State) → ((x : A) → o ≡ Some x → Does known m es P (g x st)) → Does known m es P (then_run (found o st) g)
found_does known m P es None g st h = tt
found_does known m P es (Some x) g st h = h x refl

pub block_at : (known : Reference → Type 0) (program : Program) (b : ℕ) (block : BlockProgram) → OfProgram known program → slice_get program b ≡ Some block → OfBlock known block
block_at known [] b block h e = cc
block_at known (x ∷ program) zero block h e = subst (OfBlock known) (some_same x block e) h.0
block_at known (x ∷ program) (suc b) block h e = block_at known program b block h.1 e

method_at : (known : Reference → Type 0) (methods : List MethodProgram) (n : ℕ) (method : MethodProgram) → AllByRecursion (λ (x : MethodProgram). OfSteps known x.steps) methods → slice_get methods n ≡ Some method → OfSteps known method.steps
method_at known [] n method h e = cc
method_at known (x ∷ methods) zero method h e = subst (λ (z : MethodProgram). OfSteps known z.steps) (some_same x method e) h.0
method_at known (x ∷ methods) (suc n) method h e = method_at known methods n method h.1 e

calls_do : (known : Reference → Type 0) (program : Program) → OfProgram known program → (d : ℕ) (m : Setting) (me : Ref) (masks : List (List ℕ)) → Told known m → CallsDo known (record m { me = me; masks = masks }) (call_at m program d)
unfolding call_at
calls_do known program all zero m me masks told b n e xs keeps es st here are sound = broke known (record m { me = me; masks = masks }) es st sound
calls_do known program all (suc d) m me masks told b n e xs keeps es st here are sound =
    let caller : Setting = record m { me = me; masks = masks } in
    let their : Told known caller = record { activity = told.activity; fields = told.fields; no_activity = told.no_activity; no_timer = told.no_timer; answers = told.answers } in
    found_does known caller Ever es (slice_get program b) _ st (λ block is.
    found_does known caller Ever es (slice_get block.methods n) _ st (λ method same.
    let run : Run Flow = act_all (setting_in m block e) (call_at m program d) method.steps in
    let always : Always known (setting_in m block e) run = act_all_does known (setting_in m block e) (told_in known m block e told) (call_at m program d) (calls_do known program all d m e (map (λ x. x.name) block.masks) told) method.steps (method_at known block.methods n method (block_at known program b block all is).1 same) in
    does_then known caller (FlowIs known) Ever es (apart (map Holds xs) run st) (λ flow. keep_result keeps flow method.result) (apart_does known caller block e xs run es st here are always sound) (λ fs flow new l gave kept. keep_does known caller their keeps fs flow method.result new gave kept)))

done_same : (q r : Report) → Done q ≡ Done r → q ≡ r
done_same q r e = cc

cond_effects : (b : Bool) (x y : Meaning) (es : List Effect) (r : Report) → ((q : Report) → x ≡ Done q → q.effects ≡ es) → ((q : Report) → y ≡ Done q → q.effects ≡ es) → cond b x y ≡ Done r → r.effects ≡ es
cond_effects true x y es r g h e = g r e
cond_effects false x y es r g h e = h r e

done_effects : (outcome : Outcome) (failure : List ℕ) (st : State) (r : Report) → report_of outcome failure st ≡ Done r → r.effects ≡ st.effects
done_effects outcome failure st r e = ap (λ q. q.effects) (sym (done_same _ r e))

report_refers : (known : Reference → Type 0) (m : Setting) (es : List Effect) (r : Ending Flow) (q : Report) → Does known m es (FlowIs known) r → report r ≡ Done q → Refer known (m.effects ++ q.effects)
report_refers known m es (Gave flow new) q h e =
    let same : q.effects ≡ new.effects = cond_effects new.asked (report_of outcomes.Asked (codes "asked") new) (report_of outcomes.Fine [] new) new.effects q (λ z. done_effects outcomes.Asked (codes "asked") new z) (λ z. done_effects outcomes.Fine [] new z) e in
    subst (λ z. Refer known (m.effects ++ z)) (sym same) (broke known m h.0 new h.3)
report_refers known m es (Broke kind text new) q h e = subst (λ z. Refer known (m.effects ++ z)) (sym (done_effects (outcomes.Broken kind) text new q e)) h
report_refers known m es (Needs key) q h e = cc
report_refers known m es Stays q h e = cc

-- effects of a script refer to what is known where its program's constants are and where all is that it is told
pub meaning_refers : (known : Reference → Type 0) (answers : Answers) (program : Program) (block : BlockProgram) (steps : Steps) (e : EntityId) (arguments : Args) (before : Before) (q : Report) → OfProgram known program → OfSteps known steps → Told known (setting_of answers block e arguments before) → known (ToEntity (Known e.0)) → Refer known before.effects → meaning_in answers program block steps e arguments before ≡ Done q → Refer known (before.effects ++ q.effects)
unfolding meaning_in
meaning_refers known answers program block steps e arguments before q all some told own earlier done =
    let m : Setting = setting_of answers block e arguments before in
    report_refers known m before.effects (act_all m (call_at m program 8) steps start) q
    (act_all_does known m told (call_at m program 8) (calls_do known program all 8 m m.me m.masks told) steps some before.effects start (append-nil before.effects, earlier, inl own, tt)) done
