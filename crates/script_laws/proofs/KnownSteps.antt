-- Steps one behind another, blocks and loops.
use Rattle.std.proofs.Common.{◌+◌, Bool, true, false, ℕ, zero, suc, List, [], ◌∷◌, length, take, map}
use Rattle.std.specs.List.{AllByRecursion}
use Rattle.slee_value.specs.declared.value.Value.TheVariants as v
use Rattle.slee_effect.specs.declared.reference.Ref.{Ref}
use Rattle.slee_effect.specs.declared.reference.Ref.TheVariants.{Known, Fresh}
use Rattle.slee_effect.specs.declared.value.Val.{Val}
use Rattle.slee_effect.specs.declared.value.Val.TheVariants.{Plain}
use Rattle.slee_effect.specs.declared.effect.Effect.{Effect}
use Rattle.slee_effect.specs.declared.effect.Effect.TheVariants as ef
use Rattle.script_types.specs.declared.step.Range.{Range}
use Rattle.script_types.specs.declared.step.Range.TheVariants as range
use Rattle.script_types.specs.Program as p
use Rattle.script_types.specs.Program.{Term, Saying, Call, Step, Steps}
use Rattle.script_meaning.specs.Running.{Setting, Variable, Holds, Child, State, Gave, Run, then_run, give, ticked, tick_at, effect, declare, scoped}
use Rattle.script_meaning.specs.Values.{activity_value, with_flag}
use Rattle.script_meaning.specs.Observing as read
use Rattle.script_meaning.specs.Terms.{eval}
use Rattle.script_meaning.specs.Doing as doing
use Rattle.script_meaning.specs.Steps.{Flow, Next, Returned, Calling, next, followed, ask_rollback, says, either, choose, turns, walk, items, arguments_of, does_call, act, act_all}
use Rattle.script_laws.specs.References.{Reference, ToEntity, IsKnown}
use Rattle.script_laws.proofs.KnownSets.{Longer, longer_same, longer_then}
use Rattle.script_laws.proofs.KnownOverlaid.{ValueIs, EntitiesAre, ActivitiesAre}
use Rattle.script_laws.proofs.KnownRuns.{Told, Any, VariableIs, Sound, Gives, broke, gives_then}
use Rattle.script_laws.proofs.KnownConstants.{OfTerm, OfSaying, OfStep, OfSteps}
use Rattle.script_laws.proofs.KnownTerms.{children_gives, activities_gives, child_gives, eval_gives}
use Rattle.script_laws.proofs.KnownDoing.{Does, Ever, variables_longer, does_then, after, makes, declare_does, int_of_gives, text_of_gives, assigns_does, on_entities_does, on_activities_does, on_timers_does}

-- what a method gave back refers to what is known
abbrev pub FlowIs : (Reference → Type 0) → List Effect → Flow → Type 0
FlowIs known es Next = Unit {0}
FlowIs known es (Returned x) = ValueIs known es x

-- wherever a run has come to, this does what is known
abbrev pub Always : (Reference → Type 0) → Setting → Run Flow → Type 0
Always known m x = (es : List Effect) (st : State) → Sound known m es st → Does known m es (FlowIs known) (x st)

-- calls of methods do what is known
abbrev pub CallsDo : (Reference → Type 0) → Setting → Calling → Type 0
CallsDo known m call = (b n : ℕ) (e : Ref) (xs : List Val) (keeps : Bool) (es : List Effect) (st : State) → IsKnown known es (ToEntity e) → AllByRecursion (ValueIs known es) xs → Sound known m es st → Does known m es Ever (call b n e xs keeps st)

module _ (known : Reference → Type 0) (m : Setting) where
  tick_does : {A : Type 0} (P : List Effect → A → Type 0) (es : List Effect) (x : Run A) (n : ℕ) (st : State) → Sound known m es st → ((left : ℕ) → Does known m es P (x (record st { left = left }))) → Does known m es P (then_run (tick_at n st) (λ _. x))
  tick_does P es x zero st sound h = broke known m es st sound
  tick_does P es x (suc n) st sound h = h n

  ticked_does : {A : Type 0} (P : List Effect → A → Type 0) (es : List Effect) (x : Run A) (st : State) → Sound known m es st → ((st : State) → Sound known m es st → Does known m es P (x st)) → Does known m es P (ticked x st)
  ticked_does P es x st sound h = tick_does P es x st.left st sound (λ left. h (record st { left = left }) sound)

  next_does : (es : List Effect) (x : Run (Unit {0})) (st : State) → Does known m es Ever (x st) → Does known m es (FlowIs known) (next x st)
  next_does es x st h = does_then known m Ever (FlowIs known) es (x st) (λ _. give Next) h (λ all _ new l _ kept. (all, longer_same all, tt, kept))

  followed_does : (es : List Effect) (flow : Flow) (x : Run Flow) (st : State) → FlowIs known es flow → Always known m x → Sound known m es st → Does known m es (FlowIs known) (followed flow x st)
  followed_does es Next x st h go sound = go es st sound
  followed_does es (Returned y) x st h go sound = (es, longer_same es, h, sound)

  either_does : (b : Bool) (x y : Run Flow) (es : List Effect) (st : State) → Always known m x → Always known m y → Sound known m es st → Does known m es (FlowIs known) (either b x y st)
  either_does true x y es st h g sound = h es st sound
  either_does false x y es st h g sound = g es st sound

  flag_does : (x : Val) (g : Bool → Run Flow) (es : List Effect) (st : State) → ((b : Bool) → Does known m es (FlowIs known) (g b st)) → Does known m es (FlowIs known) (with_flag x g st)
  flag_does (Plain (v.Bool b)) g es st h = h b
  flag_does _ g es st h = tt

  choose_does : (t : Val) (x y : Run Flow) (es : List Effect) (st : State) → Always known m x → Always known m y → Sound known m es st → Does known m es (FlowIs known) (choose t x y st)
  choose_does t x y es st h g sound = flag_does t (λ b. either b x y) es st (λ b. either_does b x y es st h g sound)

  turns_does : (n : ℕ) (test : Run Val) (body : Run Flow) → ((es : List Effect) (st : State) → Sound known m es st → Gives known m es (ValueIs known es) (test st)) → Always known m body → Always known m (turns n test body)
  turns_does zero test body h g es st sound = broke known m es st sound
  turns_does (suc n) test body h g es st sound =
      let go : Run Flow = λ st. then_run (body st) (λ flow. followed flow (turns n test body)) in
      after known m (ValueIs known es) (FlowIs known) es (test st) (λ x. choose x go (give Next)) (h es st sound) (λ x new _ kept. choose_does x go (give Next) es new
      (λ fs s held. does_then known m (FlowIs known) (FlowIs known) fs (body s) (λ flow. followed flow (turns n test body)) (g fs s held) (λ all flow last l is left. followed_does all flow (turns n test body) last is (turns_does n test body h g) left))
      (λ fs s held. (fs, longer_same fs, tt, held)) kept)

  fewer : (es : List Effect) (n : ℕ) (xs : List Variable) → AllByRecursion (VariableIs known es) xs → AllByRecursion (VariableIs known es) (take n xs)
  fewer es zero xs h = tt
  fewer es (suc n) [] h = tt
  fewer es (suc n) (x ∷ xs) h = (h.0, fewer es n xs h.1)

  scoped_does : (es : List Effect) (x : Run Flow) (st : State) → Does known m es (FlowIs known) (x st) → Does known m es (FlowIs known) (scoped x st)
  scoped_does es x st h = does_then known m (FlowIs known) (FlowIs known) es (x st) (λ y new. Gave y (record new { variables = take (length st.variables) new.variables })) h
      (λ all y new l is kept. (all, longer_same all, is, (kept.0, kept.1, kept.2, fewer all (length st.variables) new.variables kept.3)))

  -- what comes behind a part, unless a method gave its value
  rest_does : (es : List Effect) (flow : Flow) (x : Run Flow) (st : State) → FlowIs known es flow → Sound known m es st → ((all : List Effect) (st : State) → Longer es all → Sound known m all st → Does known m all (FlowIs known) (x st)) → Does known m es (FlowIs known) (followed flow x st)
  rest_does es Next x st h sound go = go es st (longer_same es) sound
  rest_does es (Returned y) x st h sound go = (es, longer_same es, h, sound)

  walk_does : (xs : List Variable) (body : Run Flow) (es : List Effect) (st : State) → AllByRecursion (VariableIs known es) xs → Always known m body → Sound known m es st → Does known m es (FlowIs known) (walk xs body st)
  walk_does [] body es st are h sound = (es, longer_same es, tt, sound)
  walk_does (x ∷ xs) body es st are h sound =
      let turn : Run Flow = λ st. then_run (declare x st) (λ _. body) in
      does_then known m (FlowIs known) (FlowIs known) es (scoped turn st) (λ flow. followed flow (walk xs body))
      (scoped_does es turn st (does_then known m Ever (FlowIs known) es (declare x st) (λ _. body) (declare_does known m es x st are.0 sound) (λ all _ new l _ kept. h all new kept)))
      (λ all flow new l is kept. rest_does all flow (walk xs body) new is kept (λ fs s k held. walk_does xs body fs s (variables_longer known es fs xs (longer_then es all fs l k) are.1) h held))

module _ (known : Reference → Type 0) (m : Setting) (told : Told known m) where
  says_does : (x : Saying) (es : List Effect) (st : State) → OfSaying known x → Sound known m es st → Does known m es (FlowIs known) (says m x st)
  says_does (p.Emit a) es st h sound = after known m Any (FlowIs known) es (doing.text_of m a st) _ (text_of_gives known m told es a st h sound) (λ t new _ kept. next_does known m es (effect (ef.Emit m.me t)) new (makes known m es (ef.Emit m.me t) new (kept.2, tt) kept))
  says_does (p.Usage name a) es st h sound = after known m Any (FlowIs known) es (doing.int_of m a st) _ (int_of_gives known m told es a st h sound) (λ n new _ kept. next_does known m es (effect (ef.Usage m.me name n)) new (makes known m es (ef.Usage m.me name n) new (kept.2, tt) kept))
  says_does (p.Return a) es st h sound = after known m (ValueIs known es) (FlowIs known) es (eval m a st) _ (eval_gives known m told es a st h sound) (λ x new is kept. (es, longer_same es, is, kept))
  says_does (p.Throw a) es st h sound = after known m Any (FlowIs known) es (doing.text_of m a st) _ (text_of_gives known m told es a st h sound) (λ t new _ kept. broke known m es new kept)
  says_does p.Rollback es st h sound = next_does known m es ask_rollback st (es, longer_same es, tt, sound)

  activities_hold : (es : List Effect) (refs : List Ref) → ActivitiesAre known es refs → AllByRecursion (VariableIs known es) (map (λ r. Holds (activity_value r)) refs)
  activities_hold es [] h = tt
  activities_hold es (Known n ∷ refs) h = ((h.0, tt), activities_hold es refs h.1)
  activities_hold es (Fresh n ∷ refs) h = ((h.0, tt), activities_hold es refs h.1)

  children_hold : (es : List Effect) (refs : List Ref) → EntitiesAre known es refs → AllByRecursion (VariableIs known es) (map Child refs)
  children_hold es [] h = tt
  children_hold es (r ∷ refs) h = (h.0, children_hold es refs h.1)

  items_gives : (r : Range) (es : List Effect) (st : State) → Sound known m es st → Gives known m es (AllByRecursion (VariableIs known es)) (items m r st)
  items_gives range.Activities es st sound = gives_then known m es (ActivitiesAre known es) (AllByRecursion (VariableIs known es)) (read.activities m st) _ (activities_gives known m told es st sound) (λ refs new are kept. (activities_hold es refs are, kept))
  items_gives (range.Children relation) es st sound = gives_then known m es (EntitiesAre known es) (AllByRecursion (VariableIs known es)) (read.children m relation.name st) _ (children_gives known m told es relation.name st sound) (λ refs new are kept. (children_hold es refs are, kept))

  arguments_give : (terms : List Term) (es : List Effect) (st : State) → AllByRecursion (OfTerm known) terms → Sound known m es st → Gives known m es (AllByRecursion (ValueIs known es)) (arguments_of m terms st)
  arguments_give [] es st h sound = (tt, sound)
  arguments_give (a ∷ more) es st h sound = gives_then known m es (ValueIs known es) (AllByRecursion (ValueIs known es)) (eval m a st) _ (eval_gives known m told es a st h.0 sound) (λ x new is kept.
      gives_then known m es (AllByRecursion (ValueIs known es)) (AllByRecursion (ValueIs known es)) (arguments_of m more new) (λ xs. give (x ∷ xs)) (arguments_give more es new h.1 kept) (λ xs last are held. ((is, are), held)))

  call_does : (call : Calling) (c : Call) (es : List Effect) (st : State) → CallsDo known m call → AllByRecursion (OfTerm known) c.arguments → Sound known m es st → Does known m es Ever (does_call m call c st)
  call_does call c es st go h sound = after known m (λ e. IsKnown known es (ToEntity e)) Ever es (read.child m c.child st) _ (child_gives known m told es c.child st sound) (λ e new here kept.
      after known m (AllByRecursion (ValueIs known es)) Ever es (arguments_of m c.arguments new) _ (arguments_give c.arguments es new h kept) (λ xs last are held. go c.block c.method e xs c.keeps es last here are held))

  mutual
    pub act_does : (call : Calling) → CallsDo known m call → (x : Step) → OfStep known x → Always known m (act m call x)
    act_does call go (p.Assign a) h es st sound = next_does known m es (doing.assigns m a) st (assigns_does known m told es a st h sound)
    act_does call go (p.Entity a) h es st sound = next_does known m es (doing.on_entities m a) st (on_entities_does known m told es a st h sound)
    act_does call go (p.Activity a) h es st sound = next_does known m es (doing.on_activities m a) st (on_activities_does known m told es a st h sound)
    act_does call go (p.Timer a) h es st sound = next_does known m es (doing.on_timers m a) st (on_timers_does known m told es a st h sound)
    act_does call go (p.Say a) h es st sound = says_does a es st h sound
    act_does call go (p.Invoke c) h es st sound = next_does known m es (does_call m call c) st (call_does call c es st go h sound)
    act_does call go (p.If a body other) h es st sound = after known m (ValueIs known es) (FlowIs known) es (eval m a st) _ (eval_gives known m told es a st h.0 sound) (λ x new _ kept.
        choose_does known m x (scoped (act_all m call body)) (scoped (act_all m call other)) es new
        (λ fs s held. scoped_does known m fs (act_all m call body) s (act_all_does call go body h.1 fs s held)) (λ fs s held. scoped_does known m fs (act_all m call other) s (act_all_does call go other h.2 fs s held)) kept)
    act_does call go (p.While a body) h es st sound = turns_does known m (st.left + 1) (eval m a) (scoped (act_all m call body)) (λ fs s held. eval_gives known m told fs a s h.0 held) (λ fs s held. scoped_does known m fs (act_all m call body) s (act_all_does call go body h.1 fs s held)) es st sound
    act_does call go (p.For over body) h es st sound = after known m (AllByRecursion (VariableIs known es)) (FlowIs known) es (items m over st) _ (items_gives over es st sound) (λ xs new are kept. walk_does known m xs (act_all m call body) es new are (λ fs s held. act_all_does call go body h fs s held) kept)

    pub act_all_does : (call : Calling) → CallsDo known m call → (steps : Steps) → OfSteps known steps → Always known m (act_all m call steps)
    act_all_does call go p.Nothing h es st sound = (es, longer_same es, tt, sound)
    act_all_does call go (p.Then x rest) h es st sound = does_then known m (FlowIs known) (FlowIs known) es (ticked (act m call x) st) (λ flow. followed flow (act_all m call rest))
        (ticked_does known m (FlowIs known) es (act m call x) st sound (λ s held. act_does call go x h.0 es s held)) (λ all flow new l is kept. followed_does known m all flow (act_all m call rest) new is (λ fs s held. act_all_does call go rest h.1 fs s held) kept)
