-- A step counts the line that it takes, and nothing else; so histories over restarts take each line once.
use Rattle.std.proofs.Common.{◌≡◌, ℕ, ◌+◌, ◌==◌, Bool, true, false, List, [], ◌∷◌, ◌++◌, length, refl, sym, ◌∙◌, ap, arith, Option, Some, None, Ok, Err, Result}
use Rattle.std.specs.Prelude.{drop, option_map}
use Rattle.std.specs.Option.{option_map_or}
use Rattle.std.proofs.lemmas.Bool.{cond_both}
use Rattle.signal_script.specs.declared.signal.Signal.{Signal}
use Rattle.slee_effect.specs.declared.effect.Effect.{Effect}
use Rattle.slee_effect.specs.declared.effect.Effect.TheVariants as effects
use Rattle.router_laws.proofs.ListRules.{append_joins}
use Rattle.router_laws_histories.proofs.PlainLines.{attached_leaves, closing_leaves, kept_child, kept_dropped, occurred_leave, tree_leaves}
use Rattle.router_laws_histories.proofs.SuspendedSteps.{root_leaves}
use Rattle.router_laws_histories.specs.Restarts.{IsPrefix}
use Rattle.router_state.specs.State.{State}
use Rattle.router_state.specs.Contexts.{is_active}
use Rattle.router_state.specs.Changes.{after_change}
use Rattle.router_state.specs.declared.change.Change.TheVariants as changes
use Rattle.router_state.specs.declared.rows.ServiceState.TheVariants as states
use Rattle.router_state.specs.declared.rows.Suspension.{Suspension}
use Rattle.router_steps.specs.declared.refusal.Refusal.{Refusal}
use Rattle.router_steps.specs.Actions.{Action, StartActivity, EndActivity, FireEvent, SetClock, ActivateService, StopService, ChangeRow, RowChange, RowAdded, RowUpdated, RowRemoved, action_of, change_of_row}
use Rattle.router_steps.specs.Closing.{closing}
use Rattle.router_steps.specs.Applying.{applied_in}
use Rattle.router_steps.specs.Effects.{after_effect, after_effects, number_in, relation_at}
use Rattle.router_steps.specs.Histories.{replay}
use Rattle.router_steps.specs.Moves.{dropped, ended, resumed, with_service}
use Rattle.router_steps.specs.Steps.{Due, Finish, Receipt, Subject, Taking, Selecting, Delivering, Finishing, after, after_subject, before_closing, delivery_at, due_at, finish_at, finished, is_end, marked_entity, subject_of}
use Rattle.router_steps.specs.Taking.{after_action, all_occurred, all_resumed, counted, ended_if, taken}
use Rattle.trace_history.specs.Histories.{input_of, inputs_of}
use Rattle.trace_history.specs.declared.choice.Choice.{Choice}
use Rattle.trace_history.specs.declared.choice.Choice.TheVariants as choices
use Rattle.trace_history.specs.declared.entry.Entry.{Entry}

-- effects

effect_inputs : (x : Effect) (s : State) → (after_effect x s).inputs ≡ s.inputs
effect_inputs (effects.SetField entity name value) s = refl
effect_inputs (effects.SetAttr activity key value) s = refl
effect_inputs (effects.Create parent relation priority) s = (kept_child (number_in parent) relation priority s (relation_at s (number_in parent) relation)).1
effect_inputs (effects.Remove entity) s = (tree_leaves s (number_in entity)).0.1
effect_inputs (effects.SetPriority entity priority) s = refl
effect_inputs (effects.Attach entity activity) s = (attached_leaves s (number_in entity) (number_in activity)).0.1
effect_inputs (effects.Detach entity activity) s = refl
effect_inputs (effects.SetMask entity activity event on) s = refl
effect_inputs (effects.Fire activity event service fields) s = refl
effect_inputs effects.NewNull s = refl
effect_inputs (effects.EndNull activity) s = refl
effect_inputs (effects.SetTimer activity start period times keep) s = refl
effect_inputs (effects.CancelTimer timer) s = refl
effect_inputs (effects.Bind name activity) s = refl
effect_inputs (effects.Unbind name) s = refl
effect_inputs (effects.Emit entity text) s = refl
effect_inputs (effects.Usage entity name amount) s = refl
effect_inputs (effects.Suspend activity until) s = refl
effect_inputs (effects.Resume activity) s = refl

effects_inputs : (xs : List Effect) (s : State) → (after_effects xs s).inputs ≡ s.inputs
effects_inputs [] s = refl
effects_inputs (x ∷ xs) s = effects_inputs xs (after_effect x s) ∙ effect_inputs x s

-- lines

resumed_inputs : (rows : List Suspension) (s : State) → (all_resumed rows s).inputs ≡ s.inputs
resumed_inputs [] s = refl
resumed_inputs (row ∷ rows) s = resumed_inputs rows (resumed s row.activity.0)

row_inputs : (table : ℕ) (row : List ℕ) (change : RowChange) (s : State) → (after_change (change_of_row table row change) s).inputs ≡ s.inputs
row_inputs table row (RowAdded values) s = refl
row_inputs table row (RowUpdated values) s = refl
row_inputs table row RowRemoved s = refl

action_inputs : (x : Action) (s : State) → (after_action x s).inputs ≡ s.inputs
action_inputs (StartActivity name) s = refl
action_inputs (EndActivity a) s = refl
action_inputs (FireEvent a event fields target) s = refl
action_inputs (SetClock to suspensions occurrences) s =
    let set = after_change (changes.Clock to) s in
    (occurred_leave occurrences (after_change (changes.Advance to) (all_resumed suspensions set))).0.1 ∙ resumed_inputs suspensions set
action_inputs (ActivateService n) s = refl
action_inputs (StopService n a) s =
    let t = with_service s n states.Stopping a in cond_both (is_active s.activities a) (ended t a) t (λ (u : State). u.inputs ≡ s.inputs) (λ _. refl) (λ _. refl)
action_inputs (ChangeRow table row change) s = row_inputs table row change s

taken_inputs : (x : Result Action Refusal) (s : State) → (taken x s).inputs ≡ s.inputs + 1
taken_inputs (Ok x) s = action_inputs x (counted s)
taken_inputs (Err why) s = refl

-- steps

-- how many lines a step takes
abbrev lines_taken : Subject → ℕ
lines_taken (Taking signal action) = 1
lines_taken (Selecting x) = 0
lines_taken (Delivering x) = 0
lines_taken (Finishing x) = 0

nothing_more : (n m : ℕ) → n ≡ m → n ≡ m + 0
nothing_more n m is = omega (arith, is)

subject_inputs : (x : Subject) (s : State) → (after_subject x s).inputs ≡ s.inputs + lines_taken x
subject_inputs (Taking signal action) s = taken_inputs action s
subject_inputs (Selecting x) s = nothing_more _ s.inputs (root_leaves x x.root s).0.1
subject_inputs (Delivering x) s = nothing_more _ s.inputs (effects_inputs (applied_in x.entity.number.0 (marked_entity x s) x.delivered.effects) (marked_entity x s))
subject_inputs (Finishing x) s =
    let t = after_change (changes.Pop (record { 0 = x.activity })) s in
    nothing_more _ s.inputs (cond_both (is_end x) (dropped t x.activity) t (λ (u : State). u.inputs ≡ s.inputs) (λ _. (kept_dropped x.activity t).1) (λ _. refl))

-- the count of inputs after a choice
pub counted_inputs : (s : State) (c : Choice) → (after s c).inputs ≡ s.inputs + length (input_of c)
counted_inputs s (choices.Input signal) = (closing_leaves (before_closing s (choices.Input signal))).0.1 ∙ taken_inputs (action_of s signal) s
counted_inputs s (choices.Initial a) = (closing_leaves (before_closing s (choices.Initial a))).0.1 ∙ by (due_at s a.0)
  where
    by : (o : Option Due) → (option_map_or (λ x. after_subject x s) (option_map Selecting o) s).inputs ≡ s.inputs + 0
    by None = nothing_more s.inputs s.inputs refl
    by (Some x) = subject_inputs (Selecting x) s
counted_inputs s (choices.Deliver a) = (closing_leaves (before_closing s (choices.Deliver a))).0.1 ∙ by (delivery_at s a.0)
  where
    by : (o : Option Receipt) → (option_map_or (λ x. after_subject x s) (option_map Delivering o) s).inputs ≡ s.inputs + 0
    by None = nothing_more s.inputs s.inputs refl
    by (Some x) = subject_inputs (Delivering x) s
counted_inputs s (choices.Finish a) = (closing_leaves (before_closing s (choices.Finish a))).0.1 ∙ by (finish_at s a.0)
  where
    by : (o : Option Finish) → (option_map_or (λ x. after_subject x s) (option_map Finishing o) s).inputs ≡ s.inputs + 0
    by None = nothing_more s.inputs s.inputs refl
    by (Some x) = subject_inputs (Finishing x) s

length_joined : {X : Type 0} (xs ys : List X) → length (xs ++ ys) ≡ length xs + length ys
length_joined [] ys = none_first (length ys)
  where
    none_first : (n : ℕ) → n ≡ 0 + n
    none_first n = omega arith
length_joined (x ∷ xs) ys = let more = length_joined xs ys in omega (arith, more)

pub replayed_inputs : (s : State) (h : List Entry) → (replay s h).inputs ≡ s.inputs + length (inputs_of h)
replayed_inputs s [] = nothing_more s.inputs s.inputs refl
replayed_inputs s (e ∷ es) =
    added _ _ _ _ _ _ (replayed_inputs (after s e.choice) es) (counted_inputs s e.choice) (length_joined (input_of e.choice) (inputs_of es))
  where
    added : (r i k n m l : ℕ) → r ≡ i + n → i ≡ k + m → l ≡ m + n → r ≡ k + l
    added r i k n m l more one both = omega (arith, more, one, both)

-- lines of two histories, one behind the other

inputs_joined : (h k : List Entry) → inputs_of (h ++ k) ≡ inputs_of h ++ inputs_of k
inputs_joined [] k = refl
inputs_joined (e ∷ es) k = ap (λ more. input_of e.choice ++ more) (inputs_joined es k) ∙ sym (append_joins (input_of e.choice) (inputs_of es) (inputs_of k))

drop_front : {X : Type 0} (xs ys : List X) → drop (length xs) (xs ++ ys) ≡ ys
drop_front [] ys = refl
drop_front (x ∷ xs) ys = drop_front xs ys

pub inputs_go_on : (base : State) (h k : List Entry) (lines : List Signal) → base.inputs ≡ 0 → IsPrefix (inputs_of h) lines → IsPrefix (inputs_of k) (drop (replay base h).inputs lines) → IsPrefix (inputs_of (h ++ k)) lines
inputs_go_on base h k lines none first second =
    let count : (replay base h).inputs ≡ length (inputs_of h) = from_none _ _ _ (replayed_inputs base h) none in
    let rest : inputs_of k ++ second.0 ≡ first.0 = second.1 ∙ ap (λ n. drop n lines) count ∙ ap (drop (length (inputs_of h))) (sym first.1) ∙ drop_front (inputs_of h) first.0 in
    (second.0, ap (λ xs. xs ++ second.0) (inputs_joined h k) ∙ append_joins (inputs_of h) (inputs_of k) second.0 ∙ ap (λ xs. inputs_of h ++ xs) rest ∙ first.1)
  where
    from_none : (r b n : ℕ) → r ≡ b + n → b ≡ 0 → r ≡ n
    from_none r b n is none = omega (arith, is, none)
