-- What a choice is about, once it is looked up, and what is begun for it.
use Rattle.std.proofs.Common.{◌≡◌, ℕ, ◌<◌, ◌^◌, Bool, true, List, [], ◌∷◌, ◌++◌, Some, Result, refl, sym, ◌∙◌, ap, if◌then◌else◌, ◌≤◌, length, length-append, append_assoc, arith}
use Rattle.std.specs.List.{flat_map}
use Rattle.std.specs.Str.{bytes_eq}
use Rattle.slee_value.specs.Bytes.{spelled_text, spelled_u32, spelled_u64}
use Rattle.slee_value.specs.declared.ids.ActivityId.{ActivityId}
use Rattle.slee_value.specs.declared.ids.EntityId.{EntityId}
use Rattle.slee_value.specs.declared.ids.EventId.{EventId}
use Rattle.signal_script.specs.Signals.{is_signal, spelled}
use Rattle.signal_script.specs.declared.signal.Signal.{Signal}
use Rattle.slee_effect.specs.Bytes.{spelled_effect, spelling_of_effects}
use Rattle.slee_effect.specs.Fitting.{FitEffects}
use Rattle.trace_history.specs.declared.choice.Choice.{Choice}
use Rattle.trace_history.specs.declared.choice.Choice.TheVariants as choices
use Rattle.router_state.specs.State.{State}
use Rattle.router_state.specs.Changes.{after_change, after_changes}
use Rattle.router_state.specs.Next.{selects_at}
use Rattle.router_state.specs.Queues.{activity_end, head_event}
use Rattle.router_state.specs.declared.change.Change.{Change}
use Rattle.router_state.specs.declared.change.Change.TheVariants as changes
use Rattle.router_state.specs.declared.rows.Event.{Event}
use Rattle.deploy_model.specs.Deployed.{service_key}
use Rattle.router_steps.specs.Actions.{Action, action_of}
use Rattle.router_steps.specs.Applying.{done_effects, lines_of_done_effects}
use Rattle.router_steps.specs.Lines.{deliver_heading, exception_line, finish_heading, gone_line, input_heading, rolled_back_line}
use Rattle.router_steps.specs.Moves.{dropped}
use Rattle.router_steps.specs.Outcomes.{outcome_byte}
use Rattle.router_steps.specs.Payloads.{bytes_of_subject, payload}
use Rattle.router_steps.specs.Steps.{after_subject, lines_of_root, lines_of_subject, with_root_attached, Subject, Taking, Selecting, Delivering, Finishing, Root, NoRoot, OldRoot, NewRoot, line_of_callback, root_selected, subject_of}
use Rattle.router_steps.specs.Taking.{lines_of_taken, taken}
use Rattle.router_steps.specs.declared.refusal.Refusal.{Refusal}
use Rattle.router_draft.specs.Drafts.{CanBeMade, DraftView, laid}
use Rattle.router_payloads.specs.Keeping.{IsSpelled}
use Rattle.router_payloads.proofs.AgainLemmas.{payload_again}
use Rattle.rollback_calls.specs.declared.delivered.Delivered.{Delivered}
use Rattle.router_subjects.specs.Roots.{heading_of_root, lines_of_root_attached, root_attached}
use Rattle.router_subjects.specs.declared.delivering.Receipt.{Receipt}
use Rattle.router_plans.specs.Deliveries.{IsReceived, delivered_in_code}
use Rattle.router_plans.specs.Plans.{IsBegun}
use Rattle.router_plans.proofs.LineLemmas.{short_line}

-- what is begun for a choice is begun so, whatever it is about
begun : (s : State) (c : Choice) (x : Subject) (draft : DraftView) (bytes : List ℕ) → IsSpelled s c x → length (bytes_of_subject x) ≤ 65_528
    → laid s draft ≡ after_subject x s → CanBeMade s draft → draft.lines ≡ lines_of_subject x s → bytes ≡ spelled_u64 s.clock ++ bytes_of_subject x → IsBegun s c draft bytes
begun s c x draft bytes is few state made lines paid =
    let kept : bytes ≡ payload 2 s c = rw is.subject paid in
    record {
      state = rw is.subject state;
      made = made;
      lines = rw is.subject lines;
      payload = kept;
      again = rw kept (payload_again 2 s c x is);
      short = omega (arith, few, ap length paid, length-append (spelled_u64 s.clock) (bytes_of_subject x));
    }

taking_begun : (s : State) (signal : Signal) (answer : Result Action Refusal) (draft : DraftView) (bytes : List ℕ) → is_signal signal ≡ true → answer ≡ action_of s signal
    → laid s draft ≡ taken answer s → CanBeMade s draft → draft.lines ≡ input_heading (spelled signal) ∷ lines_of_taken answer s
    → bytes ≡ spelled_u64 s.clock ++ 1 ∷ spelled_text (spelled signal) → IsBegun s (choices.Input signal) draft bytes
taking_begun s signal answer draft bytes valid is state made lines paid =
    begun s (choices.Input signal) (Taking signal (action_of s signal)) draft bytes (record { subject = refl; valid = valid; number = tt; bytes = tt })
    (omega (arith, short_line signal valid, length-append (spelled_u32 (length (spelled signal))) (spelled signal)))
    (state ∙ ap (λ (a : Result Action Refusal). taken a s) is) made (lines ∙ ap (λ (a : Result Action Refusal). input_heading (spelled signal) ∷ lines_of_taken a s) is) paid

-- the same, as the code comes to it: the heading is told to a draft without changes, and then the line is taken
pub taking_told : (s : State) (signal : Signal) (answer : Result Action Refusal) (fresh told draft : DraftView) (heading bytes : List ℕ) → is_signal signal ≡ true → answer ≡ action_of s signal
    → fresh.changes ≡ [] → fresh.lines ≡ [] → heading ≡ input_heading (spelled signal) → told.changes ≡ fresh.changes → told.lines ≡ fresh.lines ++ heading ∷ []
    → laid s draft ≡ taken answer (laid s told) → draft.lines ≡ told.lines ++ lines_of_taken answer (laid s told) → CanBeMade s draft
    → bytes ≡ spelled_u64 s.clock ++ 1 ∷ spelled_text (spelled signal) → IsBegun s (choices.Input signal) draft bytes
taking_told s signal answer fresh told draft heading bytes valid is unchanged silent head same line state lines made paid =
    let none : laid s told ≡ s = ap (λ (cs : List Change). after_changes cs s) (same ∙ unchanged) in
    let one : told.lines ≡ input_heading (spelled signal) ∷ [] = line ∙ ap (λ (xs : List (List ℕ)). xs ++ heading ∷ []) silent ∙ ap (λ (h : List ℕ). h ∷ []) head in
    taking_begun s signal answer draft bytes valid is (state ∙ ap (taken answer) none) made
    (lines ∙ ap (λ (xs : List (List ℕ)). xs ++ lines_of_taken answer (laid s told)) one ∙ ap (λ (t : State). input_heading (spelled signal) ∷ lines_of_taken answer t) none) paid

pub finishing_begun : (s : State) (a : ActivityId) (v : Event) (end : Bool) (draft : DraftView) (bytes : List ℕ) → a.0 < 2 ^ 64 → head_event s.events a.0 ≡ Some v → end ≡ bytes_eq v.name activity_end
    → laid s draft ≡ (if end then dropped (after_change (changes.Pop a) s) a.0 else after_change (changes.Pop a) s) → CanBeMade s draft
    → draft.lines ≡ finish_heading a.0 v.id.0 ∷ (if end then gone_line a.0 ∷ [] else [])
    → bytes ≡ spelled_u64 s.clock ++ 4 ∷ spelled_u64 a.0 → IsBegun s (choices.Finish a) draft bytes
finishing_begun s a v end draft bytes number is ends state made lines paid =
    let x : Subject = Finishing (record { activity = a.0; event = v }) in
    let about : subject_of s (choices.Finish a) ≡ Some x = rw is refl in
    begun s (choices.Finish a) x draft bytes (record { subject = about; valid = refl; number = number; bytes = tt }) (omega arith)
    (state ∙ ap (λ (e : Bool). if e then dropped (after_change (changes.Pop a) s) a.0 else after_change (changes.Pop a) s) ends) made
    (lines ∙ ap (λ (e : Bool). finish_heading a.0 v.id.0 ∷ (if e then gone_line a.0 ∷ [] else [])) ends) paid

by_root : (s : State) (a : ActivityId) (v : Event) (service : ℕ) (root : Root) → (heading_of_root a.0 v.id.0 (service_key s.deployment service) root s ∷ lines_of_root_attached a.0 service root s)
    ≡ lines_of_root (record { activity = a.0; event = v; service = service; root = root }) root s
by_root s a v service NoRoot = refl
by_root s a v service (OldRoot e) = refl
by_root s a v service (NewRoot name) = refl

state_by_root : (s : State) (a : ActivityId) (v : Event) (service : ℕ) (own root : Root) → root_attached a.0 service root (after_change (changes.MarkService a service) s)
    ≡ with_root_attached (record { activity = a.0; event = v; service = service; root = own }) root (after_change (changes.MarkService a service) s)
state_by_root s a v service own NoRoot = refl
state_by_root s a v service own (OldRoot e) = refl
state_by_root s a v service own (NewRoot name) = refl

pub selecting_begun : (s : State) (a : ActivityId) (v : Event) (service : ℕ) (key : List ℕ) (root : Root) (draft : DraftView) (bytes : List ℕ) → a.0 < 2 ^ 64 → selects_at s a.0 ≡ Some (v, service)
    → key ≡ service_key s.deployment service → root ≡ root_selected s service a.0 v
    → laid s draft ≡ root_attached a.0 service root (after_change (changes.MarkService a service) s) → CanBeMade s draft
    → draft.lines ≡ heading_of_root a.0 v.id.0 key root s ∷ lines_of_root_attached a.0 service root s
    → bytes ≡ spelled_u64 s.clock ++ 2 ∷ spelled_u64 a.0 → IsBegun s (choices.Initial a) draft bytes
selecting_begun s a v service key root draft bytes number is keyed rooted state made lines paid =
    let own = root_selected s service a.0 v in
    let x : Subject = Selecting (record { activity = a.0; event = v; service = service; root = own }) in
    let about : subject_of s (choices.Initial a) ≡ Some x = rw is refl in
    begun s (choices.Initial a) x draft bytes (record { subject = about; valid = refl; number = number; bytes = tt }) (omega arith)
    (state ∙ ap (λ (r : Root). root_attached a.0 service r (after_change (changes.MarkService a service) s)) rooted ∙ state_by_root s a v service own own) made
    (lines ∙ ap (λ (k : List ℕ). heading_of_root a.0 v.id.0 k root s ∷ lines_of_root_attached a.0 service root s) keyed
    ∙ ap (λ (r : Root). heading_of_root a.0 v.id.0 (service_key s.deployment service) r s ∷ lines_of_root_attached a.0 service r s) rooted
    ∙ by_root s a v service own) paid

regrouped : (x : List ℕ) (xs ys zs : List (List ℕ)) → (x ∷ (xs ++ ys)) ++ zs ≡ x ∷ (xs ++ (ys ++ zs))
regrouped x xs ys zs = ap (λ (more : List (List ℕ)). x ∷ more) (append_assoc xs ys zs)

pub delivering_begun : (s : State) (clock : ℕ) (r : Receipt) (d : Delivered) (fresh draft : DraftView) (bytes : List ℕ) → clock ≡ s.clock → fresh.lines ≡ [] → r.activity.0 < 2 ^ 64 → IsReceived s r d → FitEffects d.effects
    → laid s draft ≡ done_effects r.entity.0 d.effects (after_change (changes.MarkEntity r.activity r.entity) s) → CanBeMade s draft
    → draft.lines ≡ fresh.lines ++ (deliver_heading r.activity.0 r.event.0 r.entity.0 d.outcome ∷ (line_of_callback exception_line d.exception ++ line_of_callback rolled_back_line d.rolled_back))
    ++ lines_of_done_effects r.entity.0 d.effects (after_change (changes.MarkEntity r.activity r.entity) s)
    → bytes ≡ spelled_u64 clock ++ 3 ∷ (spelled_u64 r.activity.0 ++ outcome_byte d.outcome ∷ spelling_of_effects d.effects) → IsBegun s (choices.Deliver r.activity) draft bytes
delivering_begun s clock r d fresh draft bytes ticks silent number is fit state made lines paid =
    let x : Subject = Delivering (record { activity = r.activity.0; event = is.event; entity = is.entity; delivered = delivered_in_code d }) in
    let about : subject_of s (choices.Deliver r.activity) ≡ Some x = rw is.first refl in
    begun s (choices.Deliver r.activity) x draft bytes (record { subject = about; valid = refl; number = number; bytes = fit })
    (omega (arith, is.short, length-append (spelled_u64 r.activity.0) (outcome_byte d.outcome ∷ spelling_of_effects d.effects), length-append (spelled_u32 (length d.effects)) (flat_map spelled_effect d.effects)))
    (state ∙ ap (λ (e : EntityId). done_effects e.0 d.effects (after_change (changes.MarkEntity r.activity e) s)) (sym is.entity_number)) made
    (lines
    ∙ ap (λ (xs : List (List ℕ)). xs ++ (deliver_heading r.activity.0 r.event.0 r.entity.0 d.outcome ∷ (line_of_callback exception_line d.exception ++ line_of_callback rolled_back_line d.rolled_back)) ++ lines_of_done_effects r.entity.0 d.effects (after_change (changes.MarkEntity r.activity r.entity) s)) silent
    ∙ regrouped (deliver_heading r.activity.0 r.event.0 r.entity.0 d.outcome) (line_of_callback exception_line d.exception) (line_of_callback rolled_back_line d.rolled_back) (lines_of_done_effects r.entity.0 d.effects (after_change (changes.MarkEntity r.activity r.entity) s))
    ∙ ap (λ (v : EventId). deliver_heading r.activity.0 v.0 r.entity.0 d.outcome ∷ (line_of_callback exception_line d.exception ++ (line_of_callback rolled_back_line d.rolled_back ++ lines_of_done_effects r.entity.0 d.effects (after_change (changes.MarkEntity r.activity r.entity) s)))) (sym is.event_number)
    ∙ ap (λ (e : EntityId). deliver_heading r.activity.0 is.event.id.0 e.0 d.outcome ∷ (line_of_callback exception_line d.exception ++ (line_of_callback rolled_back_line d.rolled_back ++ lines_of_done_effects e.0 d.effects (after_change (changes.MarkEntity r.activity e) s)))) (sym is.entity_number))
    (paid ∙ ap (λ (n : ℕ). spelled_u64 n ++ 3 ∷ (spelled_u64 r.activity.0 ++ outcome_byte d.outcome ∷ spelling_of_effects d.effects)) ticks)
