-- Terms whose constants are known give values that refer to what is known.
use Rattle.std.proofs.Common.{inl, not, ℕ, zero, suc, ℤ, ◌+ℤ◌, ◌-ℤ◌, ◌*ℤ◌, neg_ℤ, int_div, int_rem, List, [], ◌∷◌, ◌++◌, map, Option, Some, None, sym, subst}
use Rattle.std.specs.Prelude.{slice_get, bytes_eq}
use Rattle.std.specs.List.{AllByRecursion}
use Rattle.slee_value.specs.declared.kind.Kind.{Kind}
use Rattle.slee_value.specs.declared.kind.Kind.TheVariants as kinds
use Rattle.slee_value.specs.declared.value.Value.{Value}
use Rattle.slee_effect.specs.declared.reference.Ref.{Ref}
use Rattle.slee_effect.specs.declared.reference.Ref.TheVariants.{Known, Fresh}
use Rattle.slee_effect.specs.declared.value.Val.{Val}
use Rattle.slee_effect.specs.declared.value.Val.TheVariants.{Plain}
use Rattle.slee_effect.specs.declared.effect.Effect.{Effect}
use Rattle.script_types.specs.declared.term.Atom.{Atom}
use Rattle.script_types.specs.declared.term.Atom.TheVariants as a
use Rattle.script_types.specs.declared.term.Question.{Question}
use Rattle.script_types.specs.declared.term.Question.TheVariants as g
use Rattle.script_types.specs.declared.term.Joint.{Joint}
use Rattle.script_types.specs.declared.term.Joint.TheVariants as j
use Rattle.script_types.specs.declared.term.Scale.{Scale}
use Rattle.script_types.specs.declared.term.Scale.TheVariants as scale
use Rattle.script_types.specs.declared.term.Test.{Test}
use Rattle.script_types.specs.declared.term.Test.TheVariants as t
use Rattle.script_types.specs.Program.{Term, Single, Ask, Compare, Combine}
use Rattle.script_meaning.specs.declared.key.Key.TheVariants as keys
use Rattle.script_meaning.specs.declared.outcome.FailKind.TheVariants as f
use Rattle.script_meaning.specs.declared.seen.AcSeen.{AcSeen}
use Rattle.script_meaning.specs.declared.seen.Seen.{Seen}
use Rattle.script_meaning.specs.declared.seen.Seen.TheVariants as s
use Rattle.script_meaning.specs.Answers.{initial, is_of, fit, held_in, ids_in, number_in, activity_in, flag_in, masks_in, refers_in, row_in, value_under}
use Rattle.script_meaning.specs.Overlay.{entities_by, activities_by, timers_by, overlay, field_after, attr_after, children_after, priority_after, activity_after, attached_after, masks_after, named_after, timer_after, activities_after, is_removed}
use Rattle.script_meaning.specs.Running.{Setting, Variable, Holds, Child, State, Run, give, break, ticked, look, found}
use Rattle.script_meaning.specs.Values.{int, text, activity_value, number, divided, joined, apply, decides, same_values, is_less, compare}
use Rattle.script_meaning.specs.Observing as read
use Rattle.script_meaning.specs.Terms.{or_initial, field_at, single, is_masked, looked_up, in_row, of_row, row, ask, combine, node, eval}
use Rattle.script_laws.specs.References.{Reference, ToEntity, ToActivity, in_value, IsKnown}
use Rattle.script_laws.specs.Told.{in_values}
use Rattle.script_laws.proofs.KnownSets.{either_way, all_split, all_told}
use Rattle.script_laws.proofs.KnownOverlaid.{ValueIs, EntitiesAre, ActivitiesAre, BoundIs, field_over, attr_over, named_over, children_over, activities_over}
use Rattle.script_laws.proofs.KnownRuns.{Told, Any, VariableIs, Sound, Gives, AnswerIs, broke, gives_then, gives_cond, gives_tick, gives_tested, gives_int, gives_text, gives_flag, gives_activity, gives_timer, look_gives, reads_gives}
use Rattle.script_laws.proofs.KnownConstants.{OfAtom, OfTerm}

-- a value that may be missing
abbrev pub MayBe : (Reference → Type 0) → List Effect → Option Val → Type 0
MayBe known es None = Unit {0}
MayBe known es (Some x) = ValueIs known es x

-- a variable that may be missing
abbrev MayHold : (Reference → Type 0) → List Effect → Option Variable → Type 0
MayHold known es None = Unit {0}
MayHold known es (Some x) = VariableIs known es x

-- the values of a row, which may be missing
abbrev pub RowIs : (Reference → Type 0) → Option (List (List ℕ × Value)) → Type 0
RowIs known None = Unit {0}
RowIs known (Some values) = AllByRecursion known (in_values values)

module _ (known : Reference → Type 0) (m : Setting) (told : Told known m) (es : List Effect) where
  pub initial_is : (q : Kind) → ValueIs known es (initial q)
  initial_is kinds.Int = tt
  initial_is kinds.Text = tt
  initial_is kinds.Bool = tt
  initial_is kinds.Activity = (inl told.no_activity, tt)
  initial_is kinds.Timer = (inl told.no_timer, tt)

  fit_is : (q : Kind) (x : Val) → ValueIs known es x → ValueIs known es (fit q x)
  fit_is q x h = either_way (ValueIs known es) (is_of q x) x (initial q) h (initial_is q)

  pub or_initial_is : (q : Kind) (x : Option Val) → MayBe known es x → ValueIs known es (or_initial q x)
  or_initial_is q None h = initial_is q
  or_initial_is q (Some x) h = fit_is q x h

  field_held : (e : Ref) (name : List ℕ) (q : Kind) (seen : Option Seen) → AnswerIs known (read.key_of (λ n. keys.Field (record { 0 = n }) name) e) seen → ValueIs known es (held_in q seen)
  field_held (Known n) name q (Some (s.Held (Some x))) h = all_told known es (in_value (Plain x)) h
  field_held (Known n) name q _ h = initial_is q
  field_held (Fresh n) name q seen h = subst (λ o. ValueIs known es (held_in q o)) (sym h) (initial_is q)

  attr_held : (a : Ref) (key : List ℕ) (q : Kind) (seen : Option Seen) → AnswerIs known (read.key_of (λ n. keys.Attr (record { 0 = n }) key) a) seen → ValueIs known es (held_in q seen)
  attr_held (Known n) key q (Some (s.Held (Some x))) h = all_told known es (in_value (Plain x)) h
  attr_held (Known n) key q _ h = initial_is q
  attr_held (Fresh n) key q seen h = subst (λ o. ValueIs known es (held_in q o)) (sym h) (initial_is q)

  entities_told : (ids : List ℕ) → AllByRecursion known (map (λ n. ToEntity (Known n)) ids) → EntitiesAre known es (map Known ids)
  entities_told [] h = tt
  entities_told (n ∷ ids) h = (inl h.0, entities_told ids h.1)

  activities_told : (ids : List ℕ) → AllByRecursion known (map (λ n. ToActivity (Known n)) ids) → ActivitiesAre known es (map Known ids)
  activities_told [] h = tt
  activities_told (n ∷ ids) h = (inl h.0, activities_told ids h.1)

  children_held : (e : Ref) (relation : List ℕ) (seen : Option Seen) → AnswerIs known (read.key_of (λ n. keys.Children (record { 0 = n }) relation) e) seen → EntitiesAre known es (map Known (ids_in seen))
  children_held (Known n) relation (Some (s.Ids ids)) h = entities_told ids h
  children_held (Known n) relation _ h = tt
  children_held (Fresh n) relation seen h = subst (λ o. EntitiesAre known es (map Known (ids_in o))) (sym h) tt

  activities_held : (e : Ref) (seen : Option Seen) → AnswerIs known (read.key_of (λ n. keys.Activities (record { 0 = n })) e) seen → ActivitiesAre known es (map Known (ids_in seen))
  activities_held (Known n) (Some (s.Ids ids)) h = activities_told ids h
  activities_held (Known n) _ h = tt
  activities_held (Fresh n) seen h = subst (λ o. ActivitiesAre known es (map Known (ids_in o))) (sym h) tt

  named_held : (name : List ℕ) (seen : Option Seen) → AnswerIs known (Some (keys.Named name)) seen → BoundIs known es (refers_in seen)
  named_held name (Some (s.Refers (Some a))) h = inl h.0
  named_held name (Some (s.Refers None)) h = tt
  named_held name _ h = tt

  row_held : (table name : List ℕ) (seen : Option Seen) → AnswerIs known (Some (keys.Profile table name)) seen → RowIs known (row_in seen)
  row_held table name (Some (s.Row (Some values))) h = h
  row_held table name (Some (s.Row None)) h = tt
  row_held table name _ h = tt

  -- what is read of the state
  pub now_gives : (st : State) → Sound known m es st → Gives known m es Any (read.now m st)
  now_gives st sound = gives_then known m es (AnswerIs known (Some keys.Now)) Any (look m (Some keys.Now) st) _ (look_gives known m es told (Some keys.Now) st sound) (λ seen new _ kept. (tt, kept))

  pub state_gives : (r : Ref) (st : State) → Sound known m es st → Gives known m es Any (read.state_of m r st)
  state_gives r st sound = reads_gives known m es Any (read.key_of (λ n. keys.AcState (record { 0 = n })) r) (λ seen effects. overlay activities_by (activity_after r) effects (activity_in seen)) st told sound (λ _ _. tt)

  pub field_gives : (name : List ℕ) (q : Kind) (st : State) → Sound known m es st → Gives known m es (ValueIs known es) (read.field m name q st)
  field_gives name q st sound = reads_gives known m es (ValueIs known es) (read.key_of (λ n. keys.Field (record { 0 = n }) name) m.me) (λ seen effects. fit q (overlay entities_by (field_after m.me name) effects (held_in q seen))) st told sound
      (λ seen h. fit_is q _ (field_over known es m.me name (held_in q seen) sound.1 (field_held m.me name q seen h)))

  pub attribute_gives : (key : List ℕ) (q : Kind) (r : Ref) (st : State) → Sound known m es st → Gives known m es (ValueIs known es) (read.attribute m key q r st)
  attribute_gives key q r st sound = reads_gives known m es (ValueIs known es) (read.key_of (λ n. keys.Attr (record { 0 = n }) key) r) (λ seen effects. fit q (overlay activities_by (attr_after r key) effects (held_in q seen))) st told sound
      (λ seen h. fit_is q _ (attr_over known es r key (held_in q seen) sound.1 (attr_held r key q seen h)))

  pub attached_gives : (r : Ref) (st : State) → Sound known m es st → Gives known m es Any (read.attached m r st)
  attached_gives r st sound = reads_gives known m es Any (read.key_of_two (λ k n. keys.Attached (record { 0 = k }) (record { 0 = n })) m.me r) (λ seen effects. overlay activities_by (attached_after m.me r) effects (flag_in seen)) st told sound (λ _ _. tt)

  pub masks_gives : (r : Ref) (st : State) → Sound known m es st → Gives known m es Any (read.masks m r st)
  masks_gives r st sound = reads_gives known m es Any (read.key_of_two (λ k n. keys.Mask (record { 0 = k }) (record { 0 = n })) m.me r) (λ seen effects. overlay activities_by (masks_after m.masks m.me r) effects (masks_in seen)) st told sound (λ _ _. tt)

  pub named_gives : (name : List ℕ) (st : State) → Sound known m es st → Gives known m es (BoundIs known es) (read.named m name st)
  named_gives name st sound = reads_gives known m es (BoundIs known es) (Some (keys.Named name)) (λ seen effects. overlay activities_by (named_after name) effects (refers_in seen)) st told sound
      (λ seen h. named_over known es name (refers_in seen) sound.1 (named_held name seen h))

  pub timer_gives : (r : Ref) (st : State) → Sound known m es st → Gives known m es Any (read.timer m r st)
  timer_gives r st sound = reads_gives known m es Any (read.key_of (λ n. keys.Timer (record { 0 = n })) r) (λ seen effects. overlay timers_by (timer_after r) effects (refers_in seen)) st told sound (λ _ _. tt)

  pub children_gives : (relation : List ℕ) (st : State) → Sound known m es st → Gives known m es (EntitiesAre known es) (read.children m relation st)
  children_gives relation st sound = reads_gives known m es (EntitiesAre known es) (read.key_of (λ n. keys.Children (record { 0 = n }) relation) m.me) (λ seen effects. overlay entities_by (children_after m.me relation) effects (map Known (ids_in seen))) st told sound
      (λ seen h. children_over known es m.me relation (map Known (ids_in seen)) sound.1 (children_held m.me relation seen h))

  pub activities_gives : (st : State) → Sound known m es st → Gives known m es (ActivitiesAre known es) (read.activities m st)
  activities_gives st sound = reads_gives known m es (ActivitiesAre known es) (read.key_of (λ n. keys.Activities (record { 0 = n })) m.me) (λ seen effects. overlay activities_by (activities_after m.me) effects (map Known (ids_in seen))) st told sound
      (λ seen h. activities_over known es m.me (map Known (ids_in seen)) sound.1 (activities_held m.me seen h))

  pub priority_gives : (r : Ref) (st : State) → Sound known m es st → Gives known m es Any (read.priority m r st)
  priority_gives r st sound = reads_gives known m es Any (read.key_of (λ n. keys.Priority (record { 0 = n })) r) (λ seen effects. overlay entities_by (priority_after r) effects (number_in seen)) st told sound (λ _ _. tt)

  pub row_gives : (table name : List ℕ) (st : State) → Sound known m es st → Gives known m es (RowIs known) (row m table name st)
  row_gives table name st sound = gives_then known m es (AnswerIs known (Some (keys.Profile table name))) (RowIs known) (look m (Some (keys.Profile table name)) st) _ (look_gives known m es told (Some (keys.Profile table name)) st sound) (λ seen new h kept. (row_held table name seen h, kept))

  there_gives : (o : Option AcSeen) (st : State) → Sound known m es st → Gives known m es Any (read.there o st)
  there_gives None st sound = broke known m es st sound
  there_gives (Some seen) st sound = (tt, sound)

  pub used_gives : (r : Ref) (st : State) → Sound known m es st → Gives known m es Any (read.used m r st)
  used_gives r st sound = gives_then known m es Any Any (read.state_of m r st) _ (state_gives r st sound) (λ seen new _ kept. there_gives seen new kept)

  pub used_active_gives : (r : Ref) (st : State) → Sound known m es st → Gives known m es Any (read.used_active m r st)
  used_active_gives r st sound = gives_then known m es Any Any (read.used m r st) _ (used_gives r st sound) (λ seen new _ kept. gives_tested known m es Any f.Ending (not seen.ending) (give seen) new kept (tt, kept))

  variable_at : (xs : List Variable) (i : ℕ) → AllByRecursion (VariableIs known es) xs → MayHold known es (slice_get xs i)
  variable_at [] i h = tt
  variable_at (x ∷ xs) zero h = h.0
  variable_at (x ∷ xs) (suc i) h = variable_at xs i h.1

  found_gives : (o : Option Variable) (st : State) → MayHold known es o → Sound known m es st → Gives known m es (VariableIs known es) (found o st)
  found_gives None st h sound = tt
  found_gives (Some x) st h sound = (h, sound)

  only_child_gives : (x : Variable) (st : State) → VariableIs known es x → Sound known m es st → Gives known m es (λ e. IsKnown known es (ToEntity e)) (read.only_child x st)
  only_child_gives (Child e) st h sound = (h, sound)
  only_child_gives (Holds x) st h sound = tt

  only_value_gives : (x : Variable) (st : State) → VariableIs known es x → Sound known m es st → Gives known m es (ValueIs known es) (read.only_value x st)
  only_value_gives (Holds x) st h sound = (h, sound)
  only_value_gives (Child e) st h sound = tt

  pub child_gives : (i : ℕ) (st : State) → Sound known m es st → Gives known m es (λ e. IsKnown known es (ToEntity e)) (read.child m i st)
  child_gives i st sound = gives_then known m es (VariableIs known es) (λ e. IsKnown known es (ToEntity e)) (found (slice_get st.variables i) st) _ (found_gives (slice_get st.variables i) st (variable_at st.variables i sound.3) sound) (λ x new is kept.
      gives_then known m es (λ e. IsKnown known es (ToEntity e)) (λ e. IsKnown known es (ToEntity e)) (read.only_child x new) _ (only_child_gives x new is kept) (λ e last here held.
      gives_tested known m es (λ e. IsKnown known es (ToEntity e)) f.Gone (not (is_removed e (m.effects ++ last.effects))) (give e) last held (here, held)))

  pub value_gives : (i : ℕ) (st : State) → Sound known m es st → Gives known m es (ValueIs known es) (read.value i st)
  value_gives i st sound = gives_then known m es (VariableIs known es) (ValueIs known es) (found (slice_get st.variables i) st) _ (found_gives (slice_get st.variables i) st (variable_at st.variables i sound.3) sound) (λ x new is kept. only_value_gives x new is kept)

  event_field : (place : ℕ) (fields : List (List ℕ × Value)) → AllByRecursion known (in_values fields) → MayBe known es (field_at place fields)
  event_field place [] h = tt
  event_field zero (x ∷ fields) h = all_told known es (in_value (Plain x.1)) (all_split known (in_value (Plain x.1)) (in_values fields) h).0
  event_field (suc place) (x ∷ fields) h = event_field place fields (all_split known (in_value (Plain x.1)) (in_values fields) h).1

  single_gives : (x : Atom) (st : State) → OfAtom known x → Sound known m es st → Gives known m es (ValueIs known es) (single m x st)
  single_gives (a.Constant x) st h sound = (all_told known es (in_value (Plain x)) h, sound)
  single_gives a.Now st h sound = gives_then known m es Any (ValueIs known es) (read.now m st) _ (now_gives st sound) (λ n new _ kept. (tt, kept))
  single_gives a.Activity st h sound = ((inl told.activity, tt), sound)
  single_gives a.Failure st h sound = (tt, sound)
  single_gives (a.Slot i) st h sound = value_gives i st sound
  single_gives (a.Field x kind) st h sound = field_gives x.name kind st sound
  single_gives (a.EventField place kind) st h sound = (or_initial_is kind (field_at place m.arguments.fields) (event_field place m.arguments.fields told.fields), sound)
  single_gives (a.Count relation) st h sound = gives_then known m es (EntitiesAre known es) (ValueIs known es) (read.children m relation.name st) _ (children_gives relation.name st sound) (λ refs new _ kept. (tt, kept))
  single_gives (a.Priority i) st h sound = gives_then known m es (λ e. IsKnown known es (ToEntity e)) (ValueIs known es) (read.child m i st) _ (child_gives i st sound) (λ e new _ kept.
      gives_then known m es Any (ValueIs known es) (read.priority m e new) _ (priority_gives e new kept) (λ n last _ held. (tt, held)))

  -- operators
  number_gives : (n : ℤ) (st : State) → Sound known m es st → Gives known m es (ValueIs known es) (number n st)
  number_gives n st sound = gives_cond known m es (ValueIs known es) _ (give (int n)) (break f.Overflow) st (tt, sound) (broke known m es st sound)

  divided_gives : (by : ℤ → ℤ → ℤ) (x y : ℤ) (st : State) → Sound known m es st → Gives known m es (ValueIs known es) (divided by x y st)
  divided_gives by x y st sound = gives_cond known m es (ValueIs known es) _ (break f.ZeroDivisor) (number (by x y)) st (broke known m es st sound) (number_gives (by x y) st sound)

  joined_gives : (x y : List ℕ) (st : State) → Sound known m es st → Gives known m es (ValueIs known es) (joined x y st)
  joined_gives x y st sound = gives_cond known m es (ValueIs known es) _ (give (text (x ++ y))) (break f.TooLong) st (tt, sound) (broke known m es st sound)

  apply_gives : (operator : Joint) (x y : Val) (st : State) → Sound known m es st → Gives known m es (ValueIs known es) (apply operator x y st)
  apply_gives j.Add x y st sound = gives_int known m es _ x _ st (λ p. gives_int known m es _ y _ st (λ q. number_gives (p +ℤ q) st sound))
  apply_gives j.Subtract x y st sound = gives_int known m es _ x _ st (λ p. gives_int known m es _ y _ st (λ q. number_gives (p -ℤ q) st sound))
  apply_gives j.Multiply x y st sound = gives_int known m es _ x _ st (λ p. gives_int known m es _ y _ st (λ q. number_gives (p *ℤ q) st sound))
  apply_gives j.Divide x y st sound = gives_int known m es _ x _ st (λ p. gives_int known m es _ y _ st (λ q. divided_gives int_div p q st sound))
  apply_gives j.Remainder x y st sound = gives_int known m es _ x _ st (λ p. gives_int known m es _ y _ st (λ q. divided_gives int_rem p q st sound))
  apply_gives j.Join x y st sound = gives_text known m es _ x _ st (λ p. gives_text known m es _ y _ st (λ q. joined_gives p q st sound))
  apply_gives j.Both x y st sound = gives_flag known m es _ x _ st (λ p. gives_flag known m es _ y _ st (λ q. (tt, sound)))
  apply_gives j.Either x y st sound = gives_flag known m es _ x _ st (λ p. gives_flag known m es _ y _ st (λ q. (tt, sound)))

  same_gives : (q : Kind) (x y : Val) (st : State) → ValueIs known es x → ValueIs known es y → Sound known m es st → Gives known m es Any (same_values q x y st)
  same_gives kinds.Int x y st h k sound = gives_int known m es Any x _ st (λ p. gives_int known m es Any y _ st (λ q. (tt, sound)))
  same_gives kinds.Text x y st h k sound = gives_text known m es Any x _ st (λ p. gives_text known m es Any y _ st (λ q. (tt, sound)))
  same_gives kinds.Bool x y st h k sound = gives_flag known m es Any x _ st (λ p. gives_flag known m es Any y _ st (λ q. (tt, sound)))
  same_gives kinds.Activity x y st h k sound = gives_activity known m es Any x _ st h (λ p _. gives_activity known m es Any y _ st k (λ q _. (tt, sound)))
  same_gives kinds.Timer x y st h k sound = gives_timer known m es Any x _ st h (λ p _. gives_timer known m es Any y _ st k (λ q _. (tt, sound)))

  less_gives : (q : Scale) (x y : Val) (st : State) → Sound known m es st → Gives known m es Any (is_less q x y st)
  less_gives scale.Int x y st sound = gives_int known m es Any x _ st (λ p. gives_int known m es Any y _ st (λ q. (tt, sound)))
  less_gives scale.Text x y st sound = gives_text known m es Any x _ st (λ p. gives_text known m es Any y _ st (λ q. (tt, sound)))

  compare_gives : (test : Test) (x y : Val) (st : State) → ValueIs known es x → ValueIs known es y → Sound known m es st → Gives known m es (ValueIs known es) (compare test x y st)
  compare_gives (t.Same q) x y st h k sound = gives_then known m es Any (ValueIs known es) (same_values q x y st) _ (same_gives q x y st h k sound) (λ b new _ kept. (tt, kept))
  compare_gives (t.Unlike q) x y st h k sound = gives_then known m es Any (ValueIs known es) (same_values q x y st) _ (same_gives q x y st h k sound) (λ b new _ kept. (tt, kept))
  compare_gives (t.Below q) x y st h k sound = gives_then known m es Any (ValueIs known es) (is_less q x y st) _ (less_gives q x y st sound) (λ b new _ kept. (tt, kept))
  compare_gives (t.AtMost q) x y st h k sound = gives_then known m es Any (ValueIs known es) (is_less q y x st) _ (less_gives q y x st sound) (λ b new _ kept. (tt, kept))
  compare_gives (t.Above q) x y st h k sound = gives_then known m es Any (ValueIs known es) (is_less q y x st) _ (less_gives q y x st sound) (λ b new _ kept. (tt, kept))
  compare_gives (t.AtLeast q) x y st h k sound = gives_then known m es Any (ValueIs known es) (is_less q x y st) _ (less_gives q x y st sound) (λ b new _ kept. (tt, kept))

  -- questions
  masked_gives : (event : List ℕ) (o : Option (List (List ℕ))) (st : State) → Sound known m es st → Gives known m es (ValueIs known es) (is_masked event o st)
  masked_gives event None st sound = broke known m es st sound
  masked_gives event (Some names) st sound = (tt, sound)

  activity_is : (r : Ref) → IsKnown known es (ToActivity r) → ValueIs known es (activity_value r)
  activity_is (Known n) h = (h, tt)
  activity_is (Fresh n) h = (h, tt)

  looked_up_gives : (o : Option Ref) (st : State) → BoundIs known es o → Sound known m es st → Gives known m es (ValueIs known es) (looked_up o st)
  looked_up_gives None st h sound = broke known m es st sound
  looked_up_gives (Some r) st h sound = (activity_is r h, sound)

  under : (name : List ℕ) (values : List (List ℕ × Value)) → AllByRecursion known (in_values values) → MayBe known es (value_under name values)
  under name [] h = tt
  under name (x ∷ values) h =
      let r = all_split known (in_value (Plain x.1)) (in_values values) h in
      either_way (MayBe known es) (bytes_eq x.0 name) (Some (Plain x.1)) (value_under name values) (all_told known es (in_value (Plain x.1)) r.0) (under name values r.1)

  in_row_gives : (kind : Kind) (o : Option Val) (st : State) → MayBe known es o → Sound known m es st → Gives known m es (ValueIs known es) (in_row kind o st)
  in_row_gives kind None st h sound = broke known m es st sound
  in_row_gives kind (Some x) st h sound = gives_cond known m es (ValueIs known es) (is_of kind x) (give x) (break f.NoRow) st (h, sound) (broke known m es st sound)

  of_row_gives : (name : List ℕ) (kind : Kind) (o : Option (List (List ℕ × Value))) (st : State) → RowIs known o → Sound known m es st → Gives known m es (ValueIs known es) (of_row name kind o st)
  of_row_gives name kind None st h sound = broke known m es st sound
  of_row_gives name kind (Some values) st h sound = in_row_gives kind (value_under name values) st (under name values h) sound

  ask_gives : (question : Question) (x : Val) (st : State) → ValueIs known es x → Sound known m es st → Gives known m es (ValueIs known es) (ask m question x st)
  ask_gives g.Negative x st h sound = gives_int known m es (ValueIs known es) x _ st (λ n. number_gives (neg_ℤ n) st sound)
  ask_gives g.Not x st h sound = gives_flag known m es (ValueIs known es) x _ st (λ n. (tt, sound))
  ask_gives g.TextOfInt x st h sound = gives_int known m es (ValueIs known es) x _ st (λ n. (tt, sound))
  ask_gives g.TextOfBool x st h sound = gives_flag known m es (ValueIs known es) x _ st (λ n. (tt, sound))
  ask_gives g.Len x st h sound = gives_text known m es (ValueIs known es) x _ st (λ n. (tt, sound))
  ask_gives g.Active x st h sound = gives_activity known m es (ValueIs known es) x _ st h (λ r _. gives_then known m es Any (ValueIs known es) (read.state_of m r st) _ (state_gives r st sound) (λ seen new _ kept. (tt, kept)))
  ask_gives g.Attached x st h sound = gives_activity known m es (ValueIs known es) x _ st h (λ r _. gives_then known m es Any (ValueIs known es) (read.used m r st) _ (used_gives r st sound) (λ seen new _ kept.
      gives_then known m es Any (ValueIs known es) (read.attached m r new) _ (attached_gives r new kept) (λ b last _ held. (tt, held))))
  ask_gives (g.Masked event) x st h sound = gives_activity known m es (ValueIs known es) x _ st h (λ r _. gives_then known m es Any (ValueIs known es) (read.used m r st) _ (used_gives r st sound) (λ seen new _ kept.
      gives_then known m es Any (ValueIs known es) (read.masks m r new) _ (masks_gives r new kept) (λ names last _ held. masked_gives event.name names last held)))
  ask_gives (g.Attribute key kind) x st h sound = gives_activity known m es (ValueIs known es) x _ st h (λ r _. gives_then known m es Any (ValueIs known es) (read.used m r st) _ (used_gives r st sound) (λ seen new _ kept. attribute_gives key.name kind r new kept))
  ask_gives g.Bound x st h sound = gives_text known m es (ValueIs known es) x _ st (λ name. gives_then known m es (BoundIs known es) (ValueIs known es) (read.named m name st) _ (named_gives name st sound) (λ r new _ kept. (tt, kept)))
  ask_gives g.Lookup x st h sound = gives_text known m es (ValueIs known es) x _ st (λ name. gives_then known m es (BoundIs known es) (ValueIs known es) (read.named m name st) _ (named_gives name st sound) (λ r new is kept. looked_up_gives r new is kept))
  ask_gives (g.Profile table name kind) x st h sound = gives_text known m es (ValueIs known es) x _ st (λ key. gives_then known m es (RowIs known) (ValueIs known es) (row m table.name key st) _ (row_gives table.name key st sound) (λ values new is kept. of_row_gives name.name kind values new is kept))
  ask_gives (g.HasProfile table) x st h sound = gives_text known m es (ValueIs known es) x _ st (λ key. gives_then known m es (RowIs known) (ValueIs known es) (row m table.name key st) _ (row_gives table.name key st sound) (λ values new _ kept. (tt, kept)))
  ask_gives g.HasTimer x st h sound = gives_timer known m es (ValueIs known es) x _ st h (λ r _. gives_then known m es Any (ValueIs known es) (read.timer m r st) _ (timer_gives r st sound) (λ seen new _ kept. (tt, kept)))

  combine_gives : (operator : Joint) (x : Val) (y : Run Val) (st : State) → ValueIs known es x → Gives known m es (ValueIs known es) (y st) → Sound known m es st → Gives known m es (ValueIs known es) (combine operator x y st)
  combine_gives operator x y st h k sound = gives_cond known m es (ValueIs known es) (decides operator x) _ _ st (h, sound) (gives_then known m es (ValueIs known es) (ValueIs known es) (y st) _ k (λ z new _ kept. apply_gives operator x z new kept))

  -- a term's value, behind its first unit
  pub node_gives : (x : Term) (st : State) → OfTerm known x → Sound known m es st → Gives known m es (ValueIs known es) (node m x st)
  node_gives (Single x) st h sound = single_gives x st h sound
  node_gives (Ask question x) st h sound = gives_then known m es (ValueIs known es) (ValueIs known es) (ticked (node m x) st) (ask m question) (gives_tick known m es (ValueIs known es) (node m x) st sound (λ s kept. node_gives x s h kept)) (λ y new is kept. ask_gives question y new is kept)
  node_gives (Compare test x y) st h sound = gives_then known m es (ValueIs known es) (ValueIs known es) (ticked (node m x) st) _ (gives_tick known m es (ValueIs known es) (node m x) st sound (λ s kept. node_gives x s h.0 kept))
      (λ p new is kept. gives_then known m es (ValueIs known es) (ValueIs known es) (ticked (node m y) new) (compare test p) (gives_tick known m es (ValueIs known es) (node m y) new kept (λ s held. node_gives y s h.1 held)) (λ q last this held. compare_gives test p q last is this held))
  node_gives (Combine operator x y) st h sound = gives_then known m es (ValueIs known es) (ValueIs known es) (ticked (node m x) st) _ (gives_tick known m es (ValueIs known es) (node m x) st sound (λ s kept. node_gives x s h.0 kept))
      (λ p new is kept. combine_gives operator p (ticked (node m y)) new is (gives_tick known m es (ValueIs known es) (node m y) new kept (λ s held. node_gives y s h.1 held)) kept)

  pub eval_gives : (x : Term) (st : State) → OfTerm known x → Sound known m es st → Gives known m es (ValueIs known es) (eval m x st)
  eval_gives x st h sound = gives_tick known m es (ValueIs known es) (node m x) st sound (λ s kept. node_gives x s h kept)
