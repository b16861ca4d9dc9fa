-- Steps make effects that refer to what is known, and leave variables that do.
use Rattle.std.proofs.Common.{◌≡◌, ◌<◌, inl, inr, Bool, true, false, cond, not, ℕ, zero, suc, ℤ, pos, List, [], ◌∷◌, ◌++◌, length, Option, Some, None, refl, sym, ap, ◌∙◌, append_assoc}
use Rattle.std.specs.Prelude.{◌+ℤ◌, ◌&&◌, nat_lt, nat_le, int_le, unsigned_abs, is_none, slice_set, bytes_eq}
use native.Mathlib.Omega.{arith}
use Rattle.std.specs.List.{AllByRecursion, flat_map}
use Rattle.slee_value.specs.Order.{is_below}
use Rattle.slee_effect.specs.declared.reference.Ref.{Ref}
use Rattle.slee_effect.specs.declared.reference.Ref.TheVariants.{Known, Fresh}
use Rattle.slee_effect.specs.declared.value.Val.{Val}
use Rattle.slee_effect.specs.declared.value.Val.TheVariants.{NewActivity, NewTimer}
use Rattle.slee_effect.specs.declared.effect.Effect.{Effect}
use Rattle.slee_effect.specs.declared.effect.Effect.TheVariants as ef
use Rattle.script_types.specs.declared.step.Who.{Who}
use Rattle.script_types.specs.declared.step.Who.TheVariants as w
use Rattle.script_types.specs.Program as p
use Rattle.script_types.specs.Program.{Term, Assigning, Rank, OnEntities, OnActivities, OnTimers}
use Rattle.script_meaning.specs.declared.outcome.FailKind.{FailKind}
use Rattle.script_meaning.specs.declared.outcome.FailKind.TheVariants as f
use Rattle.script_meaning.specs.Overlay.{count_of, entities_by, activities_by, timers_by}
use Rattle.script_meaning.specs.Running.{Setting, Variable, Holds, Child, State, Ending, Gave, Broke, Needs, Stays, Run, then_run, give, break, tested, effect, effect_limit, effect_bytes_limit, bytes_of, declare, assign}
use Rattle.script_meaning.specs.Observing as read
use Rattle.script_meaning.specs.Terms.{eval}
use Rattle.script_meaning.specs.Doing as doing
use Rattle.script_laws.specs.References.{Reference, ToEntity, ToActivity, ToTimer, in_value, in_effect, IsKnown, Refer}
use Rattle.script_laws.proofs.KnownSets.{all_weaker, all_append, all_split, either_way, Longer, longer_same, longer_then, known_longer, all_longer, count_append, refer_more}
use Rattle.script_laws.proofs.KnownOverlaid.{ValueIs, BoundIs}
use Rattle.script_laws.proofs.KnownRuns.{Told, Any, VariableIs, Sound, Gives, broke, gives_then, gives_tested, gives_int, gives_text, gives_activity, gives_timer}
use Rattle.script_laws.proofs.KnownConstants.{OfTerm, OfAssigning, OfRank, OfEntities, OfActivities, OfRepeat, OfTimers}
use Rattle.script_laws.proofs.KnownTerms.{now_gives, attached_gives, named_gives, used_gives, used_active_gives, child_gives, eval_gives}

-- a part that may make effects gives something of which this is so behind them, or fails
abbrev pub Does : {A : Type 0} → (Reference → Type 0) → Setting → List Effect → (List Effect → A → Type 0) → Ending A → Type 0
Does known m es P (Gave x st) = (all : List Effect) × Longer es all × P all x × Sound known m all st
Does known m es P (Broke kind text st) = Refer known (m.effects ++ st.effects)
Does known m es P (Needs key) = Unit {0}
Does known m es P Stays = Unit {0}

-- whatever is given
abbrev pub Ever : {A : Type 0} → List Effect → A → Type 0
Ever es x = Unit {0}

pub variable_longer : (known : Reference → Type 0) (xs ys : List Effect) (x : Variable) → Longer xs ys → VariableIs known xs x → VariableIs known ys x
variable_longer known xs ys (Holds x) l h = all_longer known xs ys (in_value x) l h
variable_longer known xs ys (Child e) l h = known_longer known xs ys (ToEntity e) l h

pub variables_longer : (known : Reference → Type 0) (xs ys : List Effect) (variables : List Variable) → Longer xs ys → AllByRecursion (VariableIs known xs) variables → AllByRecursion (VariableIs known ys) variables
variables_longer known xs ys variables l h = all_weaker (VariableIs known xs) (VariableIs known ys) variables (λ x k. variable_longer known xs ys x l k) h

module _ (known : Reference → Type 0) (m : Setting) where
  longer_ending : {B : Type 0} (Q : List Effect → B → Type 0) (es mid : List Effect) (r : Ending B) → Longer es mid → Does known m mid Q r → Does known m es Q r
  longer_ending Q es mid (Gave x st) l h = (h.0, longer_then es mid h.0 l h.1, h.2, h.3)
  longer_ending Q es mid (Broke kind text st) l h = h
  longer_ending Q es mid (Needs key) l h = tt
  longer_ending Q es mid Stays l h = tt

  pub does_then : {A B : Type 0} (P : List Effect → A → Type 0) (Q : List Effect → B → Type 0) (es : List Effect) (r : Ending A) (g : A → Run B) → Does known m es P r → ((all : List Effect) (x : A) (st : State) → Longer es all → P all x → Sound known m all st → Does known m all Q (g x st)) → Does known m es Q (then_run r g)
  does_then P Q es (Gave x st) g h go = longer_ending Q es h.0 (g x st) h.1 (go h.0 x st h.1 h.2 h.3)
  does_then P Q es (Broke kind text st) g h go = h
  does_then P Q es (Needs key) g h go = tt
  does_then P Q es Stays g h go = tt

  -- behind a part that makes no effect
  pub after : {A B : Type 0} (P : A → Type 0) (Q : List Effect → B → Type 0) (es : List Effect) (r : Ending A) (g : A → Run B) → Gives known m es P r → ((x : A) (st : State) → P x → Sound known m es st → Does known m es Q (g x st)) → Does known m es Q (then_run r g)
  after P Q es (Gave x st) g h go = go x st h.0 h.1
  after P Q es (Broke kind text st) g h go = h
  after P Q es (Needs key) g h go = tt
  after P Q es Stays g h go = tt

  pub does_tested : {A : Type 0} (Q : List Effect → A → Type 0) (es : List Effect) (kind : FailKind) (b : Bool) (x : Run A) (st : State) → Sound known m es st → Does known m es Q (x st) → Does known m es Q (then_run (tested kind b st) (λ _. x))
  does_tested Q es kind true x st sound h = h
  does_tested Q es kind false x st sound h = broke known m es st sound

  pub does_ending : {A : Type 0} (Q : List Effect → A → Type 0) (es : List Effect) (b : Bool) (x y : Ending A) → Does known m es Q x → Does known m es Q y → Does known m es Q (cond b x y)
  does_ending Q es true x y h g = h
  does_ending Q es false x y h g = g

  -- behind an effect there is one more
  abbrev pub OneMore : List Effect → Effect → List Effect → Unit {0} → Type 0
  OneMore es e all _ = all ≡ es ++ e ∷ []

  with_effect : (es : List Effect) (e : Effect) (st : State) → AllByRecursion (IsKnown known es) (in_effect e) → Sound known m es st → (let new : Ending (Unit {0}) = Gave tt (record st { effects = st.effects ++ e ∷ [] }) in Does known m es (OneMore es e) new)
  with_effect es e st h sound =
      let l : Longer es (es ++ e ∷ []) = (e ∷ [], refl) in
      (es ++ e ∷ [], l, refl, (sym (append_assoc m.effects st.effects (e ∷ [])) ∙ ap (λ z. z ++ e ∷ []) sound.0, refer_more known es e sound.1 h, known_longer known es (es ++ e ∷ []) (ToEntity m.me) l sound.2, variables_longer known es (es ++ e ∷ []) st.variables l sound.3))

  pub effect_does : (es : List Effect) (e : Effect) (st : State) → AllByRecursion (IsKnown known es) (in_effect e) → Sound known m es st → Does known m es (OneMore es e) (effect e st)
  unfolding effect
  effect_does es e st h sound =
      let new : Ending (Unit {0}) = Gave tt (record st { effects = st.effects ++ e ∷ [] }) in
      let full : Ending (Unit {0}) = break f.TooMuch st in
      does_ending {A = Unit {0}} (OneMore es e) es (nat_lt (length st.effects) effect_limit) (cond (nat_le (bytes_of (st.effects ++ e ∷ [])) effect_bytes_limit) new full) full
      (does_ending {A = Unit {0}} (OneMore es e) es (nat_le (bytes_of (st.effects ++ e ∷ [])) effect_bytes_limit) new full (with_effect es e st h sound) (broke known m es st sound)) (broke known m es st sound)

  any_ending : {A : Type 0} (P : List Effect → A → Type 0) (es : List Effect) (r : Ending A) → Does known m es P r → Does known m es Ever r
  any_ending P es (Gave x st) h = (h.0, h.1, tt, h.3)
  any_ending P es (Broke kind text st) h = h
  any_ending P es (Needs key) h = tt
  any_ending P es Stays h = tt

  -- an effect at the end of a step
  pub makes : (es : List Effect) (e : Effect) (st : State) → AllByRecursion (IsKnown known es) (in_effect e) → Sound known m es st → Does known m es Ever (effect e st)
  makes es e st h sound = any_ending (OneMore es e) es (effect e st) (effect_does es e st h sound)

  pub declare_does : (es : List Effect) (x : Variable) (st : State) → VariableIs known es x → Sound known m es st → Does known m es Ever (declare x st)
  declare_does es x st h sound = (es, longer_same es, tt, (sound.0, sound.1, sound.2, all_append (VariableIs known es) st.variables (x ∷ []) sound.3 (h, tt)))

  set_variable : (es : List Effect) (xs : List Variable) (i : ℕ) (x : Variable) → VariableIs known es x → AllByRecursion (VariableIs known es) xs → AllByRecursion (VariableIs known es) (slice_set xs i x)
  set_variable es [] i x h k = tt
  set_variable es (y ∷ xs) zero x h k = (h, k.1)
  set_variable es (y ∷ xs) (suc i) x h k = (k.0, set_variable es xs i x h k.1)

  assign_does : (es : List Effect) (i : ℕ) (x : Val) (st : State) → ValueIs known es x → Sound known m es st → Does known m es Ever (assign i x st)
  assign_does es i x st h sound =
      let new : Ending (Unit {0}) = Gave tt (record st { variables = slice_set st.variables i (Holds x) }) in
      let none : Ending (Unit {0}) = Stays in
      does_ending {A = Unit {0}} Ever es (nat_lt i (length st.variables)) new none (es, longer_same es, tt, (sound.0, sound.1, sound.2, set_variable es st.variables i (Holds x) h sound.3)) tt

module _ (known : Reference → Type 0) (m : Setting) (told : Told known m) (es : List Effect) where
  pub int_of_gives : (x : Term) (st : State) → OfTerm known x → Sound known m es st → Gives known m es Any (doing.int_of m x st)
  int_of_gives x st h sound = gives_then known m es (ValueIs known es) Any (eval m x st) _ (eval_gives known m told es x st h sound) (λ y new _ kept. gives_int known m es Any y give new (λ n. (tt, kept)))

  pub text_of_gives : (x : Term) (st : State) → OfTerm known x → Sound known m es st → Gives known m es Any (doing.text_of m x st)
  text_of_gives x st h sound = gives_then known m es (ValueIs known es) Any (eval m x st) _ (eval_gives known m told es x st h sound) (λ y new _ kept. gives_text known m es Any y give new (λ n. (tt, kept)))

  -- an activity that is known
  abbrev ActivityIs : Ref → Type 0
  ActivityIs r = IsKnown known es (ToActivity r)

  activity_of_gives : (x : Term) (st : State) → OfTerm known x → Sound known m es st → Gives known m es ActivityIs (doing.activity_of m x st)
  activity_of_gives x st h sound = gives_then known m es (ValueIs known es) ActivityIs (eval m x st) _ (eval_gives known m told es x st h sound) (λ y new is kept. gives_activity known m es ActivityIs y give new is (λ r here. (here, kept)))

  timer_of_gives : (x : Term) (st : State) → OfTerm known x → Sound known m es st → Gives known m es (λ r. IsKnown known es (ToTimer r)) (doing.timer_of m x st)
  timer_of_gives x st h sound = gives_then known m es (ValueIs known es) (λ r. IsKnown known es (ToTimer r)) (eval m x st) _ (eval_gives known m told es x st h sound) (λ y new is kept. gives_timer known m es (λ r. IsKnown known es (ToTimer r)) y give new is (λ r here. (here, kept)))

  pub assigns_does : (x : Assigning) (st : State) → OfAssigning known x → Sound known m es st → Does known m es Ever (doing.assigns m x st)
  assigns_does (p.New a) st h sound = after known m (ValueIs known es) Ever es (eval m a st) _ (eval_gives known m told es a st h sound) (λ y new is kept. declare_does known m es (Holds y) new is kept)
  assigns_does (p.Variable i a) st h sound = after known m (ValueIs known es) Ever es (eval m a st) _ (eval_gives known m told es a st h sound) (λ y new is kept. assign_does known m es i y new is kept)
  assigns_does (p.Field field a) st h sound = after known m (ValueIs known es) Ever es (eval m a st) _ (eval_gives known m told es a st h sound) (λ y new is kept. makes known m es (ef.SetField m.me field.name y) new (kept.2, is) kept)
  assigns_does (p.Attribute a key b) st h sound = after known m ActivityIs Ever es (doing.activity_of m a st) _ (activity_of_gives a st h.0 sound) (λ r new here kept.
      after known m (ValueIs known es) Ever es (eval m b new) _ (eval_gives known m told es b new h.1 kept) (λ y last is held.
      after known m Any Ever es (read.used m r last) _ (used_gives known m told es r last held) (λ _ end _ left. makes known m es (ef.SetAttr r key.name y) end (here, is) left)))

  asked_rank_gives : (x : Term) (st : State) → OfTerm known x → Sound known m es st → Gives known m es Any (doing.asked_rank m x st)
  asked_rank_gives x st h sound = gives_then known m es Any Any (doing.int_of m x st) _ (int_of_gives x st h sound) (λ n new _ kept. gives_tested known m es Any f.Range _ (give n) new kept (tt, kept))

  rank_gives : (x : Rank) (st : State) → OfRank known x → Sound known m es st → Gives known m es Any (doing.rank_of m x st)
  rank_gives (p.Given n) st h sound = (tt, sound)
  rank_gives (p.Asked x) st h sound = asked_rank_gives x st h sound

  -- one more is made than before
  made : (makes : Effect → ℕ) (e : Effect) (before all : List Effect) → before ≡ es → all ≡ es ++ e ∷ [] → makes e ≡ 1 → count_of makes before < count_of makes all
  made makes e before all same is one = omega (arith, ap (count_of makes) same, ap (count_of makes) is, count_append makes es (e ∷ []), one)

  create_does : (relation : List ℕ) (n : ℤ) (st : State) → Sound known m es st → (let e : Effect = ef.Create m.me relation n in Does known m es Ever (then_run (effect e st) (λ _. declare (Child (Fresh (count_of entities_by (m.effects ++ st.effects)))))))
  create_does relation n st sound =
      let e : Effect = ef.Create m.me relation n in
      does_then known m (OneMore known m es e) Ever es (effect e st) _ (effect_does known m es e st (sound.2, tt) sound) (λ all _ new l is kept.
      declare_does known m all (Child (Fresh (count_of entities_by (m.effects ++ st.effects)))) new (inr (made entities_by e (m.effects ++ st.effects) all sound.0 is refl)) kept)

  pub on_entities_does : (x : OnEntities) (st : State) → OfEntities known x → Sound known m es st → Does known m es Ever (doing.on_entities m x st)
  on_entities_does (p.Create relation rank) st h sound = after known m Any Ever es (doing.rank_of m rank st) _ (rank_gives rank st h sound) (λ n new _ kept. create_does relation.name n new kept)
  on_entities_does (p.Remove i) st h sound = after known m (λ e. IsKnown known es (ToEntity e)) Ever es (read.child m i st) _ (child_gives known m told es i st sound) (λ e new here kept. makes known m es (ef.Remove e) new (here, tt) kept)
  on_entities_does (p.Priority i a) st h sound = after known m (λ e. IsKnown known es (ToEntity e)) Ever es (read.child m i st) _ (child_gives known m told es i st sound) (λ e new here kept.
      after known m Any Ever es (doing.asked_rank m a new) _ (asked_rank_gives a new h kept) (λ n last _ held. makes known m es (ef.SetPriority e n) last (here, tt) held))

  who_gives : (x : Who) (st : State) → Sound known m es st → Gives known m es (λ e. IsKnown known es (ToEntity e)) (doing.who m x st)
  who_gives w.Own st sound = (sound.2, sound)
  who_gives (w.Child i) st sound = child_gives known m told es i st sound

  -- what the fields of a fired event refer to is known
  abbrev FieldsAre : List (List ℕ × Val) → Type 0
  FieldsAre fields = AllByRecursion (IsKnown known es) (flat_map (λ field. in_value field.1) fields)

  put_is : (x : List ℕ × Val) (fields : List (List ℕ × Val)) → ValueIs known es x.1 → FieldsAre fields → FieldsAre (doing.put_field x fields)
  put_is x [] h k = all_append (IsKnown known es) (in_value x.1) [] h tt
  put_is x (y ∷ ys) h k =
      let r = all_split (IsKnown known es) (in_value y.1) (flat_map (λ field. in_value field.1) ys) k in
      either_way FieldsAre (is_below x.0 y.0) (x ∷ y ∷ ys) (y ∷ doing.put_field x ys) (all_append (IsKnown known es) (in_value x.1) (flat_map (λ field. in_value field.1) (y ∷ ys)) h k)
      (all_append (IsKnown known es) (in_value y.1) (flat_map (λ field. in_value field.1) (doing.put_field x ys)) r.0 (put_is x ys h r.1))

  fields_gives : (terms : List (List ℕ × Term)) (done : List (List ℕ × Val)) (st : State) → AllByRecursion (λ y. OfTerm known y.1) terms → FieldsAre done → Sound known m es st → Gives known m es FieldsAre (doing.fields_of m terms done st)
  fields_gives [] done st h k sound = (k, sound)
  fields_gives (y ∷ more) done st h k sound = gives_then known m es (ValueIs known es) FieldsAre (eval m y.1 st) _ (eval_gives known m told es y.1 st h.0 sound) (λ x new is kept. fields_gives more (doing.put_field (y.0, x) done) new h.1 (put_is (y.0, x) done is k) kept)

  null_does : (st : State) → Sound known m es st → Does known m es Ever (then_run (effect ef.NewNull st) (λ _. declare (Holds (NewActivity (count_of activities_by (m.effects ++ st.effects))))))
  null_does st sound = does_then known m (OneMore known m es ef.NewNull) Ever es (effect ef.NewNull st) _ (effect_does known m es ef.NewNull st tt sound) (λ all _ new l is kept.
      declare_does known m all (Holds (NewActivity (count_of activities_by (m.effects ++ st.effects)))) new (inr (made activities_by ef.NewNull (m.effects ++ st.effects) all sound.0 is refl), tt) kept)

  pub on_activities_does : (x : OnActivities) (st : State) → OfActivities known x → Sound known m es st → Does known m es Ever (doing.on_activities m x st)
  on_activities_does (p.Attach someone a) st h sound = after known m (λ e. IsKnown known es (ToEntity e)) Ever es (doing.who m someone st) _ (who_gives someone st sound) (λ e new there kept.
      after known m ActivityIs Ever es (doing.activity_of m a new) _ (activity_of_gives a new h kept) (λ r last here held.
      after known m Any Ever es (read.used_active m r last) _ (used_active_gives known m told es r last held) (λ _ end _ left. makes known m es (ef.Attach e r) end (there, (here, tt)) left)))
  on_activities_does (p.Detach someone a) st h sound = after known m (λ e. IsKnown known es (ToEntity e)) Ever es (doing.who m someone st) _ (who_gives someone st sound) (λ e new there kept.
      after known m ActivityIs Ever es (doing.activity_of m a new) _ (activity_of_gives a new h kept) (λ r last here held.
      after known m Any Ever es (read.used m r last) _ (used_gives known m told es r last held) (λ _ end _ left. makes known m es (ef.Detach e r) end (there, (here, tt)) left)))
  on_activities_does (p.Mask event on a) st h sound = after known m ActivityIs Ever es (doing.activity_of m a st) _ (activity_of_gives a st h sound) (λ r new here kept.
      after known m Any Ever es (read.used m r new) _ (used_gives known m told es r new kept) (λ _ last _ held.
      after known m Any Ever es (read.attached m r last) _ (attached_gives known m told es r last held) (λ b end _ left.
      does_tested known m Ever es f.Detached b (effect (ef.SetMask m.me r event.name on)) end left (makes known m es (ef.SetMask m.me r event.name on) end (left.2, (here, tt)) left))))
  on_activities_does (p.Fire event a service fields) st h sound = after known m ActivityIs Ever es (doing.activity_of m a st) _ (activity_of_gives a st h.0 sound) (λ r new here kept.
      after known m FieldsAre Ever es (doing.fields_of m fields [] new) _ (fields_gives fields [] new h.1 tt kept) (λ xs last are held.
      after known m Any Ever es (read.used_active m r last) _ (used_active_gives known m told es r last held) (λ _ end _ left. makes known m es (ef.Fire r event service xs) end (here, are) left)))
  on_activities_does p.Null st h sound = null_does st sound
  on_activities_does (p.End a) st h sound = after known m ActivityIs Ever es (doing.activity_of m a st) _ (activity_of_gives a st h sound) (λ r new here kept.
      after known m Any Ever es (read.used_active m r new) _ (used_active_gives known m told es r new kept) (λ seen last _ held.
      does_tested known m Ever es f.NotNull seen.null (effect (ef.EndNull r)) last held (makes known m es (ef.EndNull r) last (here, tt) held)))
  on_activities_does (p.Bind a b) st h sound = after known m Any Ever es (doing.text_of m a st) _ (text_of_gives a st h.0 sound) (λ name new _ kept.
      after known m ActivityIs Ever es (doing.activity_of m b new) _ (activity_of_gives b new h.1 kept) (λ r last here held.
      does_tested known m Ever es f.Range (not (bytes_eq name [])) _ last held
      (after known m Any Ever es (read.used_active m r last) _ (used_active_gives known m told es r last held) (λ _ end _ left.
      after known m (BoundIs known es) Ever es (read.named m name end) _ (named_gives known m told es name end left) (λ bound stop _ stays.
      does_tested known m Ever es f.Bound (is_none bound) (effect (ef.Bind name r)) stop stays (makes known m es (ef.Bind name r) stop (here, tt) stays))))))
  on_activities_does (p.Unbind a) st h sound = after known m Any Ever es (doing.text_of m a st) _ (text_of_gives a st h sound) (λ name new _ kept.
      after known m (BoundIs known es) Ever es (read.named m name new) _ (named_gives known m told es name new kept) (λ bound last _ held.
      does_tested known m Ever es f.Unbound (not (is_none bound)) (effect (ef.Unbind name)) last held (makes known m es (ef.Unbind name) last tt held)))
  on_activities_does (p.Suspend a) st h sound = after known m Any Ever es (doing.int_of m a st) _ (int_of_gives a st h sound) (λ n new _ kept.
      does_tested known m Ever es f.Range (doing.is_within (pos 1) doing.last_moment n) _ new kept
      (after known m Any Ever es (read.now m new) _ (now_gives known m told es new kept) (λ time last _ held.
      does_tested known m Ever es f.Range (int_le (time +ℤ n) doing.last_moment) (effect (ef.Suspend (Known m.arguments.activity.0) (unsigned_abs (time +ℤ n)))) last held
      (makes known m es (ef.Suspend (Known m.arguments.activity.0) (unsigned_abs (time +ℤ n))) last (inl told.activity, tt) held))))
  on_activities_does (p.Resume a) st h sound = after known m ActivityIs Ever es (doing.activity_of m a st) _ (activity_of_gives a st h sound) (λ r new here kept.
      after known m Any Ever es (read.used m r new) _ (used_gives known m told es r new kept) (λ _ last _ held. makes known m es (ef.Resume r) last (here, tt) held))

  repeat_gives : (x : Option (Term × Term)) (st : State) → OfRepeat known x → Sound known m es st → Gives known m es Any (doing.repeat_of m x st)
  repeat_gives None st h sound = (tt, sound)
  repeat_gives (Some r) st h sound = gives_then known m es Any Any (doing.int_of m r.0 st) _ (int_of_gives r.0 st h.0 sound) (λ n new _ kept. gives_then known m es Any Any (doing.int_of m r.1 new) _ (int_of_gives r.1 new h.1 kept) (λ o last _ held. (tt, held)))

  set_does : (e : Effect) (st : State) → timers_by e ≡ 1 → AllByRecursion (IsKnown known es) (in_effect e) → Sound known m es st → Does known m es Ever (then_run (effect e st) (λ _. declare (Holds (NewTimer (count_of timers_by (m.effects ++ st.effects))))))
  set_does e st one h sound = does_then known m (OneMore known m es e) Ever es (effect e st) _ (effect_does known m es e st h sound) (λ all _ new l is kept.
      declare_does known m all (Holds (NewTimer (count_of timers_by (m.effects ++ st.effects)))) new (inr (made timers_by e (m.effects ++ st.effects) all sound.0 is one), tt) kept)

  pub on_timers_does : (x : OnTimers) (st : State) → OfTimers known x → Sound known m es st → Does known m es Ever (doing.on_timers m x st)
  on_timers_does (p.Start a start again keep) st h sound = after known m ActivityIs Ever es (doing.activity_of m a st) _ (activity_of_gives a st h.0 sound) (λ r new here kept.
      after known m Any Ever es (doing.int_of m start new) _ (int_of_gives start new h.1 kept) (λ n last _ held.
      after known m Any Ever es (doing.repeat_of m again last) _ (repeat_gives again last h.2 held) (λ times end _ left.
      does_tested known m Ever es f.Range (doing.is_within (pos 0) doing.last_moment n && doing.repeats_well again times) _ end left
      (after known m Any Ever es (read.used_active m r end) _ (used_active_gives known m told es r end left) (λ _ stop _ stays.
      set_does (ef.SetTimer r (unsigned_abs n) (unsigned_abs times.0) (unsigned_abs times.1) keep) stop refl (here, tt) stays)))))
  on_timers_does (p.Cancel a) st h sound = after known m (λ r. IsKnown known es (ToTimer r)) Ever es (doing.timer_of m a st) _ (timer_of_gives a st h sound) (λ t new here kept. makes known m es (ef.CancelTimer t) new (here, tt) kept)
