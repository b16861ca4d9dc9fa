-- Steps whose constants have spellings make effects whose values have one, and leave variables that do.
use Rattle.std.proofs.Common.{◌≡◌, ◌+◌, ◌<◌, ◌≤◌, ◌^◌, Bool, true, false, not, cond, ℕ, zero, suc, ℤ, pos, List, [], ◌∷◌, ◌++◌, length, map, take, Option, Some, None, refl, sym, ap, subst, arith, append_assoc, append-nil, ◌+ℤ◌}
use Rattle.std.specs.Prelude.{nat_lt, nat_le, int_le, is_none, unsigned_abs, slice_get, slice_set, bytes_eq, ◌&&◌}
use Rattle.std.specs.List.{AllByRecursion}
use Rattle.std.proofs.lemmas.Bool.{cond_both, ltb-true}
use Rattle.std.proofs.lemmas.List.{length-append}
use Rattle.slee_value.specs.Order.{is_below}
use Rattle.slee_value.specs.declared.kind.Kind.{Kind}
use Rattle.slee_value.specs.declared.value.Value.TheVariants as v
use Rattle.slee_effect.specs.declared.reference.Ref.{Ref}
use Rattle.slee_effect.specs.declared.reference.Ref.TheVariants.{Known, Fresh}
use Rattle.slee_effect.specs.declared.value.Val.{Val}
use Rattle.slee_effect.specs.declared.value.Val.TheVariants.{Plain, NewActivity, NewTimer}
use Rattle.slee_effect.specs.declared.effect.Effect.{Effect}
use Rattle.slee_effect.specs.declared.effect.Effect.TheVariants as ef
use Rattle.script_types.specs.Program as p
use Rattle.script_types.specs.Program.{Assigning, BlockProgram, Call, MethodProgram, OnActivities, OnEntities, OnTimers, Program, Rank, Saying, Step, Steps, Term}
use Rattle.script_types.specs.declared.step.Range.{Range}
use Rattle.script_types.specs.declared.step.Range.TheVariants as range
use Rattle.script_types.specs.declared.step.Who.{Who}
use Rattle.script_types.specs.declared.step.Who.TheVariants as w
use Rattle.script_meaning.specs.declared.outcome.FailKind.{FailKind}
use Rattle.script_meaning.specs.declared.outcome.FailKind.TheVariants as f
use Rattle.script_meaning.specs.Answers.{initial}
use Rattle.script_meaning.specs.Calls.{apart, call_at, keep_result}
use Rattle.script_meaning.specs.Doing as doing
use Rattle.script_meaning.specs.Observing as read
use Rattle.script_meaning.specs.Overlay.{count_of, entities_by, activities_by, timers_by}
use Rattle.script_meaning.specs.Running.{Setting, Variable, Holds, Child, State, Ending, Gave, Broke, Needs, Stays, Run, then_run, give, break, tested, tick_at, ticked, effect, effect_limit, effect_bytes_limit, bytes_of, declare, assign, scoped, found}
use Rattle.script_meaning.specs.Steps.{Flow, Next, Returned, Calling, act, act_all, arguments_of, ask_rollback, choose, does_call, either, followed, items, next, says, turns, walk}
use Rattle.script_meaning.specs.Meaning.{start}
use Rattle.script_meaning.specs.Terms.{eval}
use Rattle.script_meaning.specs.Values.{activity_value, with_flag, with_int, with_text, with_activity, with_timer}
use Rattle.router_laws_values.specs.Spelled.{ActivitiesSpelled, AssigningSpelled, EffectSpelled, EntitiesSpelled, IsSpelled, MethodsSpelled, RankSpelled, RepeatSpelled, SayingSpelled, SettingSpelled, StepSpelled, StepsSpelled, TermSpelled, TimersSpelled, VariableSpelled}
use Rattle.router_laws_values.proofs.Texts.{failure_text}
use Rattle.router_laws_values.proofs.SpelledRuns.{Any, Gives}
use Rattle.router_laws_values.proofs.SpelledTerms.{initial_is, activities_gives, activity_is, attached_gives, child_gives, children_gives, eval_gives, named_gives, now_gives, used_active_gives, used_gives}
use Rattle.router_state.specs.Fits.{is_i64, is_text}

all_appended : {X : Type 0} (P : X → Type 0) (xs : List X) (y : X) → AllByRecursion P xs → P y → AllByRecursion P (xs ++ y ∷ [])
all_appended P [] y all one = (one, tt)
all_appended P (x ∷ xs) y all one = (all.0, all_appended P xs y all.1 one)

fewer : (n : ℕ) (xs : List Variable) → AllByRecursion VariableSpelled xs → AllByRecursion VariableSpelled (take n xs)
fewer zero xs h = tt
fewer (suc n) [] h = tt
fewer (suc n) (x ∷ xs) h = (h.0, fewer n xs h.1)

set_variable : (xs : List Variable) (i : ℕ) (x : Variable) → VariableSpelled x → AllByRecursion VariableSpelled xs → AllByRecursion VariableSpelled (slice_set xs i x)
set_variable [] i x h k = tt
set_variable (y ∷ xs) zero x h k = (h, k.1)
set_variable (y ∷ xs) (suc i) x h k = (k.0, set_variable xs i x h k.1)

-- what values a list of named values has
abbrev FieldsSpelled : List (List ℕ × Val) → Type 0
FieldsSpelled fields = AllByRecursion (λ (x : List ℕ × Val). IsSpelled x.1) fields

put_spelled : (x : List ℕ × Val) (fields : List (List ℕ × Val)) → IsSpelled x.1 → FieldsSpelled fields → FieldsSpelled (doing.put_field x fields)
put_spelled x [] h k = (h, tt)
put_spelled x (y ∷ ys) h k = cond_both (is_below x.0 y.0) (x ∷ y ∷ ys) (y ∷ doing.put_field x ys) FieldsSpelled (λ _. (h, k)) (λ _. (k.0, put_spelled x ys h k.1))

holds_all : (refs : List Ref) → AllByRecursion VariableSpelled (map (λ r. Holds (activity_value r)) refs)
holds_all [] = tt
holds_all (r ∷ refs) = (activity_is r, holds_all refs)

children_all : (refs : List Ref) → AllByRecursion VariableSpelled (map Child refs)
children_all [] = tt
children_all (r ∷ refs) = (tt, children_all refs)

values_held : (xs : List Val) → AllByRecursion IsSpelled xs → AllByRecursion VariableSpelled (map Holds xs)
values_held [] h = tt
values_held (x ∷ xs) h = (h.0, values_held xs h.1)

-- a run whose effects and variables have spellings
abbrev pub IsGood : List Effect → State → Type 0
IsGood before st = AllByRecursion EffectSpelled (before ++ st.effects) × (length st.effects ≤ effect_limit) × AllByRecursion VariableSpelled st.variables

-- a part gives something of which this is so, and leaves a good run; or it gives nothing, and the text of its failure is one
abbrev pub Does : {A : Type 0} → List Effect → (A → Type 0) → Ending A → Type 0
Does before P (Gave x st) = P x × IsGood before st
Does before P (Broke kind text st) = is_text text ≡ true
Does before P _ = Unit {0}

-- what comes behind a step has a spelling
abbrev pub FlowSpelled : Flow → Type 0
FlowSpelled Next = Unit {0}
FlowSpelled (Returned x) = IsSpelled x

module _ (before : List Effect) where
  pub does_then : {A B : Type 0} (P : A → Type 0) (Q : B → Type 0) (r : Ending A) (g : A → Run B) → Does before P r → ((x : A) (st : State) → P x → IsGood before st → Does before Q (g x st)) → Does before Q (then_run r g)
  does_then P Q (Gave x st) g h go = go x st h.0 h.1
  does_then P Q (Broke kind text st) g h go = h
  does_then P Q (Needs key) g h go = tt
  does_then P Q Stays g h go = tt

  does_tested : {A : Type 0} (Q : A → Type 0) (kind : FailKind) (b : Bool) (x : Run A) (st : State) → Does before Q (x st) → Does before Q (then_run (tested kind b st) (λ _. x))
  does_tested Q kind true x st h = h
  does_tested Q kind false x st h = failure_text kind

  does_if : {A : Type 0} (Q : A → Type 0) (b : Bool) (x y : Ending A) → (b ≡ true → Does before Q x) → Does before Q y → Does before Q (cond b x y)
  does_if Q true x y h g = h refl
  does_if Q false x y h g = g

  does_int : {A : Type 0} (P : A → Type 0) (x : Val) (g : ℤ → Run A) (st : State) → IsSpelled x → ((n : ℤ) → is_i64 n ≡ true → Does before P (g n st)) → Does before P (with_int x g st)
  does_int P (Plain (v.Int n)) g st is go = go n is
  does_int P _ g st is go = tt

  does_text : {A : Type 0} (P : A → Type 0) (x : Val) (g : List ℕ → Run A) (st : State) → IsSpelled x → ((t : List ℕ) → is_text t ≡ true → Does before P (g t st)) → Does before P (with_text x g st)
  does_text P (Plain (v.Text t)) g st is go = go t is
  does_text P _ g st is go = tt

  does_activity : {A : Type 0} (P : A → Type 0) (x : Val) (g : Ref → Run A) (st : State) → ((r : Ref) → Does before P (g r st)) → Does before P (with_activity x g st)
  does_activity P (Plain (v.Activity n)) g st go = go (Known n.0)
  does_activity P (NewActivity n) g st go = go (Fresh n)
  does_activity P _ g st go = tt

  does_timer : {A : Type 0} (P : A → Type 0) (x : Val) (g : Ref → Run A) (st : State) → ((r : Ref) → Does before P (g r st)) → Does before P (with_timer x g st)
  does_timer P (Plain (v.Timer n)) g st go = go (Known n.0)
  does_timer P (NewTimer n) g st go = go (Fresh n)
  does_timer P _ g st go = tt

  with_effect : (e : Effect) (st : State) → EffectSpelled e → nat_lt (length st.effects) effect_limit ≡ true → IsGood before st → (let new : Ending (Unit {0}) = Gave tt (record st { effects = st.effects ++ e ∷ [] }) in Does before Any new)
  with_effect e st h room good =
      (tt, (subst (AllByRecursion EffectSpelled) (append_assoc before st.effects (e ∷ [])) (all_appended EffectSpelled (before ++ st.effects) e good.0 h), more (length st.effects) (length (st.effects ++ e ∷ [])) (ltb-true (length st.effects) effect_limit room) (length-append st.effects (e ∷ [])), good.2))
    where
      more : (n k : ℕ) → n < 256 → k ≡ n + 1 → k ≤ 256
      more n k less same = omega (arith, less, same)

  pub effect_does : (e : Effect) (st : State) → EffectSpelled e → IsGood before st → Does before Any (effect e st)
  unfolding effect
  effect_does e st h good =
      let new : Ending (Unit {0}) = Gave tt (record st { effects = st.effects ++ e ∷ [] }) in
      let full : Ending (Unit {0}) = break f.TooMuch st in
      does_if {A = Unit {0}} Any (nat_lt (length st.effects) effect_limit) (cond (nat_le (bytes_of (st.effects ++ e ∷ [])) effect_bytes_limit) new full) full
      (λ room. does_if {A = Unit {0}} Any (nat_le (bytes_of (st.effects ++ e ∷ [])) effect_bytes_limit) new full (λ _. with_effect e st h room good) (failure_text f.TooMuch)) (failure_text f.TooMuch)

  declare_does : (x : Variable) (st : State) → VariableSpelled x → IsGood before st → Does before Any (declare x st)
  declare_does x st h good = (tt, (good.0, good.1, all_appended VariableSpelled st.variables x good.2 h))

  assign_does : (i : ℕ) (x : Val) (st : State) → IsSpelled x → IsGood before st → Does before Any (assign i x st)
  assign_does i x st h good =
      let new : Ending (Unit {0}) = Gave tt (record st { variables = slice_set st.variables i (Holds x) }) in
      let none : Ending (Unit {0}) = Stays in
      does_if {A = Unit {0}} Any (nat_lt i (length st.variables)) new none (λ _. (tt, (good.0, good.1, set_variable st.variables i (Holds x) h good.2))) tt

  tick_does : {A : Type 0} (P : A → Type 0) (x : Run A) (n : ℕ) (st : State) → ((left : ℕ) → Does before P (x (record st { left = left }))) → Does before P (then_run (tick_at n st) (λ _. x))
  tick_does P x zero st h = failure_text f.Budget
  tick_does P x (suc n) st h = h n

  ticked_does : {A : Type 0} (P : A → Type 0) (x : Run A) (st : State) → IsGood before st → ((st : State) → IsGood before st → Does before P (x st)) → Does before P (ticked x st)
  ticked_does P x st good h = tick_does P x st.left st (λ left. h (record st { left = left }) good)

  -- wherever a good run has come to, this leaves a good one
  abbrev pub Always : Run Flow → Type 0
  Always x = (st : State) → IsGood before st → Does before FlowSpelled (x st)

  next_does : (x : Run (Unit {0})) (st : State) → Does before Any (x st) → Does before FlowSpelled (next x st)
  next_does x st h = does_then Any FlowSpelled (x st) (λ _. give Next) h (λ _ new _ kept. (tt, kept))

  followed_does : (flow : Flow) (x : Run Flow) (st : State) → FlowSpelled flow → Always x → IsGood before st → Does before FlowSpelled (followed flow x st)
  followed_does Next x st h go good = go st good
  followed_does (Returned y) x st h go good = (h, good)

  either_does : (b : Bool) (x y : Run Flow) (st : State) → Always x → Always y → IsGood before st → Does before FlowSpelled (either b x y st)
  either_does true x y st h g good = h st good
  either_does false x y st h g good = g st good

  flag_does : (x : Val) (g : Bool → Run Flow) (st : State) → ((b : Bool) → Does before FlowSpelled (g b st)) → Does before FlowSpelled (with_flag x g st)
  flag_does (Plain (v.Bool b)) g st h = h b
  flag_does _ g st h = tt

  choose_does : (t : Val) (x y : Run Flow) (st : State) → Always x → Always y → IsGood before st → Does before FlowSpelled (choose t x y st)
  choose_does t x y st h g good = flag_does t (λ b. either b x y) st (λ b. either_does b x y st h g good)

  turns_does : (n : ℕ) (test : Run Val) (body : Run Flow) → ((st : State) → IsGood before st → Does before IsSpelled (test st)) → Always body → Always (turns n test body)
  turns_does zero test body h g st good = failure_text f.Budget
  turns_does (suc n) test body h g st good =
      let go : Run Flow = λ st. then_run (body st) (λ flow. followed flow (turns n test body)) in
      does_then IsSpelled FlowSpelled (test st) (λ x. choose x go (give Next)) (h st good) (λ x new _ kept. choose_does x go (give Next) new
      (λ s held. does_then FlowSpelled FlowSpelled (body s) (λ flow. followed flow (turns n test body)) (g s held) (λ flow last is left. followed_does flow (turns n test body) last is (turns_does n test body h g) left))
      (λ s held. (tt, held)) kept)

  scoped_does : (x : Run Flow) (st : State) → Does before FlowSpelled (x st) → Does before FlowSpelled (scoped x st)
  scoped_does x st h = does_then FlowSpelled FlowSpelled (x st) (λ y new. Gave y (record new { variables = take (length st.variables) new.variables })) h
      (λ y new is kept. (is, (kept.0, kept.1, fewer (length st.variables) new.variables kept.2)))

  walk_does : (xs : List Variable) (body : Run Flow) (st : State) → AllByRecursion VariableSpelled xs → Always body → IsGood before st → Does before FlowSpelled (walk xs body st)
  walk_does [] body st are h good = (tt, good)
  walk_does (x ∷ xs) body st are h good =
      let turn : Run Flow = λ st. then_run (declare x st) (λ _. body) in
      does_then FlowSpelled FlowSpelled (scoped turn st) (λ flow. followed flow (walk xs body))
      (scoped_does turn st (does_then Any FlowSpelled (declare x st) (λ _. body) (declare_does x st are.0 good) (λ _ new _ kept. h new kept)))
      (λ flow new is kept. followed_does flow (walk xs body) new is (λ s held. walk_does xs body s are.1 h held) kept)

module _ (m : Setting) (told : SettingSpelled m) (small : length m.effects < 2 ^ 61) where
  -- a part that makes no effect and leaves variables leaves a good run good
  lift : {A : Type 0} (P : A → Type 0) (st : State) (r : Ending A) → IsGood m.effects st → Gives m (m.effects ++ st.effects) st.variables P r → Does m.effects P r
  lift P st (Gave x su) good h =
      (h.0, (subst (AllByRecursion EffectSpelled) (sym h.1.0) good.0, same (length m.effects) (length su.effects) (length st.effects) (length (m.effects ++ su.effects)) (length (m.effects ++ st.effects)) (length-append m.effects su.effects) (length-append m.effects st.effects) (ap length h.1.0) good.1, subst (AllByRecursion VariableSpelled) (sym h.1.1) good.2))
    where
      same : (i j k n o : ℕ) → n ≡ i + j → o ≡ i + k → n ≡ o → k ≤ 256 → j ≤ 256
      same i j k n o one two is le = omega (arith, one, two, is, le)
  lift P st (Broke kind text su) good h = h
  lift P st (Needs key) good h = tt
  lift P st Stays good h = tt

  few : (st : State) → IsGood m.effects st → length (m.effects ++ st.effects) < 2 ^ 62
  few st good = sum (length m.effects) (length st.effects) (length (m.effects ++ st.effects)) (length-append m.effects st.effects) small good.1
    where
      sum : (i j n : ℕ) → n ≡ i + j → i < 2 ^ 61 → j ≤ 256 → n < 2 ^ 62
      sum i j n same less le = omega (arith, same, less, le)

  eval_does : (x : Term) (st : State) → TermSpelled x → IsGood m.effects st → Does m.effects IsSpelled (eval m x st)
  eval_does x st h good = lift IsSpelled st (eval m x st) good (eval_gives m told (m.effects ++ st.effects) st.variables good.0 (few st good) good.2 x st h (refl, refl))

  int_does : (x : Term) (st : State) → TermSpelled x → IsGood m.effects st → Does m.effects (λ n. is_i64 n ≡ true) (doing.int_of m x st)
  int_does x st h good = does_then m.effects IsSpelled (λ n. is_i64 n ≡ true) (eval m x st) _ (eval_does x st h good) (λ y new is kept. does_int m.effects (λ n. is_i64 n ≡ true) y give new is (λ n fits. (fits, kept)))

  text_does : (x : Term) (st : State) → TermSpelled x → IsGood m.effects st → Does m.effects (λ t. is_text t ≡ true) (doing.text_of m x st)
  text_does x st h good = does_then m.effects IsSpelled (λ t. is_text t ≡ true) (eval m x st) _ (eval_does x st h good) (λ y new is kept. does_text m.effects (λ t. is_text t ≡ true) y give new is (λ t fits. (fits, kept)))

  activity_does : (x : Term) (st : State) → TermSpelled x → IsGood m.effects st → Does m.effects Any (doing.activity_of m x st)
  activity_does x st h good = does_then m.effects IsSpelled Any (eval m x st) _ (eval_does x st h good) (λ y new _ kept. does_activity m.effects Any y give new (λ r. (tt, kept)))

  timer_does : (x : Term) (st : State) → TermSpelled x → IsGood m.effects st → Does m.effects Any (doing.timer_of m x st)
  timer_does x st h good = does_then m.effects IsSpelled Any (eval m x st) _ (eval_does x st h good) (λ y new _ kept. does_timer m.effects Any y give new (λ r. (tt, kept)))

  used_does : (r : Ref) (st : State) → IsGood m.effects st → Does m.effects Any (read.used m r st)
  used_does r st good = lift Any st (read.used m r st) good (used_gives m told (m.effects ++ st.effects) st.variables good.0 (few st good) good.2 r st (refl, refl))

  active_does : (r : Ref) (st : State) → IsGood m.effects st → Does m.effects Any (read.used_active m r st)
  active_does r st good = lift Any st (read.used_active m r st) good (used_active_gives m told (m.effects ++ st.effects) st.variables good.0 (few st good) good.2 r st (refl, refl))

  attached_does : (r : Ref) (st : State) → IsGood m.effects st → Does m.effects Any (read.attached m r st)
  attached_does r st good = lift Any st (read.attached m r st) good (attached_gives m told (m.effects ++ st.effects) st.variables good.0 (few st good) good.2 r st (refl, refl))

  named_does : (name : List ℕ) (st : State) → IsGood m.effects st → Does m.effects Any (read.named m name st)
  named_does name st good = lift Any st (read.named m name st) good (named_gives m told (m.effects ++ st.effects) st.variables good.0 (few st good) good.2 name st (refl, refl))

  now_does : (st : State) → IsGood m.effects st → Does m.effects (λ n. is_i64 n ≡ true) (read.now m st)
  now_does st good = lift (λ n. is_i64 n ≡ true) st (read.now m st) good (now_gives m told (m.effects ++ st.effects) st.variables good.0 (few st good) good.2 st (refl, refl))

  child_does : (i : ℕ) (st : State) → IsGood m.effects st → Does m.effects Any (read.child m i st)
  child_does i st good = lift Any st (read.child m i st) good (child_gives m told (m.effects ++ st.effects) st.variables good.0 (few st good) good.2 i st (refl, refl))

  assigns_does : (x : Assigning) (st : State) → AssigningSpelled x → IsGood m.effects st → Does m.effects Any (doing.assigns m x st)
  assigns_does (p.New a) st h good = does_then m.effects IsSpelled Any (eval m a st) _ (eval_does a st h good) (λ y new is kept. declare_does m.effects (Holds y) new is kept)
  assigns_does (p.Variable i a) st h good = does_then m.effects IsSpelled Any (eval m a st) _ (eval_does a st h good) (λ y new is kept. assign_does m.effects i y new is kept)
  assigns_does (p.Field field a) st h good = does_then m.effects IsSpelled Any (eval m a st) _ (eval_does a st h good) (λ y new is kept. effect_does m.effects (ef.SetField m.me field.name y) new is kept)
  assigns_does (p.Attribute a key b) st h good = does_then m.effects Any Any (doing.activity_of m a st) _ (activity_does a st h.0 good) (λ r new _ kept.
      does_then m.effects IsSpelled Any (eval m b new) _ (eval_does b new h.1 kept) (λ y last is held.
      does_then m.effects Any Any (read.used m r last) _ (used_does r last held) (λ _ end _ left. effect_does m.effects (ef.SetAttr r key.name y) end is left)))

  asked_does : (x : Term) (st : State) → TermSpelled x → IsGood m.effects st → Does m.effects (λ n. is_i64 n ≡ true) (doing.asked_rank m x st)
  asked_does x st h good = does_then m.effects (λ n. is_i64 n ≡ true) (λ n. is_i64 n ≡ true) (doing.int_of m x st) _ (int_does x st h good) (λ n new is kept. does_tested m.effects (λ n. is_i64 n ≡ true) f.Range _ (give n) new (is, kept))

  rank_does : (x : Rank) (st : State) → RankSpelled x → IsGood m.effects st → Does m.effects (λ n. is_i64 n ≡ true) (doing.rank_of m x st)
  rank_does (p.Given n) st h good = (h, good)
  rank_does (p.Asked x) st h good = asked_does x st h good

  create_does : (relation : List ℕ) (n : ℤ) (st : State) → is_i64 n ≡ true → IsGood m.effects st → (let e : Effect = ef.Create m.me relation n in Does m.effects Any (then_run (effect e st) (λ _. declare (Child (Fresh (count_of entities_by (m.effects ++ st.effects)))))))
  create_does relation n st is good =
      let e : Effect = ef.Create m.me relation n in
      does_then m.effects Any Any (effect e st) _ (effect_does m.effects e st is good) (λ _ new _ kept. declare_does m.effects (Child (Fresh (count_of entities_by (m.effects ++ st.effects)))) new tt kept)

  on_entities_does : (x : OnEntities) (st : State) → EntitiesSpelled x → IsGood m.effects st → Does m.effects Any (doing.on_entities m x st)
  on_entities_does (p.Create relation rank) st h good = does_then m.effects (λ n. is_i64 n ≡ true) Any (doing.rank_of m rank st) _ (rank_does rank st h good) (λ n new is kept. create_does relation.name n new is kept)
  on_entities_does (p.Remove i) st h good = does_then m.effects Any Any (read.child m i st) _ (child_does i st good) (λ e new _ kept. effect_does m.effects (ef.Remove e) new tt kept)
  on_entities_does (p.Priority i a) st h good = does_then m.effects Any Any (read.child m i st) _ (child_does i st good) (λ e new _ kept.
      does_then m.effects (λ n. is_i64 n ≡ true) Any (doing.asked_rank m a new) _ (asked_does a new h kept) (λ n last is held. effect_does m.effects (ef.SetPriority e n) last is held))

  who_does : (x : Who) (st : State) → IsGood m.effects st → Does m.effects Any (doing.who m x st)
  who_does w.Own st good = (tt, good)
  who_does (w.Child i) st good = child_does i st good

  fields_does : (terms : List (List ℕ × Term)) (done : List (List ℕ × Val)) (st : State) → AllByRecursion (λ (y : List ℕ × Term). TermSpelled y.1) terms → FieldsSpelled done → IsGood m.effects st → Does m.effects FieldsSpelled (doing.fields_of m terms done st)
  fields_does [] done st h k good = (k, good)
  fields_does (y ∷ more) done st h k good = does_then m.effects IsSpelled FieldsSpelled (eval m y.1 st) _ (eval_does y.1 st h.0 good) (λ x new is kept. fields_does more (doing.put_field (y.0, x) done) new h.1 (put_spelled (y.0, x) done is k) kept)

  null_does : (st : State) → IsGood m.effects st → Does m.effects Any (then_run (effect ef.NewNull st) (λ _. declare (Holds (NewActivity (count_of activities_by (m.effects ++ st.effects))))))
  null_does st good = does_then m.effects Any Any (effect ef.NewNull st) _ (effect_does m.effects ef.NewNull st tt good) (λ _ new _ kept. declare_does m.effects (Holds (NewActivity (count_of activities_by (m.effects ++ st.effects)))) new tt kept)

  on_activities_does : (x : OnActivities) (st : State) → ActivitiesSpelled x → IsGood m.effects st → Does m.effects Any (doing.on_activities m x st)
  on_activities_does (p.Attach someone a) st h good = does_then m.effects Any Any (doing.who m someone st) _ (who_does someone st good) (λ e new _ kept.
      does_then m.effects Any Any (doing.activity_of m a new) _ (activity_does a new h kept) (λ r last _ held.
      does_then m.effects Any Any (read.used_active m r last) _ (active_does r last held) (λ _ end _ left. effect_does m.effects (ef.Attach e r) end tt left)))
  on_activities_does (p.Detach someone a) st h good = does_then m.effects Any Any (doing.who m someone st) _ (who_does someone st good) (λ e new _ kept.
      does_then m.effects Any Any (doing.activity_of m a new) _ (activity_does a new h kept) (λ r last _ held.
      does_then m.effects Any Any (read.used m r last) _ (used_does r last held) (λ _ end _ left. effect_does m.effects (ef.Detach e r) end tt left)))
  on_activities_does (p.Mask event on a) st h good = does_then m.effects Any Any (doing.activity_of m a st) _ (activity_does a st h good) (λ r new _ kept.
      does_then m.effects Any Any (read.used m r new) _ (used_does r new kept) (λ _ last _ held.
      does_then m.effects Any Any (read.attached m r last) _ (attached_does r last held) (λ b end _ left.
      does_tested m.effects Any f.Detached b (effect (ef.SetMask m.me r event.name on)) end (effect_does m.effects (ef.SetMask m.me r event.name on) end tt left))))
  on_activities_does (p.Fire event a service fields) st h good = does_then m.effects Any Any (doing.activity_of m a st) _ (activity_does a st h.0 good) (λ r new _ kept.
      does_then m.effects FieldsSpelled Any (doing.fields_of m fields [] new) _ (fields_does fields [] new h.1 tt kept) (λ xs last are held.
      does_then m.effects Any Any (read.used_active m r last) _ (active_does r last held) (λ _ end _ left. effect_does m.effects (ef.Fire r event service xs) end are left)))
  on_activities_does p.Null st h good = null_does st good
  on_activities_does (p.End a) st h good = does_then m.effects Any Any (doing.activity_of m a st) _ (activity_does a st h good) (λ r new _ kept.
      does_then m.effects Any Any (read.used_active m r new) _ (active_does r new kept) (λ seen last _ held.
      does_tested m.effects Any f.NotNull seen.null (effect (ef.EndNull r)) last (effect_does m.effects (ef.EndNull r) last tt held)))
  on_activities_does (p.Bind a b) st h good = does_then m.effects (λ t. is_text t ≡ true) Any (doing.text_of m a st) _ (text_does a st h.0 good) (λ name new is kept.
      does_then m.effects Any Any (doing.activity_of m b new) _ (activity_does b new h.1 kept) (λ r last _ held.
      does_tested m.effects Any f.Range (not (bytes_eq name [])) _ last
      (does_then m.effects Any Any (read.used_active m r last) _ (active_does r last held) (λ _ end _ left.
      does_then m.effects Any Any (read.named m name end) _ (named_does name end left) (λ bound stop _ stays.
      does_tested m.effects Any f.Bound (is_none bound) (effect (ef.Bind name r)) stop (effect_does m.effects (ef.Bind name r) stop is stays))))))
  on_activities_does (p.Unbind a) st h good = does_then m.effects (λ t. is_text t ≡ true) Any (doing.text_of m a st) _ (text_does a st h good) (λ name new _ kept.
      does_then m.effects Any Any (read.named m name new) _ (named_does name new kept) (λ bound last _ held.
      does_tested m.effects Any f.Unbound (not (is_none bound)) (effect (ef.Unbind name)) last (effect_does m.effects (ef.Unbind name) last tt held)))
  on_activities_does (p.Suspend a) st h good = does_then m.effects (λ n. is_i64 n ≡ true) Any (doing.int_of m a st) _ (int_does a st h good) (λ n new _ kept.
      does_tested m.effects Any f.Range (doing.is_within (pos 1) doing.last_moment n) _ new
      (does_then m.effects (λ n. is_i64 n ≡ true) Any (read.now m new) _ (now_does new kept) (λ time last _ held.
      does_tested m.effects Any f.Range (int_le (time +ℤ n) doing.last_moment) (effect (ef.Suspend (Known m.arguments.activity.0) (unsigned_abs (time +ℤ n)))) last
      (effect_does m.effects (ef.Suspend (Known m.arguments.activity.0) (unsigned_abs (time +ℤ n))) last tt held))))
  on_activities_does (p.Resume a) st h good = does_then m.effects Any Any (doing.activity_of m a st) _ (activity_does a st h good) (λ r new _ kept.
      does_then m.effects Any Any (read.used m r new) _ (used_does r new kept) (λ _ last _ held. effect_does m.effects (ef.Resume r) last tt held))

  repeat_does : (x : Option (Term × Term)) (st : State) → RepeatSpelled x → IsGood m.effects st → Does m.effects Any (doing.repeat_of m x st)
  repeat_does None st h good = (tt, good)
  repeat_does (Some r) st h good = does_then m.effects (λ n. is_i64 n ≡ true) Any (doing.int_of m r.0 st) _ (int_does r.0 st h.0 good) (λ n new _ kept. does_then m.effects (λ n. is_i64 n ≡ true) Any (doing.int_of m r.1 new) _ (int_does r.1 new h.1 kept) (λ o last _ held. (tt, held)))

  set_does : (e : Effect) (st : State) → EffectSpelled e → IsGood m.effects st → Does m.effects Any (then_run (effect e st) (λ _. declare (Holds (NewTimer (count_of timers_by (m.effects ++ st.effects))))))
  set_does e st h good = does_then m.effects Any Any (effect e st) _ (effect_does m.effects e st h good) (λ _ new _ kept. declare_does m.effects (Holds (NewTimer (count_of timers_by (m.effects ++ st.effects)))) new tt kept)

  on_timers_does : (x : OnTimers) (st : State) → TimersSpelled x → IsGood m.effects st → Does m.effects Any (doing.on_timers m x st)
  on_timers_does (p.Start a start again keep) st h good = does_then m.effects Any Any (doing.activity_of m a st) _ (activity_does a st h.0 good) (λ r new _ kept.
      does_then m.effects (λ n. is_i64 n ≡ true) Any (doing.int_of m start new) _ (int_does start new h.1 kept) (λ n last _ held.
      does_then m.effects Any Any (doing.repeat_of m again last) _ (repeat_does again last h.2 held) (λ times end _ left.
      does_tested m.effects Any f.Range (doing.is_within (pos 0) doing.last_moment n && doing.repeats_well again times) _ end
      (does_then m.effects Any Any (read.used_active m r end) _ (active_does r end left) (λ _ stop _ stays.
      set_does (ef.SetTimer r (unsigned_abs n) (unsigned_abs times.0) (unsigned_abs times.1) keep) stop tt stays)))))
  on_timers_does (p.Cancel a) st h good = does_then m.effects Any Any (doing.timer_of m a st) _ (timer_does a st h good) (λ t new _ kept. effect_does m.effects (ef.CancelTimer t) new tt kept)

  says_does : (x : Saying) (st : State) → SayingSpelled x → IsGood m.effects st → Does m.effects FlowSpelled (says m x st)
  says_does (p.Emit a) st h good = does_then m.effects (λ t. is_text t ≡ true) FlowSpelled (doing.text_of m a st) _ (text_does a st h good) (λ t new is kept. next_does m.effects (effect (ef.Emit m.me t)) new (effect_does m.effects (ef.Emit m.me t) new is kept))
  says_does (p.Usage name a) st h good = does_then m.effects (λ n. is_i64 n ≡ true) FlowSpelled (doing.int_of m a st) _ (int_does a st h good) (λ n new _ kept. next_does m.effects (effect (ef.Usage m.me name n)) new (effect_does m.effects (ef.Usage m.me name n) new tt kept))
  says_does (p.Return a) st h good = does_then m.effects IsSpelled FlowSpelled (eval m a st) _ (eval_does a st h good) (λ x new is kept. (is, kept))
  says_does (p.Throw a) st h good = does_then m.effects (λ t. is_text t ≡ true) FlowSpelled (doing.text_of m a st) _ (text_does a st h good) (λ t new is kept. is)
  says_does p.Rollback st h good = next_does m.effects ask_rollback st (tt, good)

  items_does : (r : Range) (st : State) → IsGood m.effects st → Does m.effects (AllByRecursion VariableSpelled) (items m r st)
  items_does range.Activities st good = does_then m.effects Any (AllByRecursion VariableSpelled) (read.activities m st) _ (lift Any st (read.activities m st) good (activities_gives m told (m.effects ++ st.effects) st.variables good.0 (few st good) good.2 st (refl, refl))) (λ refs new _ kept. (holds_all refs, kept))
  items_does (range.Children relation) st good = does_then m.effects (λ refs. length refs < 2 ^ 63) (AllByRecursion VariableSpelled) (read.children m relation.name st) _ (lift (λ refs. length refs < 2 ^ 63) st (read.children m relation.name st) good (children_gives m told (m.effects ++ st.effects) st.variables good.0 (few st good) good.2 relation.name st (refl, refl))) (λ refs new _ kept. (children_all refs, kept))

  arguments_does : (terms : List Term) (st : State) → AllByRecursion TermSpelled terms → IsGood m.effects st → Does m.effects (AllByRecursion IsSpelled) (arguments_of m terms st)
  arguments_does [] st h good = (tt, good)
  arguments_does (a ∷ more) st h good = does_then m.effects IsSpelled (AllByRecursion IsSpelled) (eval m a st) _ (eval_does a st h.0 good) (λ x new is kept.
      does_then m.effects (AllByRecursion IsSpelled) (AllByRecursion IsSpelled) (arguments_of m more new) (λ xs. give (x ∷ xs)) (arguments_does more new h.1 kept) (λ xs last are held. ((is, are), held)))

  -- calls leave good runs good
  abbrev pub CallsDo : Calling → Type 0
  CallsDo call = (b n : ℕ) (e : Ref) (xs : List Val) (keeps : Bool) (st : State) → AllByRecursion IsSpelled xs → IsGood m.effects st → Does m.effects Any (call b n e xs keeps st)

  invoke_does : (call : Calling) (c : Call) (st : State) → CallsDo call → AllByRecursion TermSpelled c.arguments → IsGood m.effects st → Does m.effects Any (does_call m call c st)
  invoke_does call c st go h good = does_then m.effects Any Any (read.child m c.child st) _ (child_does c.child st good) (λ e new _ kept.
      does_then m.effects (AllByRecursion IsSpelled) Any (arguments_of m c.arguments new) _ (arguments_does c.arguments new h kept) (λ xs last are held. go c.block c.method e xs c.keeps last are held))

  mutual
    act_does : (call : Calling) → CallsDo call → (x : Step) → StepSpelled x → Always m.effects (act m call x)
    act_does call go (p.Assign a) h st good = next_does m.effects (doing.assigns m a) st (assigns_does a st h good)
    act_does call go (p.Entity a) h st good = next_does m.effects (doing.on_entities m a) st (on_entities_does a st h good)
    act_does call go (p.Activity a) h st good = next_does m.effects (doing.on_activities m a) st (on_activities_does a st h good)
    act_does call go (p.Timer a) h st good = next_does m.effects (doing.on_timers m a) st (on_timers_does a st h good)
    act_does call go (p.Say a) h st good = says_does a st h good
    act_does call go (p.Invoke c) h st good = next_does m.effects (does_call m call c) st (invoke_does call c st go h good)
    act_does call go (p.If a body other) h st good = does_then m.effects IsSpelled FlowSpelled (eval m a st) _ (eval_does a st h.0 good) (λ x new _ kept.
        choose_does m.effects x (scoped (act_all m call body)) (scoped (act_all m call other)) new
        (λ s held. scoped_does m.effects (act_all m call body) s (act_all_does call go body h.1 s held)) (λ s held. scoped_does m.effects (act_all m call other) s (act_all_does call go other h.2 s held)) kept)
    act_does call go (p.While a body) h st good = turns_does m.effects (st.left + 1) (eval m a) (scoped (act_all m call body)) (λ s held. eval_does a s h.0 held) (λ s held. scoped_does m.effects (act_all m call body) s (act_all_does call go body h.1 s held)) st good
    act_does call go (p.For over body) h st good = does_then m.effects (AllByRecursion VariableSpelled) FlowSpelled (items m over st) _ (items_does over st good) (λ xs new are kept. walk_does m.effects xs (act_all m call body) new are (λ s held. act_all_does call go body h s held) kept)

    pub act_all_does : (call : Calling) → CallsDo call → (steps : Steps) → StepsSpelled steps → Always m.effects (act_all m call steps)
    act_all_does call go p.Nothing h st good = (tt, good)
    act_all_does call go (p.Then x rest) h st good = does_then m.effects FlowSpelled FlowSpelled (ticked (act m call x) st) (λ flow. followed flow (act_all m call rest))
        (ticked_does m.effects FlowSpelled (act m call x) st good (λ s held. act_does call go x h.0 s held)) (λ flow new is kept. followed_does m.effects flow (act_all m call rest) new is (λ s held. act_all_does call go rest h.1 s held) kept)

-- calls of methods

initial_spelled : (q : Kind) → IsSpelled (initial q)
initial_spelled q = initial_is q

keep_does : (before : List Effect) (keeps : Bool) (flow : Flow) (kind : Option Kind) (st : State) → FlowSpelled flow → IsGood before st → Does before Any (keep_result keeps flow kind st)
keep_does before false flow kind st h good = (tt, good)
keep_does before true (Returned x) kind st h good = (tt, (good.0, good.1, all_appended VariableSpelled st.variables (Holds x) good.2 h))
keep_does before true Next (Some kind) st h good = (tt, (good.0, good.1, all_appended VariableSpelled st.variables (Holds (initial kind)) good.2 (initial_spelled kind)))
keep_does before true Next None st h good = tt

apart_does : (before : List Effect) (variables : List Variable) (x : Run Flow) (st : State) → AllByRecursion VariableSpelled variables → Always before x → IsGood before st → Does before FlowSpelled (apart variables x st)
apart_does before variables x st are h good =
    does_then before FlowSpelled FlowSpelled (x (record st { variables = variables })) (λ y new. Gave y (record new { variables = st.variables })) (h (record st { variables = variables }) (good.0, good.1, are)) (λ y new is kept. (is, (kept.0, kept.1, good.2)))

found_does : {A B : Type 0} (before : List Effect) (P : B → Type 0) (o : Option A) (g : A → Run B) (st : State) → ((x : A) → o ≡ Some x → Does before P (g x st)) → Does before P (then_run (found o st) g)
found_does before P None g st h = tt
found_does before P (Some x) g st h = h x refl

some_same : {A : Type 0} (x y : A) → Some x ≡ Some y → x ≡ y
some_same x y h = cc

block_at : (program : Program) (n : ℕ) (block : BlockProgram) → MethodsSpelled program → slice_get program n ≡ Some block → AllByRecursion (λ (method : MethodProgram). StepsSpelled method.steps) block.methods
block_at [] n block h e = absurd (cc)
block_at (b ∷ program) zero block h e = subst (λ (z : BlockProgram). AllByRecursion (λ (method : MethodProgram). StepsSpelled method.steps) z.methods) (some_same b block e) h.0
block_at (b ∷ program) (suc n) block h e = block_at program n block h.1 e

method_at : (methods : List MethodProgram) (n : ℕ) (method : MethodProgram) → AllByRecursion (λ (method : MethodProgram). StepsSpelled method.steps) methods → slice_get methods n ≡ Some method → StepsSpelled method.steps
method_at [] n method h e = absurd (cc)
method_at (x ∷ methods) zero method h e = subst (λ (z : MethodProgram). StepsSpelled z.steps) (some_same x method e) h.0
method_at (x ∷ methods) (suc n) method h e = method_at methods n method h.1 e

told_in : (m : Setting) (me : Ref) (masks : List (List ℕ)) → SettingSpelled m → SettingSpelled (record m { me = me; masks = masks })
told_in m me masks told = record { answers = told.answers; fields = told.fields; failure = told.failure }

calls_do : (program : Program) → MethodsSpelled program → (m : Setting) → SettingSpelled m → length m.effects < 2 ^ 61 → (d : ℕ) (me : Ref) (masks : List (List ℕ)) (b n : ℕ) (e : Ref) (xs : List Val) (keeps : Bool) (st : State) → AllByRecursion IsSpelled xs → IsGood m.effects st
    → Does m.effects Any (call_at (record m { me = me; masks = masks }) program d b n e xs keeps st)
unfolding call_at
calls_do program all m told small zero me masks b n e xs keeps st are good = failure_text f.Depth
calls_do program all m told small (suc d) me masks b n e xs keeps st are good =
    found_does m.effects Any (slice_get program b) _ st (λ block is.
    found_does m.effects Any (slice_get block.methods n) _ st (λ method same.
    let inner : Setting = record m { me = e; masks = map (λ x. x.name) block.masks } in
    let run : Run Flow = act_all inner (call_at inner program d) method.steps in
    let always : Always m.effects run = act_all_does inner (told_in m e (map (λ x. x.name) block.masks) told) small (call_at inner program d) (calls_do program all m told small d e (map (λ x. x.name) block.masks)) method.steps (method_at block.methods n method (block_at program b block all is) same) in
    does_then m.effects FlowSpelled Any (apart (map Holds xs) run st) (λ flow. keep_result keeps flow method.result) (apart_does m.effects (map Holds xs) run st (values_held xs are) always good) (λ flow new kept stays. keep_does m.effects keeps flow method.result new kept stays)))

-- the effects of a run have spellings
pub run_spelled : (m : Setting) (program : Program) (steps : Steps) (flow : Flow) (st su : State) → SettingSpelled m → length m.effects < 2 ^ 61 → MethodsSpelled program → StepsSpelled steps → IsGood m.effects st → act_all m (call_at m program 8) steps st ≡ Gave flow su → AllByRecursion EffectSpelled (m.effects ++ su.effects)
run_spelled m program steps flow st su told small methods own good is =
    let all : Does m.effects FlowSpelled (act_all m (call_at m program 8) steps st) = act_all_does m told small (call_at m program 8) (calls_do program methods m told small 8 m.me m.masks) steps own st good in
    left flow su (subst (Does m.effects FlowSpelled) is all)
  where
    left : (flow : Flow) (su : State) → (let r : Ending Flow = Gave flow su in Does m.effects FlowSpelled r) → AllByRecursion EffectSpelled (m.effects ++ su.effects)
    left flow su h = h.1.0

-- and so they do of a run from its first step on
pub run_begins : (m : Setting) (program : Program) (steps : Steps) (flow : Flow) (su : State) → SettingSpelled m → length m.effects < 2 ^ 61 → AllByRecursion EffectSpelled m.effects → MethodsSpelled program → StepsSpelled steps → act_all m (call_at m program 8) steps start ≡ Gave flow su → AllByRecursion EffectSpelled (m.effects ++ su.effects)
run_begins m program steps flow su told small earlier methods own is =
    run_spelled m program steps flow start su told small methods own (subst (AllByRecursion EffectSpelled) (sym (append-nil m.effects)) earlier, omega arith, tt) is

-- the text of a run's failure is a text
pub run_fails : (m : Setting) (program : Program) (steps : Steps) (kind : FailKind) (text : List ℕ) (su : State) → SettingSpelled m → length m.effects < 2 ^ 61 → AllByRecursion EffectSpelled m.effects → MethodsSpelled program → StepsSpelled steps → act_all m (call_at m program 8) steps start ≡ Broke kind text su → is_text text ≡ true
run_fails m program steps kind text su told small earlier methods own is =
    subst (λ (r : Ending Flow). Does m.effects FlowSpelled r) is (act_all_does m told small (call_at m program 8) (calls_do program methods m told small 8 m.me m.masks) steps own start (subst (AllByRecursion EffectSpelled) (sym (append-nil m.effects)) earlier, omega arith, tt))
