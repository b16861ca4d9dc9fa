-- What a statement without a block is made into makes typed effects.
use Rattle.std.proofs.Common.{◌≡◌, ◌+◌, true, false, Bool, ℕ, suc, List, [], ◌∷◌, ◌++◌, map, length, Option, Some, None, Ok, Err, refl, sym, ◌∙◌, ap, subst, arith, inl, inr}
use Rattle.std.specs.Prelude.{ℤ, pos, negsuc, not, ◌+ℤ◌, ◌&&◌, int_le, unsigned_abs, is_none, is_some, bytes_eq, option_map, slice_get, slice_set, nat_lt, nat_le, ◌||◌, ◌==◌, codes}
use Rattle.std.proofs.lemmas.Bool.{cases_Bool, not-true, and_parts}
use Rattle.std.proofs.lemmas.Bool.Decides.{nat_tests}
use Rattle.std.specs.List.{list_any, AllByRecursion}
use Rattle.slee_value.specs.declared.kind.Kind.{Kind}
use Rattle.slee_value.specs.declared.kind.Kind.TheVariants as k
use Rattle.slee_effect.specs.declared.reference.Ref.{Ref}
use Rattle.slee_effect.specs.declared.reference.Ref.TheVariants.{Known, Fresh}
use Rattle.slee_effect.specs.declared.value.Val.{Val}
use Rattle.slee_effect.specs.declared.value.Val.TheVariants.{NewTimer, NewActivity}
use Rattle.slee_effect.specs.declared.effect.Effect.TheVariants as ef
use Rattle.script_tree.specs.declared.symbol.Verb.{Verb}
use Rattle.script_tree.specs.declared.symbol.Verb.TheVariants as v
use Rattle.script_tree.specs.declared.tree.Who.{Who as NamedWho}
use Rattle.script_tree.specs.declared.tree.Who.TheVariants as named
use Rattle.script_tree.specs.Tree as tree
use Rattle.script_tree.specs.Tree.{Bytes, Expression, Assigning, OnActivities, SettingTimer}
use Rattle.script_types.specs.declared.misuse.CheckBad.TheVariants as bad
use Rattle.script_types.specs.declared.codes.FieldCode.{FieldCode}
use Rattle.script_types.specs.declared.codes.RelationCode.{RelationCode}
use Rattle.script_types.specs.declared.step.Who.{Who}
use Rattle.script_types.specs.declared.symbol.Symbol.{Symbol}
use Rattle.script_types.specs.Codes.{symbol_of, kind_in, any_event, declared_event, relation_named, named, built_in}
use Rattle.script_types.specs.TypingResult.{Checked, tested, known}
use Rattle.script_types.specs.TypingResult as checked
use Rattle.script_types.specs.TypingExpressions.{Role, OnEvent, InMethod, OnException, OnRolledBack, OnRemove, not_on_remove}
use Rattle.script_types.specs.TypingExpressions as typing
use Rattle.script_types.specs.TypingStatements.{check_handler, check_service, are_all_given}
use Rattle.script_types.specs.TokenCounts.{tokens_in, tokens_in_tail}
use Rattle.script_types.specs.Scopes.{Scope, with_value, with_child, check_new}
use Rattle.script_types.specs.Scopes as expected
use Rattle.script_types.specs.Elaboration.{value_named, child_named, attribute_named, expression_of, asked_of, ChildAt, ValueAt}
use Rattle.script_types.specs.ElaborationOfStatements.{Made, assigning_of, rank_of, who_of, fields_of, on_entities_of, on_activities_of, repeat_of, keep_of, timer_of, return_of, verb_of, statement_made}
use Rattle.script_types.specs.Program as p
use Rattle.script_types.specs.Program.{Term, Step}
use Rattle.script_meaning.specs.declared.outcome.FailKind.TheVariants as f
use Rattle.script_meaning.specs.Overlay.{count_of, timers_by, is_before, entities_by, activities_by}
use Rattle.script_meaning.specs.Running as running
use Rattle.script_meaning.specs.Terms.{eval}
use Rattle.script_meaning.specs.Doing as doing
use Rattle.script_meaning.specs.Observing as read
use Rattle.script_meaning.specs.Steps.{Next, Returned, Calling, next, act, Flow}
use Rattle.slee_effect.specs.declared.effect.Effect.{Effect}
use Rattle.script_meaning.specs.Answers.{is_of}
use Rattle.script_meaning.specs.declared.outcome.FailKind.{FailKind}
use Rattle.router_laws_applying.specs.Suited.{Lives, LivesAtAll, LivesSomewhere, ChildrenAfter}
use Rattle.router_laws_suiting.specs.Typed.{IsTyped, IsChildOf, RemovesBehind, frame}
use Rattle.router_laws_suiting.specs.Walks.{KidIs, Does, GoesOn, IsGood, KidsAre}
use Rattle.script_meaning.specs.Running.{Setting, Variable, Holds, Child, Ending, Gave, Broke, Needs, Stays, Run, then_run, ◌>>=◌, give, effect, declare, assign}
use Rattle.deploy_model.specs.Deployed.{relation_of, service_named, is_event}
use Rattle.script_laws.specs.Fitting.{Safe, Keeps, Sound, result_in, IsReturned}
use Rattle.script_laws.proofs.SafeRuns.{bind_ok, ok_same, known_some, tested_true}
use Rattle.script_laws.proofs.SafePlaces.{child_safe, value_place}
use Rattle.script_laws.proofs.SafeObserved.{used_safe, attached_safe, named_safe, now_safe}
use Rattle.script_laws.proofs.SafeSteps.{used_active_safe}
use Rattle.script_laws.proofs.SafeExpressions.{Yields, eval_safe}
use Rattle.script_laws.proofs.SafeDoing.{expression_yields, asked_yields, int_safe, text_safe, activity_safe, timer_safe, rank_safe, assign_safe, keep_then}
use Rattle.router_laws_applying.proofs.Present.{rank_fits}
use Rattle.router_laws_effects.proofs.GuardLemmas.{gave_parts, tested_gave, then_gave}
use Rattle.router_laws_effects.proofs.TermsKeep.{no_stay}
use Rattle.router_laws_suiting.proofs.Staying.{child_behind, child_lives, new_kid, path_lives}
use Rattle.router_laws_suiting.proofs.Still.{Still, still_activity, still_active, still_asked, still_attached, still_child, still_eval, still_int, still_named, still_now, still_repeat, still_text, still_timer, still_used}
use Rattle.router_laws_suiting.proofs.Walking.{child_read, declare_does, effect_does, effect_gave, good_same, quiet}
use Rattle.router_laws.proofs.ListRules.{append_joins}
use Rattle.router_laws.specs.Forest.{IsIn}
use Rattle.router_laws_suiting.specs.Declared.{Declares, DeclaresAll}
use Rattle.slee_value.specs.Order.{names_of}
use Rattle.slee_value.specs.declared.keep.Keep.{Keep}
use Rattle.router_state.specs.Fits.{none_or, is_priority}
use Rattle.router_laws_suiting.proofs.FiredFields.{FieldIs, Ordered, all_map, fields_typed, none_given, put_all, put_has, put_ordered, rise_in_order}
use Rattle.script_types.specs.declared.codes.EventCode.{EventCode}
use Rattle.script_meaning.specs.declared.seen.AcSeen.{AcSeen}
use Rattle.router_state.specs.Fitting.{is_spec}
use Rattle.router_state.specs.Timers.{last_moment}
use Rattle.router_state.specs.State.{State}
use Rattle.router_state.specs.Well.{IsSound}

kind_found : (o : Option FieldCode) (kind : Kind) → option_map (λ (f : FieldCode). f.kind) o ≡ Some kind → (f : FieldCode) × (o ≡ Some f) × (f.kind ≡ kind)
kind_found None kind is = absurd (cc)
kind_found (Some f) kind is = (f, refl, same f.kind kind is)
  where
    same : (x y : Kind) → Some x ≡ Some y → x ≡ y
    same x y is = cc

-- a priority that was asked for lies in its range
asked_gave : (m : Setting) (x : Term) (n : ℤ) (st su : running.State) → doing.asked_rank m x st ≡ Gave n su → is_priority n ≡ true
asked_gave m x n st su is =
    let one = then_gave (doing.int_of m x st) (λ n. running.tested f.Range (doing.is_within (negsuc 127) (pos 127) n) >>= (λ _. give n)) n su is in
    let two = then_gave (running.tested f.Range (doing.is_within (negsuc 127) (pos 127) one.0) one.1) (λ _. give one.0) n su one.3 in
    let test = tested_gave f.Range (doing.is_within (negsuc 127) (pos 127) one.0) two.0 one.1 two.1 two.2 in
    rank_fits n (subst (λ z. doing.is_within (negsuc 127) (pos 127) z ≡ true) (gave_parts one.0 n two.1 su two.3).0 test.0)

-- period and times of a timer that occurs once
abbrev Repeats : Option (Term × Term) → ℤ × ℤ → Type 0
Repeats None times = times ≡ (pos 0, pos 1)
Repeats (Some terms) times = Unit {0}

once_fits : (n : ℤ) → doing.is_within (pos 0) doing.last_moment n ≡ true → (nat_le (unsigned_abs n) last_moment && (nat_le 0 last_moment && (nat_le 1 last_moment && (nat_lt 0 0 || 1 == 1)))) ≡ true
once_fits (pos n) is = grind (arith, nat_tests, is)
once_fits (negsuc n) is = grind (arith, nat_tests, is)

often_fits : (n period times : ℤ) → (doing.is_within (pos 0) doing.last_moment n && (doing.is_within (pos 1) doing.last_moment period && doing.is_within (pos 0) doing.last_moment times)) ≡ true
    → (nat_le (unsigned_abs n) last_moment && (nat_le (unsigned_abs period) last_moment && (nat_le (unsigned_abs times) last_moment && (nat_lt 0 (unsigned_abs period) || unsigned_abs times == 1)))) ≡ true
often_fits (pos n) (pos period) (pos times) is = grind (arith, nat_tests, is)
often_fits (pos n) (pos period) (negsuc times) is = grind (arith, nat_tests, is)
often_fits (pos n) (negsuc period) times is = grind (arith, nat_tests, is)
often_fits (negsuc n) period times is = grind (arith, nat_tests, is)

-- a timer whose numbers lie in their ranges is one that may be set
spec_fits : (repeat : Option (Term × Term)) (n : ℤ) (times : ℤ × ℤ) (keep : Keep) → Repeats repeat times → (doing.is_within (pos 0) doing.last_moment n && doing.repeats_well repeat times) ≡ true
    → is_spec (record { activity = record { 0 = 0 }; start = unsigned_abs n; period = unsigned_abs times.0; times = unsigned_abs times.1; keep = keep }) ≡ true
spec_fits None n times keep same is = subst (λ (z : ℤ × ℤ). is_spec (record { activity = record { 0 = 0 }; start = unsigned_abs n; period = unsigned_abs z.0; times = unsigned_abs z.1; keep = keep }) ≡ true) (sym same) (once_fits n (and_parts (doing.is_within (pos 0) doing.last_moment n) true is).0)
spec_fits (Some terms) n times keep same is = often_fits n times.0 times.1 is

module _ (s : State) (me own a : ℕ) (sound : IsSound s) (m : Setting) (first : List Effect) (path : List (ℕ × Ref)) (mine : m.me ≡ (frame me own path).1) where
  abbrev pub Good : Scope → running.State → Type 0
  Good scope st = IsGood s me own a m first path scope st

  abbrev pub Leads : Option Kind → Scope → Flow → running.State → Type 0
  Leads result behind flow st = GoesOn s me own a m first path result behind flow st

  -- a part that makes no effect
  pub hush : {A B : Type 0} (scope : Scope) (Q : B → running.State → Type 0) (run : Run A) (g : A → Run B) (st : running.State) → Safe m (Keeps m scope) (run st) → Still run → Good scope st
      → ((x : A) (su : running.State) → run st ≡ Gave x su → Good scope su → Does Q (g x su)) → Does Q (then_run (run st) g)
  hush {A} {B} scope Q run g st safe still good go = by (run st) refl safe
    where
      by : (r : Ending A) → run st ≡ r → Safe m (Keeps m scope) r → Does Q (then_run r g)
      by (Gave x su) is fits = go x su is (good_same s me own a sound m first path scope st su fits (still.keeps.keeps x st su is) (still.leaves.leaves x st su is) good)
      by (Broke kind text su) is fits = tt
      by (Needs key) is fits = tt
      by Stays is fits = tt

  pub value : {B : Type 0} (scope : Scope) (kind : Kind) (Q : B → running.State → Type 0) (term : Term) (g : Val → Run B) (st : running.State) → Yields m scope kind term → Good scope st
      → ((x : Val) (su : running.State) → is_of kind x ≡ true → Good scope su → Does Q (g x su)) → Does Q (then_run (eval m term st) g)
  value scope kind Q term g st yields good go =
      quiet s me own a sound m first path scope (λ x. is_of kind x ≡ true) Q (eval m term) g st (eval_safe m scope kind term st yields good.sound) (still_eval m term).keeps (still_eval m term).leaves good (λ x su _ is held. go x su is held)

  pub test : {B : Type 0} (Q : B → running.State → Type 0) (kind : FailKind) (b : Bool) (run : Run B) (st : running.State) → (b ≡ true → Does Q (run st)) → Does Q (then_run (running.tested kind b st) (λ _. run))
  test Q kind true run st go = go refl
  test Q kind false run st go = tt

  pub goes_next : (result : Option Kind) (behind : Scope) (run : Run (Unit {0})) (st : running.State) → Does (λ _ su. Good behind su) (run st) → Does (Leads result behind) (next run st)
  goes_next result behind run st h = by (run st) h
    where
      by : (r : Ending (Unit {0})) → Does (λ _ su. Good behind su) r → Does (Leads result behind) (then_run r (λ _. give Next))
      by (Gave x su) h = h
      by (Broke kind text su) h = tt
      by (Needs key) h = tt
      by Stays h = tt

  -- one typed effect
  pub makes : (scope : Scope) (x : Effect) (st : running.State) → IsTyped s me own a (m.effects ++ st.effects) x → RemovesBehind (frame me own path).1 x → Good scope st → Does (λ _ su. Good scope su) (effect x st)
  makes scope x st typed behind good = effect_does s me own a sound m first path scope x st typed behind good

  pub me_lives : (scope : Scope) (st : running.State) → Good scope st → LivesSomewhere s me own (m.effects ++ st.effects) (frame me own path).0 m.me
  me_lives scope st good = (length path, subst (λ r. Lives s me own (m.effects ++ st.effects) (length path) (frame me own path).0 r) (sym mine) (path_lives s me own (m.effects ++ st.effects) path good.left.lives))

  me_at_all : (scope : Scope) (st : running.State) → Good scope st → LivesAtAll s me own (m.effects ++ st.effects) m.me
  me_at_all scope st good = ((frame me own path).0, me_lives scope st good)

  kid_at_all : (scope : Scope) (st : running.State) (block : ℕ) (e : Ref) → Good scope st → IsChildOf s (m.effects ++ st.effects) (frame me own path).0 (frame me own path).1 block e → LivesAtAll s me own (m.effects ++ st.effects) e
  kid_at_all scope st block e good kid = (block, (suc (length path), child_lives s me own (m.effects ++ st.effects) path block e good.left.lives kid))

  -- a child that was read lives
  pub kid_read : (scope : Scope) (name : Bytes) (at : ℕ) (x : ChildAt) (e : Ref) (st su : running.State) → child_named scope name at ≡ Ok x → read.child m x.place st ≡ Gave e su → Good scope st → Good scope su → IsChildOf s (m.effects ++ su.effects) (frame me own path).0 (frame me own path).1 x.block e
  kid_read scope name at x e st su named is good new =
      subst (λ es. IsChildOf s (m.effects ++ es) (frame me own path).0 (frame me own path).1 x.block e) (sym ((still_child m x.place).keeps.keeps e st su is)) (child_read s me own a sound m first path scope name at x e st su named is good)

  -- a variable of a value that gets another one

  kids_set : (es : List Effect) (top : ℕ × Ref) (scope : Scope) (variables : List Variable) (i : ℕ) (local : expected.Variable) (kind : Kind) (y : Variable) → slice_get scope i ≡ Some local → local.holds ≡ expected.Value kind → KidsAre s es top scope variables → KidsAre s es top scope (slice_set variables i y)
  kids_set es top [] variables i local kind y is holds kids = absurd (cc)
  kids_set es top (l ∷ scope) [] i local kind y is holds kids = tt
  kids_set es top (l ∷ scope) (x ∷ variables) Rattle.std.proofs.Common.zero local kind y is holds kids = (subst (λ h. KidIs s es top h y) (sym (ap (λ (v : expected.Variable). v.holds) (same l local is) ∙ holds)) tt, kids.1)
    where
      same : (x y : expected.Variable) → Some x ≡ Some y → x ≡ y
      same x y is = cc
  kids_set es top (l ∷ scope) (x ∷ variables) (suc i) local kind y is holds kids = (kids.0, kids_set es top scope variables i local kind y is holds kids.1)

  assign_does : (scope : Scope) (name : Bytes) (at : ℕ) (x : ValueAt) (y : Val) (st : running.State) → value_named scope name at ≡ Ok x → is_of x.kind y ≡ true → Good scope st → Does (λ _ su. Good scope su) (assign x.place y st)
  assign_does scope name at x y st named is good = by (assign x.place y st) refl (assign_safe m scope name at x y st named is good.sound)
    where
      set_gave : (i : ℕ) (z : Unit {0}) (st su : running.State) → assign i y st ≡ Gave z su → su ≡ record st { variables = slice_set st.variables i (Holds y) }
      set_gave i z st su is = elim (cases_Bool (nat_lt i (length st.variables))) [
        | inl there ↦ sym (gave_parts tt z (record st { variables = slice_set st.variables i (Holds y) }) su (rw there at is)).1
        | inr isnt ↦ absurd (no_stay (rw isnt at is))
      ]

      place : (local : expected.Variable) × (slice_get scope x.place ≡ Some local) × (local.holds ≡ expected.Value x.kind)
      place = value_place scope name at x named

      by : (r : Ending (Unit {0})) → assign x.place y st ≡ r → Safe m (Keeps m scope) r → Does (λ _ su. Good scope su) r
      by (Gave z su) is fits =
          let same = set_gave x.place z st su is in
          subst (λ (w : running.State). Good scope w) (sym same) (record {
            sound = subst (λ (w : running.State). Sound m scope w) same fits;
            left = record { from = good.left.from; typed = good.left.typed; lives = good.left.lives };
            kids = kids_set (m.effects ++ st.effects) (frame me own path) scope st.variables x.place place.0 x.kind (Holds y) place.1 place.2 good.kids;
          })
      by (Broke kind text su) is fits = tt
      by (Needs key) is fits = tt
      by Stays is fits = tt

  -- one typed effect, with what comes behind it
  pub made : {B : Type 0} (scope : Scope) (Q : B → running.State → Type 0) (x : Effect) (g : Unit {0} → Run B) (st : running.State) → IsTyped s me own a (m.effects ++ st.effects) x → RemovesBehind (frame me own path).1 x → Good scope st
      → ((su : running.State) → m.effects ++ su.effects ≡ (m.effects ++ st.effects) ++ x ∷ [] → Good scope su → Does Q (g tt su)) → Does Q (then_run (effect x st) g)
  made {B} scope Q x g st typed behind good go = by (effect x st) refl (makes scope x st typed behind good)
    where
      by : (r : Ending (Unit {0})) → effect x st ≡ r → Does (λ _ su. Good scope su) r → Does Q (then_run r g)
      by (Gave y su) is held = go su (ap (λ (w : running.State). m.effects ++ w.effects) (effect_gave x y st su is) ∙ sym (append_joins m.effects st.effects (x ∷ []))) held
      by (Broke kind text su) is held = tt
      by (Needs key) is held = tt
      by Stays is held = tt

  -- a part within another
  nested : {A B C : Type 0} (Q : C → running.State → Type 0) (r : Ending A) (f : A → Run B) (g : B → Run C) → Does Q (then_run r (λ x su. then_run (f x su) g)) → Does Q (then_run (then_run r f) g)
  nested Q (Gave x su) f g h = h
  nested Q (Broke kind text su) f g h = tt
  nested Q (Needs key) f g h = tt
  nested Q Stays f g h = tt

  -- what comes behind a part
  pub behind : {A B : Type 0} (scope : Scope) (Q : B → running.State → Type 0) (run : Run A) (g : A → Run B) (st : running.State) → Does (λ _ su. Good scope su) (run st) → ((x : A) (su : running.State) → Good scope su → Does Q (g x su)) → Does Q (then_run (run st) g)
  behind {A} {B} scope Q run g st h go = by (run st) h
    where
      by : (r : Ending A) → Does (λ _ su. Good scope su) r → Does Q (then_run r g)
      by (Gave x su) h = go x su h
      by (Broke kind text su) h = tt
      by (Needs key) h = tt
      by Stays h = tt

  module _ (call : Calling) (result : Option Kind) (t : typing.Setting) (declared : Declares s.deployment (frame me own path).0 t.block) (all_declared : DeclaresAll s.deployment t.codes) (acting : m.arguments.activity.0 ≡ a) where
    abbrev pub DoesStep : Scope → Scope → Step → Type 0
    DoesStep scope behind step = (st : running.State) → Good scope st → Does (Leads result behind) (act m call step st)

    abbrev pub GoodStep : Scope → Checked Made → Type 0
    GoodStep scope (Ok made) = DoesStep scope made.scope made.step
    GoodStep scope (Err fault) = Unit {0}

    pub step_then : {A : Type 0} (scope : Scope) (r : Checked A) (g : A → Checked Made) → ((x : A) → r ≡ Ok x → GoodStep scope (g x)) → GoodStep scope (checked.◌>>=◌ r g)
    step_then scope (Ok x) g h = h x refl
    step_then scope (Err fault) g h = tt

    pub assigning_good : (scope : Scope) (at : ℕ) (x : Assigning) → GoodStep scope (assigning_of t scope at x)
    assigning_good scope at (tree.New name x) = step_then scope (check_new scope name (at + 1)) _ (λ _ _. step_then scope (expression_of t scope (at + 3) x) _ (λ one e st good.
        goes_next result (with_value scope name one.kind) (doing.assigns m (p.New one.term)) st
        (value scope one.kind (λ _ su. Good (with_value scope name one.kind) su) one.term (λ y. declare (Holds y)) st (expression_yields m t scope (at + 3) x one e) good
        (λ y su is held. declare_does s me own a sound m first path scope (record { name = name; holds = expected.Value one.kind }) (Holds y) su is tt held))))
    assigning_good scope at (tree.Variable name x) = step_then scope (value_named scope name at) _ (λ variable e. step_then scope (asked_of t scope variable.kind (at + 2) x) _ (λ term g st good.
        goes_next result scope (doing.assigns m (p.Variable variable.place term)) st
        (value scope variable.kind (λ _ su. Good scope su) term (λ y. assign variable.place y) st (asked_yields m t scope variable.kind (at + 2) x term g) good
        (λ y su is held. assign_does scope name at variable y su e is held))))
    assigning_good scope at (tree.Field name x) = step_then scope (known (at + 2) (kind_in name t.block.fields)) _ (λ kind e. step_then scope (asked_of t scope kind (at + 4) x) _ (λ term g. step_then scope (not_on_remove t at) _ (λ _ _ st good.
        goes_next result scope (doing.assigns m (p.Field (symbol_of t.codes name) term)) st
        (value scope kind (λ _ su. Good scope su) term (λ y. effect (ef.SetField m.me name y)) st (asked_yields m t scope kind (at + 4) x term g) good
        (λ y su is held. makes scope (ef.SetField m.me name y) su (set name kind y su held (known_some (at + 2) (kind_in name t.block.fields) kind e) is) (λ r wrong. absurd (cc)) held)))))
      where
        set : (name : Bytes) (kind : Kind) (y : Val) (su : running.State) → Good scope su → kind_in name t.block.fields ≡ Some kind → is_of kind y ≡ true → IsTyped s me own a (m.effects ++ su.effects) (ef.SetField m.me name y)
        set name kind y su held e is =
            let found = kind_found (named (λ (f : FieldCode). f.name) name t.block.fields) kind e in
            ((frame me own path).0, me_lives scope su held, found.0, ap (named (λ (f : FieldCode). f.name) name) declared.fields ∙ found.1, subst (λ k. is_of k y ≡ true) (sym found.2) is)
    assigning_good scope at (tree.Attribute x name y) = step_then scope (asked_of t scope k.Activity (at + 2) x) _ (λ one e. step_then scope (known (at + 3 + tokens_in x) (attribute_named name t.block)) _ (λ attribute i. step_then scope (asked_of t scope attribute.kind (at + 6 + tokens_in x) y) _ (λ other g. step_then scope (not_on_remove t at) _ (λ _ _ st good.
        goes_next result scope (doing.assigns m (p.Attribute one (symbol_of t.codes attribute.key) other)) st
        (hush scope (λ _ su. Good scope su) (doing.activity_of m one) _ st (activity_safe m scope one st (asked_yields m t scope k.Activity (at + 2) x one e) good.sound) (still_activity m one) good (λ r su _ held.
        value scope attribute.kind (λ _ su. Good scope su) other _ su (asked_yields m t scope attribute.kind (at + 6 + tokens_in x) y other g) held (λ z su is held.
        hush scope (λ _ su. Good scope su) (read.used m r) _ su (used_safe m r scope su held.sound) (still_used m r) held (λ _ su _ held.
        makes scope (ef.SetAttr r attribute.key z) su (attribute.kind, declared.attributes name attribute (known_some (at + 3 + tokens_in x) (attribute_named name t.block) attribute i), is) (λ r wrong. absurd (cc)) held))))))))

    rank_does : {B : Type 0} (scope : Scope) (Q : B → running.State → Type 0) (relation : RelationCode) (at : ℕ) (x : Option Expression) (rank : p.Rank) (g : ℤ → Run B) (st : running.State) → rank_of t scope relation at x ≡ Ok rank → is_priority relation.priority ≡ true → Good scope st
        → ((n : ℤ) (su : running.State) → is_priority n ≡ true → Good scope su → Does Q (g n su)) → Does Q (then_run (doing.rank_of m rank st) g)
    rank_does scope Q relation at None rank g st e given good go = subst (λ z. Does Q (then_run (doing.rank_of m z st) g)) (ok_same (p.Given relation.priority) rank e) (go relation.priority st given good)
    rank_does scope Q relation at (Some x) rank g st e given good go =
        let one = bind_ok (asked_of t scope k.Int at x) _ rank e in
        subst (λ z. Does Q (then_run (doing.rank_of m z st) g)) (ok_same (p.Asked one.0) rank one.2)
        (hush scope Q (doing.asked_rank m one.0) g st (rank_safe m scope one.0 st (asked_yields m t scope k.Int at x one.0 one.1) good.sound) (still_asked m one.0) good (λ n su is held. go n su (asked_gave m one.0 n st su is) held))

    pub create_good : (scope : Scope) (at : ℕ) (name child : Bytes) (priority : Option Expression) → GoodStep scope (on_entities_of t scope at (tree.Create name child priority))
    create_good scope at name child priority = step_then scope (known (at + 1) (relation_named name t.block)) _ (λ relation e. step_then scope (check_new scope child (at + 3)) _ (λ _ _. step_then scope (rank_of t scope relation (at + 5) priority) _ (λ rank g. step_then scope (not_on_remove t at) _ (λ _ _ st good.
        goes_next result (with_child scope child relation.block) (doing.on_entities m (p.Create (symbol_of t.codes name) rank)) st
        (let there : relation_of s.deployment (frame me own path).0 name ≡ Some relation = declared.relations name ∙ known_some (at + 1) (relation_named name t.block) relation e in
        rank_does scope (λ _ su. Good (with_child scope child relation.block) su) relation (at + 5) priority rank _ st g (declared.ranks name relation (known_some (at + 1) (relation_named name t.block) relation e)) good (λ n su fits held.
        made scope (λ _ sv. Good (with_child scope child relation.block) sv) (ef.Create m.me name n) _ su ((frame me own path).0, me_lives scope su held, ap is_some there, fits) (λ r wrong. absurd (cc)) held (λ sv same kept.
        declare_does s me own a sound m first path scope (record { name = child; holds = expected.Child relation.block }) (Child (Fresh (count_of entities_by (m.effects ++ su.effects)))) sv refl
        (inl (
          name,
          relation,
          there,
          refl,
          subst (λ es. IsIn (Fresh (count_of entities_by (m.effects ++ su.effects))) (ChildrenAfter s es (frame me own path).1 name)) (sym same)
              (subst (λ r. IsIn (Fresh (count_of entities_by (m.effects ++ su.effects))) (ChildrenAfter s ((m.effects ++ su.effects) ++ ef.Create r name n ∷ []) (frame me own path).1 name)) (sym mine) (new_kid s (m.effects ++ su.effects) (frame me own path).1 name n)),
        )) kept)))))))

    pub remove_good : (scope : Scope) (at : ℕ) (child : Bytes) → GoodStep scope (on_entities_of t scope at (tree.Remove child))
    remove_good scope at child = step_then scope (child_named scope child (at + 1)) _ (λ found e. step_then scope (not_on_remove t at) _ (λ _ _ st good.
        goes_next result scope (doing.on_entities m (p.Remove found.place)) st
        (hush scope (λ _ su. Good scope su) (read.child m found.place) _ st (child_safe m scope child (at + 1) found st e good.sound) (still_child m found.place) good (λ c su is held.
        let kid = kid_read scope child (at + 1) found c st su e is good held in
        makes scope (ef.Remove c) su (found.block, length path, child_lives s me own (m.effects ++ su.effects) path found.block c held.left.lives kid)
        (λ r same. subst (λ z. is_before (frame me own path).1 z ≡ true) (one_removed c r same) (child_behind s me own a sound (m.effects ++ su.effects) (frame me own path).1 kid.0 c held.left.typed kid.4)) held))))
      where
        one_removed : (c r : Ref) → ef.Remove c ≡ ef.Remove r → c ≡ r
        one_removed c r same = cc

    pub priority_good : (scope : Scope) (at : ℕ) (child : Bytes) (x : Expression) → GoodStep scope (on_entities_of t scope at (tree.Priority child x))
    priority_good scope at child x = step_then scope (child_named scope child (at + 1)) _ (λ found e. step_then scope (asked_of t scope k.Int (at + 2) x) _ (λ term g. step_then scope (not_on_remove t at) _ (λ _ _ st good.
        goes_next result scope (doing.on_entities m (p.Priority found.place term)) st
        (hush scope (λ _ su. Good scope su) (read.child m found.place) _ st (child_safe m scope child (at + 1) found st e good.sound) (still_child m found.place) good (λ c su is held.
        let kid = kid_read scope child (at + 1) found c st su e is good held in
        hush scope (λ _ su. Good scope su) (doing.asked_rank m term) _ su (rank_safe m scope term su (asked_yields m t scope k.Int (at + 2) x term g) held.sound) (still_asked m term) held (λ n sv was kept.
        makes scope (ef.SetPriority c n) sv (subst (λ es. LivesAtAll s me own (m.effects ++ es) c) (sym ((still_asked m term).keeps.keeps n su sv was)) (kid_at_all scope su found.block c held kid)) (λ r wrong. absurd (cc)) kept))))))

    -- the entity itself or a child lives
    who_does : {B : Type 0} (scope : Scope) (Q : B → running.State → Type 0) (at : ℕ) (someone : NamedWho) (who : Who) (g : Ref → Run B) (st : running.State) → who_of scope at someone ≡ Ok who → Good scope st
        → ((e : Ref) (su : running.State) → LivesAtAll s me own (m.effects ++ su.effects) e → Good scope su → Does Q (g e su)) → Does Q (then_run (doing.who m who st) g)
    who_does scope Q at named.Own who g st e good go = subst (λ z. Does Q (then_run (doing.who m z st) g)) (ok_same _ who e) (go m.me st (me_at_all scope st good) good)
    who_does scope Q at (named.Child child) who g st e good go =
        let one = bind_ok (child_named scope child at) _ who e in
        subst (λ z. Does Q (then_run (doing.who m z st) g)) (ok_same _ who one.2)
        (hush scope Q (read.child m one.0.place) g st (child_safe m scope child at one.0 st one.1 good.sound) (still_child m one.0.place) good
        (λ c su is held. go c su (kid_at_all scope su one.0.block c held (kid_read scope child at one.0 c st su one.1 is good held)) held))

    -- what lives does so behind a part that makes no effect
    lives_on : {A : Type 0} (run : Run A) (x : A) (st su : running.State) (e : Ref) → Still run → run st ≡ Gave x su → LivesAtAll s me own (m.effects ++ st.effects) e → LivesAtAll s me own (m.effects ++ su.effects) e
    lives_on run x st su e still is lives = subst (λ es. LivesAtAll s me own (m.effects ++ es) e) (sym (still.keeps.keeps x st su is)) lives

    activity_does : {B : Type 0} (scope : Scope) (Q : B → running.State → Type 0) (at : ℕ) (x : Expression) (term : Term) (g : Ref → Run B) (st : running.State) → asked_of t scope k.Activity at x ≡ Ok term → Good scope st
        → ((r : Ref) (su : running.State) → doing.activity_of m term st ≡ Gave r su → Good scope su → Does Q (g r su)) → Does Q (then_run (doing.activity_of m term st) g)
    activity_does scope Q at x term g st e good go = hush scope Q (doing.activity_of m term) g st (activity_safe m scope term st (asked_yields m t scope k.Activity at x term e) good.sound) (still_activity m term) good go

    text_does : {B : Type 0} (scope : Scope) (Q : B → running.State → Type 0) (at : ℕ) (x : Expression) (term : Term) (g : List ℕ → Run B) (st : running.State) → asked_of t scope k.Text at x ≡ Ok term → Good scope st
        → ((r : List ℕ) (su : running.State) → Good scope su → Does Q (g r su)) → Does Q (then_run (doing.text_of m term st) g)
    text_does scope Q at x term g st e good go = hush scope Q (doing.text_of m term) g st (text_safe m scope term st (asked_yields m t scope k.Text at x term e) good.sound) (still_text m term) good (λ r su _ held. go r su held)

    active_does : {B : Type 0} (scope : Scope) (Q : B → running.State → Type 0) (r : Ref) (g : AcSeen → Run B) (st : running.State) → Good scope st
        → ((seen : AcSeen) (su : running.State) → read.used_active m r st ≡ Gave seen su → Good scope su → Does Q (g seen su)) → Does Q (then_run (read.used_active m r st) g)
    active_does scope Q r g st good go = hush scope Q (read.used_active m r) g st (used_active_safe m r scope st good.sound) (still_active m r) good go

    used_does : {B : Type 0} (scope : Scope) (Q : B → running.State → Type 0) (r : Ref) (g : AcSeen → Run B) (st : running.State) → Good scope st
        → ((seen : AcSeen) (su : running.State) → read.used m r st ≡ Gave seen su → Good scope su → Does Q (g seen su)) → Does Q (then_run (read.used m r st) g)
    used_does scope Q r g st good go = hush scope Q (read.used m r) g st (used_safe m r scope st good.sound) (still_used m r) good go

    pub attach_good : (scope : Scope) (at : ℕ) (someone : NamedWho) (x : Expression) → GoodStep scope (on_activities_of t scope at (tree.Attach someone x))
    attach_good scope at someone x = step_then scope (who_of scope (at + 1) someone) _ (λ who d. step_then scope (asked_of t scope k.Activity (at + 3) x) _ (λ term e. step_then scope (not_on_remove t at) _ (λ _ _ st good.
        goes_next result scope (doing.on_activities m (p.Attach who term)) st
        (who_does scope (λ _ su. Good scope su) (at + 1) someone who _ st d good (λ w su lives held.
        activity_does scope (λ _ su. Good scope su) (at + 3) x term _ su e held (λ r sv was kept.
        active_does scope (λ _ su. Good scope su) r _ sv kept (λ seen sw is left.
        makes scope (ef.Attach w r) sw (lives_on (read.used_active m r) seen sv sw w (still_active m r) is (lives_on (doing.activity_of m term) r su sv w (still_activity m term) was lives)) (λ r wrong. absurd (cc)) left)))))))

    pub detach_good : (scope : Scope) (at : ℕ) (someone : NamedWho) (x : Expression) → GoodStep scope (on_activities_of t scope at (tree.Detach someone x))
    detach_good scope at someone x = step_then scope (who_of scope (at + 1) someone) _ (λ who d. step_then scope (asked_of t scope k.Activity (at + 3) x) _ (λ term e. step_then scope (not_on_remove t at) _ (λ _ _ st good.
        goes_next result scope (doing.on_activities m (p.Detach who term)) st
        (who_does scope (λ _ su. Good scope su) (at + 1) someone who _ st d good (λ w su lives held.
        activity_does scope (λ _ su. Good scope su) (at + 3) x term _ su e held (λ r sv was kept.
        used_does scope (λ _ su. Good scope su) r _ sv kept (λ seen sw is left.
        makes scope (ef.Detach w r) sw (lives_on (read.used m r) seen sv sw w (still_used m r) is (lives_on (doing.activity_of m term) r su sv w (still_activity m term) was lives)) (λ r wrong. absurd (cc)) left)))))))

    pub null_good : (scope : Scope) (at : ℕ) (name : Bytes) → GoodStep scope (on_activities_of t scope at (tree.Null name))
    null_good scope at name = step_then scope (check_new scope name (at + 2)) _ (λ _ _. step_then scope (not_on_remove t at) _ (λ _ _ st good.
        goes_next result (with_value scope name k.Activity) (doing.on_activities m p.Null) st
        (behind scope (λ _ su. Good (with_value scope name k.Activity) su) (effect ef.NewNull) _ st (makes scope ef.NewNull st tt (λ r wrong. absurd (cc)) good)
        (λ _ su held. declare_does s me own a sound m first path scope (record { name = name; holds = expected.Value k.Activity }) (Holds (NewActivity (count_of activities_by (m.effects ++ st.effects)))) su refl tt held))))

    pub bind_good : (scope : Scope) (at : ℕ) (x y : Expression) → GoodStep scope (on_activities_of t scope at (tree.Bind x y))
    bind_good scope at x y = step_then scope (asked_of t scope k.Text (at + 1) x) _ (λ one e. step_then scope (asked_of t scope k.Activity (at + 2 + tokens_in x) y) _ (λ other g. step_then scope (not_on_remove t at) _ (λ _ _ st good.
        goes_next result scope (doing.on_activities m (p.Bind one other)) st
        (text_does scope (λ _ su. Good scope su) (at + 1) x one _ st e good (λ name su held.
        activity_does scope (λ _ su. Good scope su) (at + 2 + tokens_in x) y other _ su g held (λ r sv _ kept.
        test (λ _ su. Good scope su) f.Range (not (bytes_eq name [])) _ sv (λ _.
        active_does scope (λ _ su. Good scope su) r _ sv kept (λ seen sw _ left.
        hush scope (λ _ su. Good scope su) (read.named m name) _ sw (named_safe m name scope sw left.sound) (still_named m name) left (λ bound sx _ last.
        test (λ _ su. Good scope su) f.Bound (is_none bound) (effect (ef.Bind name r)) sx (λ _. makes scope (ef.Bind name r) sx tt (λ r wrong. absurd (cc)) last))))))))))

    abbrev pub GoodVerb : Scope → Checked Step → Type 0
    GoodVerb scope (Ok step) = DoesStep scope scope step
    GoodVerb scope (Err fault) = Unit {0}

    pub verb_then : {A : Type 0} (scope : Scope) (r : Checked A) (g : A → Checked Step) → ((x : A) → r ≡ Ok x → GoodVerb scope (g x)) → GoodVerb scope (checked.◌>>=◌ r g)
    verb_then scope (Ok x) g h = h x refl
    verb_then scope (Err fault) g h = tt

    pub end_good : (scope : Scope) (at : ℕ) (x : Expression) → GoodVerb scope (verb_of t scope at v.End x)
    end_good scope at x = verb_then scope (asked_of t scope k.Activity (at + 1) x) _ (λ term e. verb_then scope (not_on_remove t at) _ (λ _ _ st good.
        goes_next result scope (doing.on_activities m (p.End term)) st
        (activity_does scope (λ _ su. Good scope su) (at + 1) x term _ st e good (λ r su _ held.
        active_does scope (λ _ su. Good scope su) r _ su held (λ seen sv _ kept.
        test (λ _ su. Good scope su) f.NotNull seen.null (effect (ef.EndNull r)) sv (λ _. makes scope (ef.EndNull r) sv tt (λ r wrong. absurd (cc)) kept))))))

    pub cancel_good : (scope : Scope) (at : ℕ) (x : Expression) → GoodVerb scope (verb_of t scope at v.Cancel x)
    cancel_good scope at x = verb_then scope (asked_of t scope k.Timer (at + 1) x) _ (λ term e. verb_then scope (not_on_remove t at) _ (λ _ _ st good.
        goes_next result scope (doing.on_timers m (p.Cancel term)) st
        (hush scope (λ _ su. Good scope su) (doing.timer_of m term) _ st (timer_safe m scope term st (asked_yields m t scope k.Timer (at + 1) x term e) good.sound) (still_timer m term) good (λ r su _ held.
        makes scope (ef.CancelTimer r) su tt (λ r wrong. absurd (cc)) held))))

    pub unbind_good : (scope : Scope) (at : ℕ) (x : Expression) → GoodVerb scope (verb_of t scope at v.Unbind x)
    unbind_good scope at x = verb_then scope (asked_of t scope k.Text (at + 1) x) _ (λ term e. verb_then scope (not_on_remove t at) _ (λ _ _ st good.
        goes_next result scope (doing.on_activities m (p.Unbind term)) st
        (text_does scope (λ _ su. Good scope su) (at + 1) x term _ st e good (λ name su held.
        hush scope (λ _ su. Good scope su) (read.named m name) _ su (named_safe m name scope su held.sound) (still_named m name) held (λ bound sv _ kept.
        test (λ _ su. Good scope su) f.Unbound (not (is_none bound)) (effect (ef.Unbind name)) sv (λ _. makes scope (ef.Unbind name) sv tt (λ r wrong. absurd (cc)) kept))))))

    pub resume_good : (scope : Scope) (at : ℕ) (x : Expression) → GoodVerb scope (verb_of t scope at v.Resume x)
    resume_good scope at x = verb_then scope (asked_of t scope k.Activity (at + 1) x) _ (λ term e. verb_then scope (not_on_remove t at) _ (λ _ _ st good.
        goes_next result scope (doing.on_activities m (p.Resume term)) st
        (activity_does scope (λ _ su. Good scope su) (at + 1) x term _ st e good (λ r su _ held.
        used_does scope (λ _ su. Good scope su) r _ su held (λ seen sv _ kept. makes scope (ef.Resume r) sv tt (λ r wrong. absurd (cc)) kept)))))

    pub emit_good : (scope : Scope) (at : ℕ) (x : Expression) → GoodVerb scope (verb_of t scope at v.Emit x)
    emit_good scope at x = verb_then scope (asked_of t scope k.Text (at + 1) x) _ (λ term e st good.
        text_does scope (Leads result scope) (at + 1) x term _ st e good (λ text su held.
        goes_next result scope (effect (ef.Emit m.me text)) su (makes scope (ef.Emit m.me text) su (me_at_all scope su held) (λ r wrong. absurd (cc)) held)))

    pub throw_good : (scope : Scope) (at : ℕ) (x : Expression) → GoodVerb scope (verb_of t scope at v.Throw x)
    throw_good scope at x = verb_then scope (asked_of t scope k.Text (at + 1) x) _ (λ term e. verb_then scope (not_on_remove t at) _ (λ _ _ st good.
        text_does scope (Leads result scope) (at + 1) x term _ st e good (λ text su held. tt)))

    mask_does : (scope : Scope) (at : ℕ) (event : Symbol Bytes) (on : Bool) (x : Expression) (term : Term) (st : running.State) → asked_of t scope k.Activity at x ≡ Ok term → is_event s.deployment event.name ≡ true → Good scope st → Does (λ _ su. Good scope su) (doing.on_activities m (p.Mask event on term) st)
    mask_does scope at event on x term st e declares good =
        activity_does scope (λ _ su. Good scope su) at x term _ st e good (λ r su _ held.
        used_does scope (λ _ su. Good scope su) r _ su held (λ seen sv _ kept.
        hush scope (λ _ su. Good scope su) (read.attached m r) _ sv (attached_safe m r scope sv kept.sound) (still_attached m r) kept (λ b sw _ left.
        test (λ _ su. Good scope su) f.Detached b (effect (ef.SetMask m.me r event.name on)) sw (λ _. makes scope (ef.SetMask m.me r event.name on) sw (me_at_all scope sw left, declares) (λ r wrong. absurd (cc)) left))))

    event_known : (at : ℕ) (event : Bytes) (code : EventCode) → known at (any_event event t.codes) ≡ Ok code → is_event s.deployment event ≡ true
    event_known at event code e = ap (λ events. is_some (named (λ (e : EventCode). e.name) event (built_in ++ events))) (sym all_declared.events) ∙ ap is_some (known_some at (any_event event t.codes) code e)

    pub mask_good : (scope : Scope) (at : ℕ) (event : Bytes) (x : Expression) → GoodStep scope (on_activities_of t scope at (tree.Mask event x))
    mask_good scope at event x = step_then scope (known (at + 1) (any_event event t.codes)) _ (λ code d. step_then scope (asked_of t scope k.Activity (at + 3) x) _ (λ term e. step_then scope (not_on_remove t at) _ (λ _ _ st good.
        goes_next result scope (doing.on_activities m (p.Mask (symbol_of t.codes event) true term)) st (mask_does scope (at + 3) (symbol_of t.codes event) true x term st e (event_known (at + 1) event code d) good))))

    pub unmask_good : (scope : Scope) (at : ℕ) (event : Bytes) (x : Expression) → GoodStep scope (on_activities_of t scope at (tree.Unmask event x))
    unmask_good scope at event x = step_then scope (known (at + 1) (any_event event t.codes)) _ (λ code d. step_then scope (asked_of t scope k.Activity (at + 3) x) _ (λ term e. step_then scope (not_on_remove t at) _ (λ _ _ st good.
        goes_next result scope (doing.on_activities m (p.Mask (symbol_of t.codes event) false term)) st (mask_does scope (at + 3) (symbol_of t.codes event) false x term st e (event_known (at + 1) event code d) good))))

    -- period and times of a timer that occurs once
    repeat_does : {B : Type 0} (scope : Scope) (Q : B → running.State → Type 0) (at : ℕ) (x : Option (Expression × Expression)) (terms : Option (Term × Term)) (g : ℤ × ℤ → Run B) (st : running.State) → repeat_of t scope at x ≡ Ok terms → Good scope st
        → ((times : ℤ × ℤ) (su : running.State) → Repeats terms times → Good scope su → Does Q (g times su)) → Does Q (then_run (doing.repeat_of m terms st) g)
    repeat_does scope Q at None terms g st e good go = subst (λ z. Does Q (then_run (doing.repeat_of m z st) g)) (ok_same _ terms e) (go (pos 0, pos 1) st (subst (λ z. Repeats z (pos 0, pos 1)) (ok_same None terms e) refl) good)
    repeat_does scope Q at (Some r) terms g st e good go =
        let one = bind_ok (asked_of t scope k.Int (at + 1) r.0) _ terms e in
        let other = bind_ok (asked_of t scope k.Int (at + 2 + tokens_in r.0) r.1) _ terms one.2 in
        subst (λ z. Does Q (then_run (doing.repeat_of m z st) g)) (ok_same (Some (one.0, other.0)) terms other.2)
        (hush scope Q (doing.repeat_of m (Some (one.0, other.0))) g st
        (keep_then m (Keeps m scope) scope (doing.int_of m one.0 st) _ (int_safe m scope one.0 st (asked_yields m t scope k.Int (at + 1) r.0 one.0 one.1) good.sound) (λ n su fits.
        keep_then m (Keeps m scope) scope (doing.int_of m other.0 su) _ (int_safe m scope other.0 su (asked_yields m t scope k.Int (at + 2 + tokens_in r.0) r.1 other.0 other.1) fits) (λ o sv fits. fits)))
        (still_repeat m (Some (one.0, other.0))) good (λ times su _ held. go times su (subst (λ z. Repeats z times) (ok_same (Some (one.0, other.0)) terms other.2) tt) held))

    pub timer_good : (scope : Scope) (at : ℕ) (x : SettingTimer) → GoodStep scope (timer_of t scope at x)
    timer_good scope at x = step_then scope (check_new scope x.name (at + 1)) _ (λ _ _. step_then scope (asked_of t scope k.Activity (at + 3) x.activity) _ (λ activity e. step_then scope (asked_of t scope k.Int (at + 4 + tokens_in x.activity) x.start) _ (λ start g.
        step_then scope (repeat_of t scope (at + 4 + tokens_in x.activity + tokens_in x.start) x.repeat) _ (λ repeat h. step_then scope (not_on_remove t at) _ (λ _ _ st good.
        goes_next result (with_value scope x.name k.Timer) (doing.on_timers m (p.Start activity start repeat (keep_of x.keep))) st
        (activity_does scope (λ _ su. Good (with_value scope x.name k.Timer) su) (at + 3) x.activity activity _ st e good (λ r su _ held.
        hush scope (λ _ su. Good (with_value scope x.name k.Timer) su) (doing.int_of m start) _ su (int_safe m scope start su (asked_yields m t scope k.Int (at + 4 + tokens_in x.activity) x.start start g) held.sound) (still_int m start) held (λ n sv _ kept.
        repeat_does scope (λ _ su. Good (with_value scope x.name k.Timer) su) (at + 4 + tokens_in x.activity + tokens_in x.start) x.repeat repeat _ sv h kept (λ times sw well left.
        test (λ _ su. Good (with_value scope x.name k.Timer) su) f.Range (doing.is_within (pos 0) doing.last_moment n && doing.repeats_well repeat times) _ sw (λ ranges.
        active_does scope (λ _ su. Good (with_value scope x.name k.Timer) su) r _ sw left (λ seen sx _ last.
        made scope (λ _ su. Good (with_value scope x.name k.Timer) su) (ef.SetTimer r (unsigned_abs n) (unsigned_abs times.0) (unsigned_abs times.1) (keep_of x.keep)) _ sx (spec_fits repeat n times (keep_of x.keep) well ranges) (λ r wrong. absurd (cc)) last (λ sy _ end.
        declare_does s me own a sound m first path scope (record { name = x.name; holds = expected.Value k.Timer }) (Holds (NewTimer (count_of timers_by (m.effects ++ sx.effects)))) sy refl tt end))))))))))))

    pub suspend_good : (scope : Scope) (at : ℕ) (x : Expression) → GoodVerb scope (verb_of t scope at v.Suspend x)
    suspend_good scope at x = verb_then scope (asked_of t scope k.Int (at + 1) x) _ (λ term e. verb_then scope (check_handler t.role at) _ (λ _ _ st good.
        goes_next result scope (doing.on_activities m (p.Suspend term)) st
        (hush scope (λ _ su. Good scope su) (doing.int_of m term) _ st (int_safe m scope term st (asked_yields m t scope k.Int (at + 1) x term e) good.sound) (still_int m term) good (λ n su _ held.
        test (λ _ su. Good scope su) f.Range (doing.is_within (pos 1) doing.last_moment n) _ su (λ _.
        hush scope (λ _ su. Good scope su) (read.now m) _ su (now_safe m scope su held.sound) (still_now m) held (λ time sv _ kept.
        test (λ _ su. Good scope su) f.Range (int_le (time +ℤ n) doing.last_moment) (effect (ef.Suspend (Known m.arguments.activity.0) (unsigned_abs (time +ℤ n)))) sv (λ _.
        makes scope (ef.Suspend (Known m.arguments.activity.0) (unsigned_abs (time +ℤ n))) sv (ap Known acting) (λ r wrong. absurd (cc)) kept)))))))

    return_good : (scope : Scope) (at : ℕ) (role : Role) (x : Expression) → result ≡ result_in role → GoodVerb scope (return_of t scope at role x)
    return_good scope at (InMethod (Some kind)) x same = verb_then scope (asked_of t scope kind (at + 1) x) _ (λ term e st good.
        value scope kind (Leads result scope) term (λ y. give (Returned y)) st (asked_yields m t scope kind (at + 1) x term e) good
        (λ y su is held. (subst (λ z. IsReturned z y) (sym same) is, held.sound.1, held.left)))
    return_good scope at (InMethod None) x same = verb_then scope (expression_of t scope (at + 1) x) _ (λ _ _. tt)
    return_good scope at (OnEvent fields) x same = verb_then scope (expression_of t scope (at + 1) x) _ (λ _ _. tt)
    return_good scope at OnException x same = verb_then scope (expression_of t scope (at + 1) x) _ (λ _ _. tt)
    return_good scope at OnRolledBack x same = verb_then scope (expression_of t scope (at + 1) x) _ (λ _ _. tt)
    return_good scope at OnRemove x same = verb_then scope (expression_of t scope (at + 1) x) _ (λ _ _. tt)

    pub verb_good : (scope : Scope) (at : ℕ) (verb : Verb) (x : Expression) → result ≡ result_in t.role → GoodVerb scope (verb_of t scope at verb x)
    verb_good scope at v.End x same = end_good scope at x
    verb_good scope at v.Cancel x same = cancel_good scope at x
    verb_good scope at v.Unbind x same = unbind_good scope at x
    verb_good scope at v.Emit x same = emit_good scope at x
    verb_good scope at v.Return x same = return_good scope at t.role x same
    verb_good scope at v.Throw x same = throw_good scope at x
    verb_good scope at v.Suspend x same = suspend_good scope at x
    verb_good scope at v.Resume x same = resume_good scope at x

    pub usage_good : (scope : Scope) (at : ℕ) (name : Bytes) (x : Expression) → GoodStep scope (statement_made t scope at (tree.Usage name x))
    usage_good scope at name x = step_then scope (asked_of t scope k.Int (at + 2) x) _ (λ term e. step_then scope (not_on_remove t at) _ (λ _ _ st good.
        hush scope (Leads result scope) (doing.int_of m term) _ st (int_safe m scope term st (asked_yields m t scope k.Int (at + 2) x term e) good.sound) (still_int m term) good (λ n su _ held.
        goes_next result scope (effect (ef.Usage m.me (t.block.key ++ codes "." ++ name) n)) su (makes scope (ef.Usage m.me (t.block.key ++ codes "." ++ name) n) su (me_at_all scope su held) (λ r wrong. absurd (cc)) held))))

    pub rollback_good : (scope : Scope) (at : ℕ) → GoodStep scope (statement_made t scope at tree.Rollback)
    rollback_good scope at = step_then scope (not_on_remove t at) _ (λ _ _ st good. record { sound = good.sound; left = record { from = good.left.from; typed = good.left.typed; lives = good.left.lives }; kids = good.kids })

    -- the fields of an event that is fired, each declared and of its kind, in byte order, none of those given left out
    fields_do : {B : Type 0} (scope : Scope) (Q : B → running.State → Type 0) (codes : List FieldCode) (given : List Bytes) (at : ℕ) (fields : List (Bytes × Expression)) (terms : List (Bytes × Term)) (done : List (List ℕ × Val)) (g : List (List ℕ × Val) → Run B) (st : running.State)
        → fields_of t scope codes given at fields ≡ Ok terms → AllByRecursion (FieldIs codes) done → Ordered done → AllByRecursion (λ (y : List ℕ × Val). IsIn y.0 given) done → Good scope st
        → ((xs : List (List ℕ × Val)) (su : running.State) → AllByRecursion (FieldIs codes) xs → Ordered xs → ((n : List ℕ) → (list_any (bytes_eq n) (map (λ (f : Bytes × Expression). f.0) fields) || list_any (bytes_eq n) (names_of done)) ≡ true → list_any (bytes_eq n) (names_of xs) ≡ true) → Good scope su → Does Q (g xs su))
        → Does Q (then_run (doing.fields_of m terms done st) g)
    fields_do scope Q codes given at [] terms done g st e all order old good go = subst (λ z. Does Q (then_run (doing.fields_of m z done st) g)) (ok_same _ terms e) (go done st all order (λ n h. h) good)
    fields_do scope Q codes given at (field ∷ more) terms done g st e all order old good go =
        let kind = bind_ok (known at (kind_in field.0 codes)) _ terms e in
        let new = bind_ok (tested bad.Count at (not (list_any (bytes_eq field.0) given))) _ terms kind.2 in
        let term = bind_ok (asked_of t scope kind.0 (at + 2) field.1) _ terms new.2 in
        let rest = bind_ok (fields_of t scope codes (field.0 ∷ given) (at + 3 + tokens_in field.1) more) _ terms term.2 in
        let apart : list_any (bytes_eq field.0) given ≡ false = not-true (list_any (bytes_eq field.0) given) (tested_true bad.Count at (not (list_any (bytes_eq field.0) given)) new.0 new.1) in
        subst (λ z. Does Q (then_run (doing.fields_of m z done st) g)) (ok_same ((field.0, term.0) ∷ rest.0) terms rest.2)
        (nested Q (eval m term.0 st) (λ x. doing.fields_of m rest.0 (doing.put_field (field.0, x) done)) g
        (value scope kind.0 Q term.0 (λ x sv. then_run (doing.fields_of m rest.0 (doing.put_field (field.0, x) done) sv) g) st (asked_yields m t scope kind.0 (at + 2) field.1 term.0 term.1) good (λ x su is held.
        fields_do scope Q codes (field.0 ∷ given) (at + 3 + tokens_in field.1) more rest.0 (doing.put_field (field.0, x) done) g su rest.1
        (put_all (FieldIs codes) (field.0, x) done (kind.0, known_some at (kind_in field.0 codes) kind.0 kind.1, is) all)
        (put_ordered (field.0, x) done (none_given field.0 given done apart old) order)
        (put_all (λ (y : List ℕ × Val). IsIn y.0 (field.0 ∷ given)) (field.0, x) done (inl refl) (all_map (λ (y : List ℕ × Val). IsIn y.0 given) (λ (y : List ℕ × Val). IsIn y.0 (field.0 ∷ given)) done (λ y here. inr here) old)) held
        (λ xs sv one two has kept. go xs sv one two (λ n h. has n (subst (λ z. (list_any (bytes_eq n) (map (λ (f : Bytes × Expression). f.0) more) || z) ≡ true) (sym (put_has n (field.0, x) done)) (moved (bytes_eq n field.0) (list_any (bytes_eq n) (map (λ (f : Bytes × Expression). f.0) more)) (list_any (bytes_eq n) (names_of done)) h))) kept))))
      where
        moved : (a b c : Bool) → ((a || b) || c) ≡ true → (b || (a || c)) ≡ true
        moved true true c h = refl
        moved true false c h = refl
        moved false b c h = h

    service_known : (at : ℕ) (service : Option Bytes) (u : Unit {0}) → check_service t at service ≡ Ok u → none_or (λ key. is_some (service_named s.deployment key)) service ≡ true
    service_known at None u e = refl
    service_known at (Some key) u e = all_declared.services key (tested_true bad.Name at (list_any (bytes_eq key) t.codes.services) u e)

    pub fire_good : (scope : Scope) (at : ℕ) (name : Bytes) (x : Expression) (service : Option Bytes) (fields : List (Bytes × Expression)) → GoodStep scope (on_activities_of t scope at (tree.Fire name x service fields))
    fire_good scope at name x service fields = step_then scope (known (at + 1) (declared_event name t.codes)) _ (λ event d. step_then scope (asked_of t scope k.Activity (at + 3) x) _ (λ term e. step_then scope (check_service t (at + 4 + tokens_in x) service) _ (λ u c.
        step_then scope (fields_of t scope event.fields [] (at + 4 + tokens_in x + tokens_in_tail service) fields) _ (λ terms g. step_then scope (tested bad.Count (at + 1) (are_all_given event.fields (map (λ f. f.0) fields))) _ (λ w full. step_then scope (not_on_remove t at) _ (λ _ _ st good.
        goes_next result scope (doing.on_activities m (p.Fire name term service terms)) st
        (activity_does scope (λ _ su. Good scope su) (at + 3) x term _ st e good (λ r su _ held.
        fields_do scope (λ _ su. Good scope su) event.fields [] (at + 4 + tokens_in x + tokens_in_tail service) fields terms [] _ su g tt tt tt held (λ xs sv all order has kept.
        active_does scope (λ _ su. Good scope su) r _ sv kept (λ seen sw _ left.
        let there : named (λ (e : EventCode). e.name) name s.deployment.events ≡ Some event = ap (named (λ (e : EventCode). e.name) name) (sym all_declared.events) ∙ known_some (at + 1) (declared_event name t.codes) event d in
        makes scope (ef.Fire r name service xs) sw
        (service_known (at + 4 + tokens_in x) service u c, event, there, fields_typed event.fields xs (rise_in_order event.fields (all_declared.rise name event there)) order all (given_all xs event.fields (tested_true bad.Count (at + 1) (are_all_given event.fields (map (λ f. f.0) fields)) w full) has))
        (λ r wrong. absurd (cc)) left))))))))))
      where
        given_all : (xs : List (List ℕ × Val)) (ds : List FieldCode) → are_all_given ds (map (λ (f : Bytes × Expression). f.0) fields) ≡ true → ((n : List ℕ) → (list_any (bytes_eq n) (map (λ (f : Bytes × Expression). f.0) fields) || false) ≡ true → list_any (bytes_eq n) (names_of xs) ≡ true)
            → AllByRecursion (λ (d : FieldCode). list_any (bytes_eq d.name) (names_of xs) ≡ true) ds
        given_all xs [] full has = tt
        given_all xs (d ∷ ds) full has =
            let parts = and_parts (list_any (bytes_eq d.name) (map (λ (f : Bytes × Expression). f.0) fields)) (are_all_given ds (map (λ (f : Bytes × Expression). f.0) fields)) full in
            (has d.name (or_left (list_any (bytes_eq d.name) (map (λ (f : Bytes × Expression). f.0) fields)) parts.0), given_all xs ds parts.1 has)
          where
            or_left : (b : Bool) → b ≡ true → (b || false) ≡ true
            or_left true is = refl
            or_left false is = absurd (cc)

    pub on_activities_good : (scope : Scope) (at : ℕ) (x : OnActivities) → GoodStep scope (on_activities_of t scope at x)
    on_activities_good scope at (tree.Attach someone x) = attach_good scope at someone x
    on_activities_good scope at (tree.Detach someone x) = detach_good scope at someone x
    on_activities_good scope at (tree.Mask event x) = mask_good scope at event x
    on_activities_good scope at (tree.Unmask event x) = unmask_good scope at event x
    on_activities_good scope at (tree.Fire name x service fields) = fire_good scope at name x service fields
    on_activities_good scope at (tree.Null name) = null_good scope at name
    on_activities_good scope at (tree.Bind x y) = bind_good scope at x y
