-- What a statement without a block is made into is safe.
use Rattle.std.proofs.Common.{◌≡◌, ◌+◌, true, false, Bool, ℕ, List, [], ◌∷◌, ◌++◌, map, Option, Some, None, Ok, Err, refl, subst}
use Rattle.std.specs.Prelude.{ℤ, pos, not, ◌+ℤ◌, ◌&&◌, int_le, unsigned_abs, is_none, bytes_eq}
use Rattle.std.specs.List.{list_any}
use Rattle.slee_value.specs.declared.kind.Kind.{Kind}
use Rattle.slee_value.specs.declared.kind.Kind.TheVariants as k
use Rattle.slee_effect.specs.declared.reference.Ref.{Ref}
use Rattle.slee_effect.specs.declared.reference.Ref.TheVariants.{Known}
use Rattle.slee_effect.specs.declared.value.Val.{Val}
use Rattle.slee_effect.specs.declared.value.Val.TheVariants.{NewTimer}
use Rattle.slee_effect.specs.declared.effect.Effect.TheVariants as ef
use Rattle.script_tree.specs.declared.symbol.Verb.{Verb}
use Rattle.script_tree.specs.declared.symbol.Verb.TheVariants as v
use Rattle.script_tree.specs.declared.tree.Who.{Who as NamedWho}
use Rattle.script_tree.specs.declared.tree.Who.TheVariants as named
use Rattle.script_tree.specs.Tree as tree
use Rattle.script_tree.specs.Tree.{Bytes, Expression, Assigning, OnEntities, OnActivities, SettingTimer}
use Rattle.script_types.specs.declared.misuse.CheckBad.TheVariants as bad
use Rattle.script_types.specs.declared.codes.FieldCode.{FieldCode}
use Rattle.script_types.specs.declared.codes.RelationCode.{RelationCode}
use Rattle.script_types.specs.declared.step.Who.{Who}
use Rattle.script_types.specs.declared.symbol.Symbol.{Symbol}
use Rattle.script_types.specs.Codes.{symbol_of, kind_in, any_event, declared_event, relation_named}
use Rattle.script_types.specs.TypingResult.{Checked, tested, known}
use Rattle.script_types.specs.TypingResult as checked
use Rattle.script_types.specs.TypingExpressions.{Role, OnEvent, InMethod, OnException, OnRolledBack, OnRemove, not_on_remove}
use Rattle.script_types.specs.TypingExpressions as typing
use Rattle.script_types.specs.TypingStatements.{check_handler, check_service, are_all_given}
use Rattle.script_types.specs.TokenCounts.{tokens_in, tokens_in_tail}
use Rattle.script_types.specs.Scopes.{Scope, with_value, with_child, check_new}
use Rattle.script_types.specs.Scopes as expected
use Rattle.script_types.specs.Elaboration.{value_named, child_named, attribute_named, expression_of, asked_of}
use Rattle.script_types.specs.ElaborationOfStatements.{Made, assigning_of, rank_of, who_of, fields_of, on_entities_of, on_activities_of, repeat_of, keep_of, timer_of, return_of, verb_of}
use Rattle.script_types.specs.Program as p
use Rattle.script_types.specs.Program.{Term, Step}
use Rattle.script_meaning.specs.declared.outcome.FailKind.TheVariants as f
use Rattle.script_meaning.specs.Overlay.{count_of, timers_by}
use Rattle.script_meaning.specs.Running.{Setting, Holds, Child, State, Ending, Run, then_run, give, effect, effects_of, declare}
use Rattle.script_meaning.specs.Running as running
use Rattle.script_meaning.specs.Terms.{eval}
use Rattle.script_meaning.specs.Doing as doing
use Rattle.script_meaning.specs.Observing as read
use Rattle.script_meaning.specs.Steps.{Next, Returned, Calling, next, act}
use Rattle.script_laws.specs.Fitting.{Safe, Is, Keeps, Flows, result_in, Sound}
use Rattle.script_laws.proofs.SafeRuns.{safe_then, safe_tested, bind_ok, ok_same}
use Rattle.script_laws.proofs.SafePlaces.{child_safe}
use Rattle.script_laws.proofs.SafeObserved.{used_safe, attached_safe, named_safe, now_safe}
use Rattle.script_laws.proofs.SafeExpressions.{Yields, eval_safe}
use Rattle.script_laws.proofs.SafeDoing.{keep_then, expression_yields, asked_yields, int_safe, text_safe, activity_safe, timer_safe, rank_safe, effect_safe, declare_safe, assign_safe}

-- a step is safe wherever variables fit, and those of the scope behind it fit then
abbrev pub Does : Setting → Calling → Option Kind → Scope → Scope → Step → Type 0
Does m call result scope behind step = (st : State) → Sound m scope st → Safe m (Flows m result behind) (act m call step st)

abbrev pub GoodStep : Setting → Calling → Option Kind → Scope → Checked Made → Type 0
GoodStep m call result scope (Ok made) = Does m call result scope made.scope made.step
GoodStep m call result scope (Err fault) = Unit {0}

abbrev pub GoodVerb : Setting → Calling → Option Kind → Scope → Checked Step → Type 0
GoodVerb m call result scope (Ok step) = Does m call result scope scope step
GoodVerb m call result scope (Err fault) = Unit {0}

pub step_then : {A : Type 0} (m : Setting) (call : Calling) (result : Option Kind) (scope : Scope) (r : Checked A) (g : A → Checked Made) → ((x : A) → r ≡ Ok x → GoodStep m call result scope (g x)) → GoodStep m call result scope (checked.◌>>=◌ r g)
step_then m call result scope (Ok x) g h = h x refl
step_then m call result scope (Err fault) g h = tt

pub verb_then : {A : Type 0} (m : Setting) (call : Calling) (result : Option Kind) (scope : Scope) (r : Checked A) (g : A → Checked Step) → ((x : A) → r ≡ Ok x → GoodVerb m call result scope (g x)) → GoodVerb m call result scope (checked.◌>>=◌ r g)
verb_then m call result scope (Ok x) g h = h x refl
verb_then m call result scope (Err fault) g h = tt

-- a step behind which the next one comes
pub goes_on : (given : Setting) (result : Option Kind) (behind : Scope) (m : Run (Unit {0})) (st : State) → Safe given (Keeps given behind) (m st) → Safe given (Flows given result behind) (next m st)
goes_on given result behind m st h = safe_then given (Keeps given behind) (Flows given result behind) (m st) (λ _. give Next) h (λ _ new kept. kept)

pub assigning_good : (m : Setting) (call : Calling) (result : Option Kind) (s : typing.Setting) (scope : Scope) (at : ℕ) (x : Assigning) → GoodStep m call result scope (assigning_of s scope at x)
assigning_good m call result s scope at (tree.New name x) = step_then m call result scope (check_new scope name (at + 1)) _ (λ _ _. step_then m call result scope (expression_of s scope (at + 3) x) _ (λ one e st fits.
    goes_on m result (with_value scope name one.kind) (doing.assigns m (p.New one.term)) st
    (safe_then m (Is m one.kind scope) (Keeps m (with_value scope name one.kind)) (eval m one.term st) (λ y. declare (Holds y)) (eval_safe m scope one.kind one.term st (expression_yields m s scope (at + 3) x one e) fits)
    (λ y new r. declare_safe m scope (record { name = name; holds = expected.Value one.kind }) (Holds y) new r.0 r.1))))
assigning_good m call result s scope at (tree.Variable name x) = step_then m call result scope (value_named scope name at) _ (λ variable e. step_then m call result scope (asked_of s scope variable.kind (at + 2) x) _ (λ term g st fits.
    goes_on m result scope (doing.assigns m (p.Variable variable.place term)) st
    (safe_then m (Is m variable.kind scope) (Keeps m scope) (eval m term st) _ (eval_safe m scope variable.kind term st (asked_yields m s scope variable.kind (at + 2) x term g) fits)
    (λ y new r. assign_safe m scope name at variable y new e r.0 r.1))))
assigning_good m call result s scope at (tree.Field name x) = step_then m call result scope (known (at + 2) (kind_in name s.block.fields)) _ (λ kind e. step_then m call result scope (asked_of s scope kind (at + 4) x) _ (λ term g. step_then m call result scope (not_on_remove s at) _ (λ _ _ st fits.
    goes_on m result scope (doing.assigns m (p.Field (symbol_of s.codes name) term)) st
    (safe_then m (Is m kind scope) (Keeps m scope) (eval m term st) _ (eval_safe m scope kind term st (asked_yields m s scope kind (at + 4) x term g) fits) (λ y new r. effect_safe m _ scope new r.1)))))
assigning_good m call result s scope at (tree.Attribute x name y) = step_then m call result scope (asked_of s scope k.Activity (at + 2) x) _ (λ one e. step_then m call result scope (known (at + 3 + tokens_in x) (attribute_named name s.block)) _ (λ attribute _. step_then m call result scope (asked_of s scope attribute.kind (at + 6 + tokens_in x) y) _ (λ other g. step_then m call result scope (not_on_remove s at) _ (λ _ _ st fits.
    goes_on m result scope (doing.assigns m (p.Attribute one (symbol_of s.codes attribute.key) other)) st
    (keep_then m (Keeps m scope) scope (doing.activity_of m one st) _ (activity_safe m scope one st (asked_yields m s scope k.Activity (at + 2) x one e) fits) (λ r new kept.
    safe_then m (Is m attribute.kind scope) (Keeps m scope) (eval m other new) _ (eval_safe m scope attribute.kind other new (asked_yields m s scope attribute.kind (at + 6 + tokens_in x) y other g) kept) (λ z newer held.
    keep_then m (Keeps m scope) scope (read.used m r newer) _ (used_safe m r scope newer held.1) (λ _ last kept. effect_safe m _ scope last kept))))))))

-- an Active activity
pub used_active_safe : (m : Setting) (a : Ref) (scope : Scope) (st : State) → Sound m scope st → Safe m (Keeps m scope) (read.used_active m a st)
used_active_safe m a scope st fits = keep_then m (Keeps m scope) scope (read.used m a st) _ (used_safe m a scope st fits) (λ seen new kept. safe_tested m (Keeps m scope) f.Ending (not seen.ending) (give seen) new kept.1 kept)

who_safe : (m : Setting) (scope : Scope) (at : ℕ) (someone : NamedWho) (found : Who) (st : State) → who_of scope at someone ≡ Ok found → Sound m scope st → Safe m (Keeps m scope) (doing.who m found st)
who_safe m scope at named.Own found st e fits = subst (λ z. Safe m (Keeps m scope) (doing.who m z st)) (ok_same _ found e) fits
who_safe m scope at (named.Child child) found st e fits =
    let a = bind_ok (child_named scope child at) _ found e in
    subst (λ z. Safe m (Keeps m scope) (doing.who m z st)) (ok_same _ found a.2) (child_safe m scope child at a.0 st a.1 fits)

fields_safe : (m : Setting) (s : typing.Setting) (scope : Scope) (declared : List FieldCode) (given : List Bytes) (at : ℕ) (fields : List (Bytes × Expression)) (terms : List (Bytes × Term)) (done : List (List ℕ × Val)) (st : State) → fields_of s scope declared given at fields ≡ Ok terms → Sound m scope st → Safe m (Keeps m scope) (doing.fields_of m terms done st)
fields_safe m s scope declared given at [] terms done st e fits = subst (λ z. Safe m (Keeps m scope) (doing.fields_of m z done st)) (ok_same _ terms e) fits
fields_safe m s scope declared given at (field ∷ more) terms done st e fits =
    let a = bind_ok (known at (kind_in field.0 declared)) _ terms e in
    let b = bind_ok (tested bad.Count at (not (list_any (bytes_eq field.0) given))) _ terms a.2 in
    let c = bind_ok (asked_of s scope a.0 (at + 2) field.1) _ terms b.2 in
    let d = bind_ok (fields_of s scope declared (field.0 ∷ given) (at + 3 + tokens_in field.1) more) _ terms c.2 in
    subst (λ z. Safe m (Keeps m scope) (doing.fields_of m z done st)) (ok_same ((field.0, c.0) ∷ d.0) terms d.2)
    (safe_then m (Is m a.0 scope) (Keeps m scope) (eval m c.0 st) _ (eval_safe m scope a.0 c.0 st (asked_yields m s scope a.0 (at + 2) field.1 c.0 c.1) fits)
    (λ x new r. fields_safe m s scope declared (field.0 ∷ given) (at + 3 + tokens_in field.1) more d.0 (doing.put_field (field.0, x) done) new d.1 r.1))

mask_safe : (m : Setting) (scope : Scope) (event : Symbol Bytes) (on : Bool) (term : Term) (st : State) → Yields m scope k.Activity term → Sound m scope st → Safe m (Keeps m scope) (doing.on_activities m (p.Mask event on term) st)
mask_safe m scope event on term st h fits =
    keep_then m (Keeps m scope) scope (doing.activity_of m term st) _ (activity_safe m scope term st h fits) (λ r st fits.
    keep_then m (Keeps m scope) scope (read.used m r st) _ (used_safe m r scope st fits) (λ _ st fits.
    keep_then m (Keeps m scope) scope (read.attached m r st) _ (attached_safe m r scope st fits) (λ b st fits. safe_tested m (Keeps m scope) f.Detached b (effect (ef.SetMask m.me r event.name on)) st fits.1 (effect_safe m (ef.SetMask m.me r event.name on) scope st fits))))

pub on_activities_good : (m : Setting) (call : Calling) (result : Option Kind) (s : typing.Setting) (scope : Scope) (at : ℕ) (x : OnActivities) → GoodStep m call result scope (on_activities_of s scope at x)
on_activities_good m call result s scope at (tree.Attach someone x) = step_then m call result scope (who_of scope (at + 1) someone) _ (λ who d. step_then m call result scope (asked_of s scope k.Activity (at + 3) x) _ (λ term e. step_then m call result scope (not_on_remove s at) _ (λ _ _ st fits.
    goes_on m result scope (doing.on_activities m (p.Attach who term)) st
    (keep_then m (Keeps m scope) scope (doing.who m who st) _ (who_safe m scope (at + 1) someone who st d fits) (λ _ st fits.
    keep_then m (Keeps m scope) scope (doing.activity_of m term st) _ (activity_safe m scope term st (asked_yields m s scope k.Activity (at + 3) x term e) fits) (λ r st fits.
    keep_then m (Keeps m scope) scope (read.used_active m r st) _ (used_active_safe m r scope st fits) (λ _ st fits. effect_safe m _ scope st fits)))))))
on_activities_good m call result s scope at (tree.Detach someone x) = step_then m call result scope (who_of scope (at + 1) someone) _ (λ who d. step_then m call result scope (asked_of s scope k.Activity (at + 3) x) _ (λ term e. step_then m call result scope (not_on_remove s at) _ (λ _ _ st fits.
    goes_on m result scope (doing.on_activities m (p.Detach who term)) st
    (keep_then m (Keeps m scope) scope (doing.who m who st) _ (who_safe m scope (at + 1) someone who st d fits) (λ _ st fits.
    keep_then m (Keeps m scope) scope (doing.activity_of m term st) _ (activity_safe m scope term st (asked_yields m s scope k.Activity (at + 3) x term e) fits) (λ r st fits.
    keep_then m (Keeps m scope) scope (read.used m r st) _ (used_safe m r scope st fits) (λ _ st fits. effect_safe m _ scope st fits)))))))
on_activities_good m call result s scope at (tree.Mask event x) = step_then m call result scope (known (at + 1) (any_event event s.codes)) _ (λ _ _. step_then m call result scope (asked_of s scope k.Activity (at + 3) x) _ (λ term e. step_then m call result scope (not_on_remove s at) _ (λ _ _ st fits.
    goes_on m result scope (doing.on_activities m (p.Mask (symbol_of s.codes event) true term)) st (mask_safe m scope (symbol_of s.codes event) true term st (asked_yields m s scope k.Activity (at + 3) x term e) fits))))
on_activities_good m call result s scope at (tree.Unmask event x) = step_then m call result scope (known (at + 1) (any_event event s.codes)) _ (λ _ _. step_then m call result scope (asked_of s scope k.Activity (at + 3) x) _ (λ term e. step_then m call result scope (not_on_remove s at) _ (λ _ _ st fits.
    goes_on m result scope (doing.on_activities m (p.Mask (symbol_of s.codes event) false term)) st (mask_safe m scope (symbol_of s.codes event) false term st (asked_yields m s scope k.Activity (at + 3) x term e) fits))))
on_activities_good m call result s scope at (tree.Fire name x service fields) = step_then m call result scope (known (at + 1) (declared_event name s.codes)) _ (λ event _. step_then m call result scope (asked_of s scope k.Activity (at + 3) x) _ (λ term e. step_then m call result scope (check_service s (at + 4 + tokens_in x) service) _ (λ _ _.
    step_then m call result scope (fields_of s scope event.fields [] (at + 4 + tokens_in x + tokens_in_tail service) fields) _ (λ terms g. step_then m call result scope (tested bad.Count (at + 1) (are_all_given event.fields (map (λ f. f.0) fields))) _ (λ _ _. step_then m call result scope (not_on_remove s at) _ (λ _ _ st fits.
    goes_on m result scope (doing.on_activities m (p.Fire name term service terms)) st
    (keep_then m (Keeps m scope) scope (doing.activity_of m term st) _ (activity_safe m scope term st (asked_yields m s scope k.Activity (at + 3) x term e) fits) (λ r st fits.
    keep_then m (Keeps m scope) scope (doing.fields_of m terms [] st) _ (fields_safe m s scope event.fields [] (at + 4 + tokens_in x + tokens_in_tail service) fields terms [] st g fits) (λ xs st fits.
    keep_then m (Keeps m scope) scope (read.used_active m r st) _ (used_active_safe m r scope st fits) (λ _ st fits. effect_safe m _ scope st fits))))))))))
on_activities_good m call result s scope at (tree.Null name) = step_then m call result scope (check_new scope name (at + 2)) _ (λ _ _. step_then m call result scope (not_on_remove s at) _ (λ _ _ st fits.
    goes_on m result (with_value scope name k.Activity) (doing.on_activities m p.Null) st
    (keep_then m (Keeps m (with_value scope name k.Activity)) scope (effect ef.NewNull st) _ (effect_safe m ef.NewNull scope st fits) (λ _ new kept. declare_safe m scope (record { name = name; holds = expected.Value k.Activity }) (Holds _) new refl kept))))
on_activities_good m call result s scope at (tree.Bind x y) = step_then m call result scope (asked_of s scope k.Text (at + 1) x) _ (λ one e. step_then m call result scope (asked_of s scope k.Activity (at + 2 + tokens_in x) y) _ (λ other g. step_then m call result scope (not_on_remove s at) _ (λ _ _ st fits.
    goes_on m result scope (doing.on_activities m (p.Bind one other)) st
    (keep_then m (Keeps m scope) scope (doing.text_of m one st) _ (text_safe m scope one st (asked_yields m s scope k.Text (at + 1) x one e) fits) (λ name st fits.
    keep_then m (Keeps m scope) scope (doing.activity_of m other st) _ (activity_safe m scope other st (asked_yields m s scope k.Activity (at + 2 + tokens_in x) y other g) fits) (λ r st fits.
    safe_tested m (Keeps m scope) f.Range (not (bytes_eq name [])) _ st fits.1
    (keep_then m (Keeps m scope) scope (read.used_active m r st) _ (used_active_safe m r scope st fits) (λ _ st fits.
    keep_then m (Keeps m scope) scope (read.named m name st) _ (named_safe m name scope st fits) (λ bound st fits. safe_tested m (Keeps m scope) f.Bound (is_none bound) (effect (ef.Bind name r)) st fits.1 (effect_safe m (ef.Bind name r) scope st fits))))))))))

rank_of_safe : (m : Setting) (s : typing.Setting) (scope : Scope) (relation : RelationCode) (at : ℕ) (x : Option Expression) (rank : p.Rank) (st : State) → rank_of s scope relation at x ≡ Ok rank → Sound m scope st → Safe m (Keeps m scope) (doing.rank_of m rank st)
rank_of_safe m s scope relation at None rank st e fits = subst (λ z. Safe m (Keeps m scope) (doing.rank_of m z st)) (ok_same _ rank e) fits
rank_of_safe m s scope relation at (Some x) rank st e fits =
    let a = bind_ok (asked_of s scope k.Int at x) _ rank e in
    subst (λ z. Safe m (Keeps m scope) (doing.rank_of m z st)) (ok_same (p.Asked a.0) rank a.2) (rank_safe m scope a.0 st (asked_yields m s scope k.Int at x a.0 a.1) fits)

pub create_good : (m : Setting) (call : Calling) (result : Option Kind) (s : typing.Setting) (scope : Scope) (at : ℕ) (name child : Bytes) (priority : Option Expression) → GoodStep m call result scope (on_entities_of s scope at (tree.Create name child priority))
create_good m call result s scope at name child priority = step_then m call result scope (known (at + 1) (relation_named name s.block)) _ (λ relation _. step_then m call result scope (check_new scope child (at + 3)) _ (λ _ _. step_then m call result scope (rank_of s scope relation (at + 5) priority) _ (λ rank e. step_then m call result scope (not_on_remove s at) _ (λ _ _ st fits.
    goes_on m result (with_child scope child relation.block) (doing.on_entities m (p.Create (symbol_of s.codes name) rank)) st
    (keep_then m (Keeps m (with_child scope child relation.block)) scope (doing.rank_of m rank st) _ (rank_of_safe m s scope relation (at + 5) priority rank st e fits) (λ n st fits.
    keep_then m (Keeps m (with_child scope child relation.block)) scope (effect (ef.Create m.me name n) st) _ (effect_safe m (ef.Create m.me name n) scope st fits) (λ _ new kept. declare_safe m scope (record { name = child; holds = expected.Child relation.block }) (Child _) new refl kept)))))))

pub remove_good : (m : Setting) (call : Calling) (result : Option Kind) (s : typing.Setting) (scope : Scope) (at : ℕ) (child : Bytes) → GoodStep m call result scope (on_entities_of s scope at (tree.Remove child))
remove_good m call result s scope at child = step_then m call result scope (child_named scope child (at + 1)) _ (λ found e. step_then m call result scope (not_on_remove s at) _ (λ _ _ st fits.
    goes_on m result scope (doing.on_entities m (p.Remove found.place)) st
    (keep_then m (Keeps m scope) scope (read.child m found.place st) _ (child_safe m scope child (at + 1) found st e fits) (λ c st fits. effect_safe m _ scope st fits))))

pub priority_good : (m : Setting) (call : Calling) (result : Option Kind) (s : typing.Setting) (scope : Scope) (at : ℕ) (child : Bytes) (x : Expression) → GoodStep m call result scope (on_entities_of s scope at (tree.Priority child x))
priority_good m call result s scope at child x = step_then m call result scope (child_named scope child (at + 1)) _ (λ found e. step_then m call result scope (asked_of s scope k.Int (at + 2) x) _ (λ term g. step_then m call result scope (not_on_remove s at) _ (λ _ _ st fits.
    goes_on m result scope (doing.on_entities m (p.Priority found.place term)) st
    (keep_then m (Keeps m scope) scope (read.child m found.place st) _ (child_safe m scope child (at + 1) found st e fits) (λ c st fits.
    keep_then m (Keeps m scope) scope (doing.asked_rank m term st) _ (rank_safe m scope term st (asked_yields m s scope k.Int (at + 2) x term g) fits) (λ n st fits. effect_safe m _ scope st fits))))))

repeat_safe : (m : Setting) (s : typing.Setting) (scope : Scope) (at : ℕ) (x : Option (Expression × Expression)) (terms : Option (Term × Term)) (st : State) → repeat_of s scope at x ≡ Ok terms → Sound m scope st → Safe m (Keeps m scope) (doing.repeat_of m terms st)
repeat_safe m s scope at None terms st e fits = subst (λ z. Safe m (Keeps m scope) (doing.repeat_of m z st)) (ok_same _ terms e) fits
repeat_safe m s scope at (Some r) terms st e fits =
    let a = bind_ok (asked_of s scope k.Int (at + 1) r.0) _ terms e in
    let b = bind_ok (asked_of s scope k.Int (at + 2 + tokens_in r.0) r.1) _ terms a.2 in
    subst (λ z. Safe m (Keeps m scope) (doing.repeat_of m z st)) (ok_same (Some (a.0, b.0)) terms b.2)
    (keep_then m (Keeps m scope) scope (doing.int_of m a.0 st) _ (int_safe m scope a.0 st (asked_yields m s scope k.Int (at + 1) r.0 a.0 a.1) fits) (λ n st fits.
    keep_then m (Keeps m scope) scope (doing.int_of m b.0 st) _ (int_safe m scope b.0 st (asked_yields m s scope k.Int (at + 2 + tokens_in r.0) r.1 b.0 b.1) fits) (λ o st fits. fits)))

pub timer_good : (m : Setting) (call : Calling) (result : Option Kind) (s : typing.Setting) (scope : Scope) (at : ℕ) (t : SettingTimer) → GoodStep m call result scope (timer_of s scope at t)
timer_good m call result s scope at t = step_then m call result scope (check_new scope t.name (at + 1)) _ (λ _ _. step_then m call result scope (asked_of s scope k.Activity (at + 3) t.activity) _ (λ activity e. step_then m call result scope (asked_of s scope k.Int (at + 4 + tokens_in t.activity) t.start) _ (λ start g.
    step_then m call result scope (repeat_of s scope (at + 4 + tokens_in t.activity + tokens_in t.start) t.repeat) _ (λ repeat h. step_then m call result scope (not_on_remove s at) _ (λ _ _ st fits.
    goes_on m result (with_value scope t.name k.Timer) (doing.on_timers m (p.Start activity start repeat (keep_of t.keep))) st
    (keep_then m (Keeps m (with_value scope t.name k.Timer)) scope (doing.activity_of m activity st) _ (activity_safe m scope activity st (asked_yields m s scope k.Activity (at + 3) t.activity activity e) fits) (λ r st fits.
    keep_then m (Keeps m (with_value scope t.name k.Timer)) scope (doing.int_of m start st) _ (int_safe m scope start st (asked_yields m s scope k.Int (at + 4 + tokens_in t.activity) t.start start g) fits) (λ n st fits.
    keep_then m (Keeps m (with_value scope t.name k.Timer)) scope (doing.repeat_of m repeat st) _ (repeat_safe m s scope (at + 4 + tokens_in t.activity + tokens_in t.start) t.repeat repeat st h fits) (λ times st fits.
    safe_tested {A = Unit {0}} m (Keeps m (with_value scope t.name k.Timer)) f.Range (doing.is_within (pos 0) doing.last_moment n && doing.repeats_well repeat times) _ st fits.1
    (keep_then m (Keeps m (with_value scope t.name k.Timer)) scope (read.used_active m r st) _ (used_active_safe m r scope st fits) (λ _ st fits.
    keep_then m (Keeps m (with_value scope t.name k.Timer)) scope (effect (ef.SetTimer r (unsigned_abs n) (unsigned_abs times.0) (unsigned_abs times.1) (keep_of t.keep)) st) _ (effect_safe m _ scope st fits) (λ _ new kept. declare_safe m scope (record { name = t.name; holds = expected.Value k.Timer }) (Holds (NewTimer (count_of timers_by (m.effects ++ st.effects)))) new refl kept))))))))))))

return_good : (m : Setting) (call : Calling) (s : typing.Setting) (scope : Scope) (at : ℕ) (role : Role) (x : Expression) → GoodVerb m call (result_in role) scope (return_of s scope at role x)
return_good m call s scope at (InMethod (Some kind)) x = verb_then m call (Some kind) scope (asked_of s scope kind (at + 1) x) _ (λ term e st fits.
    safe_then m (Is m kind scope) (Flows m (Some kind) scope) (eval m term st) (λ y. give (Returned y)) (eval_safe m scope kind term st (asked_yields m s scope kind (at + 1) x term e) fits) (λ y new r. (r.0, r.1.1)))
return_good m call s scope at (InMethod None) x = verb_then m call None scope (expression_of s scope (at + 1) x) _ (λ _ _. tt)
return_good m call s scope at (OnEvent fields) x = verb_then m call None scope (expression_of s scope (at + 1) x) _ (λ _ _. tt)
return_good m call s scope at OnException x = verb_then m call None scope (expression_of s scope (at + 1) x) _ (λ _ _. tt)
return_good m call s scope at OnRolledBack x = verb_then m call None scope (expression_of s scope (at + 1) x) _ (λ _ _. tt)
return_good m call s scope at OnRemove x = verb_then m call None scope (expression_of s scope (at + 1) x) _ (λ _ _. tt)

-- a moment that lies ahead, and not too far
suspend_safe : (m : Setting) (scope : Scope) (n : ℤ) (st : State) → Sound m scope st →
    (let ahead : ℤ → Run (Unit {0}) = λ time. effect (ef.Suspend (Known m.arguments.activity.0) (unsigned_abs (time +ℤ n))) in
    let until : Run (Unit {0}) = λ st. then_run (read.now m st) (λ time st. then_run (running.tested f.Range (int_le (time +ℤ n) doing.last_moment) st) (λ _. ahead time)) in
    Safe m (Keeps m scope) (then_run (running.tested f.Range (doing.is_within (pos 1) doing.last_moment n) st) (λ _. until)))
suspend_safe m scope n st fits =
    let ahead : ℤ → Run (Unit {0}) = λ time. effect (ef.Suspend (Known m.arguments.activity.0) (unsigned_abs (time +ℤ n))) in
    let until : Run (Unit {0}) = λ st. then_run (read.now m st) (λ time st. then_run (running.tested f.Range (int_le (time +ℤ n) doing.last_moment) st) (λ _. ahead time)) in
    safe_tested {A = Unit {0}} m (Keeps m scope) f.Range (doing.is_within (pos 1) doing.last_moment n) until st fits.1
    (keep_then m (Keeps m scope) scope (read.now m st) (λ time st. then_run (running.tested f.Range (int_le (time +ℤ n) doing.last_moment) st) (λ _. ahead time)) (now_safe m scope st fits)
    (λ time new kept. safe_tested {A = Unit {0}} m (Keeps m scope) f.Range (int_le (time +ℤ n) doing.last_moment) (ahead time) new kept.1 (effect_safe m (ef.Suspend (Known m.arguments.activity.0) (unsigned_abs (time +ℤ n))) scope new kept)))

pub verb_good : (m : Setting) (call : Calling) (s : typing.Setting) (scope : Scope) (at : ℕ) (verb : Verb) (x : Expression) → GoodVerb m call (result_in s.role) scope (verb_of s scope at verb x)
verb_good m call s scope at v.End x = verb_then m call (result_in s.role) scope (asked_of s scope k.Activity (at + 1) x) _ (λ term e. verb_then m call (result_in s.role) scope (not_on_remove s at) _ (λ _ _ st fits.
    goes_on m (result_in s.role) scope (doing.on_activities m (p.End term)) st
    (keep_then m (Keeps m scope) scope (doing.activity_of m term st) _ (activity_safe m scope term st (asked_yields m s scope k.Activity (at + 1) x term e) fits) (λ r st fits.
    keep_then m (Keeps m scope) scope (read.used_active m r st) _ (used_active_safe m r scope st fits) (λ seen st fits. safe_tested m (Keeps m scope) f.NotNull seen.null (effect (ef.EndNull r)) st fits.1 (effect_safe m _ scope st fits))))))
verb_good m call s scope at v.Cancel x = verb_then m call (result_in s.role) scope (asked_of s scope k.Timer (at + 1) x) _ (λ term e. verb_then m call (result_in s.role) scope (not_on_remove s at) _ (λ _ _ st fits.
    goes_on m (result_in s.role) scope (doing.on_timers m (p.Cancel term)) st
    (keep_then m (Keeps m scope) scope (doing.timer_of m term st) _ (timer_safe m scope term st (asked_yields m s scope k.Timer (at + 1) x term e) fits) (λ t st fits. effect_safe m _ scope st fits))))
verb_good m call s scope at v.Unbind x = verb_then m call (result_in s.role) scope (asked_of s scope k.Text (at + 1) x) _ (λ term e. verb_then m call (result_in s.role) scope (not_on_remove s at) _ (λ _ _ st fits.
    goes_on m (result_in s.role) scope (doing.on_activities m (p.Unbind term)) st
    (keep_then m (Keeps m scope) scope (doing.text_of m term st) _ (text_safe m scope term st (asked_yields m s scope k.Text (at + 1) x term e) fits) (λ name st fits.
    keep_then m (Keeps m scope) scope (read.named m name st) _ (named_safe m name scope st fits) (λ bound st fits. safe_tested m (Keeps m scope) f.Unbound (not (is_none bound)) (effect (ef.Unbind name)) st fits.1 (effect_safe m _ scope st fits))))))
verb_good m call s scope at v.Emit x = verb_then m call (result_in s.role) scope (asked_of s scope k.Text (at + 1) x) _ (λ term e st fits.
    keep_then m (Flows m (result_in s.role) scope) scope (doing.text_of m term st) _ (text_safe m scope term st (asked_yields m s scope k.Text (at + 1) x term e) fits) (λ t st fits. goes_on m (result_in s.role) scope (effect (ef.Emit m.me t)) st (effect_safe m _ scope st fits)))
verb_good m call s scope at v.Return x = return_good m call s scope at s.role x
verb_good m call s scope at v.Throw x = verb_then m call (result_in s.role) scope (asked_of s scope k.Text (at + 1) x) _ (λ term e. verb_then m call (result_in s.role) scope (not_on_remove s at) _ (λ _ _ st fits.
    keep_then m (Flows m (result_in s.role) scope) scope (doing.text_of m term st) _ (text_safe m scope term st (asked_yields m s scope k.Text (at + 1) x term e) fits) (λ t st fits. fits.1)))
verb_good m call s scope at v.Suspend x = verb_then m call (result_in s.role) scope (asked_of s scope k.Int (at + 1) x) _ (λ term e. verb_then m call (result_in s.role) scope (check_handler s.role at) _ (λ _ _ st fits.
    goes_on m (result_in s.role) scope (doing.on_activities m (p.Suspend term)) st
    (keep_then m (Keeps m scope) scope (doing.int_of m term st) _ (int_safe m scope term st (asked_yields m s scope k.Int (at + 1) x term e) fits) (λ n st fits. suspend_safe m scope n st fits))))
verb_good m call s scope at v.Resume x = verb_then m call (result_in s.role) scope (asked_of s scope k.Activity (at + 1) x) _ (λ term e. verb_then m call (result_in s.role) scope (not_on_remove s at) _ (λ _ _ st fits.
    goes_on m (result_in s.role) scope (doing.on_activities m (p.Resume term)) st
    (keep_then m (Keeps m scope) scope (doing.activity_of m term st) _ (activity_safe m scope term st (asked_yields m s scope k.Activity (at + 1) x term e) fits) (λ r st fits.
    keep_then m (Keeps m scope) scope (read.used m r st) _ (used_safe m r scope st fits) (λ _ st fits. effect_safe m _ scope st fits)))))
