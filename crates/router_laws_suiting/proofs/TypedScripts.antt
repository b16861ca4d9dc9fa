-- What statements are made into makes typed effects.
use Rattle.std.proofs.Common.{◌≡◌, ◌+◌, true, false, ℕ, List, [], ◌∷◌, ◌++◌, length, map, Option, Some, None, Ok, Err, refl, sym, ◌∙◌, ap, subst, append-nil, inl, inr, zero, suc}
use Rattle.std.specs.Prelude.{◌==◌, is_some, option_and_then}
use Rattle.std.proofs.lemmas.Bool.{eqb-true}
use Rattle.slee_value.specs.declared.kind.Kind.{Kind}
use Rattle.slee_value.specs.declared.kind.Kind.TheVariants as k
use Rattle.slee_effect.specs.declared.effect.Effect.{Effect}
use Rattle.slee_effect.specs.declared.reference.Ref.{Ref}
use Rattle.slee_effect.specs.declared.reference.Ref.TheVariants.{Known, Fresh}
use Rattle.slee_effect.specs.declared.value.Val.{Val}
use Rattle.script_tree.specs.declared.tree.Over.TheVariants as over
use Rattle.script_tree.specs.Tree as tree
use Rattle.script_tree.specs.Tree.{Bytes, Expression, OnActivities, OnEntities, Statement, Statements}
use Rattle.script_types.specs.declared.codes.RelationCode.{RelationCode}
use Rattle.script_types.specs.declared.misuse.CheckBad.TheVariants as bad
use Rattle.script_types.specs.declared.step.Range.{Range}
use Rattle.script_types.specs.declared.step.Range.TheVariants as range
use Rattle.script_types.specs.declared.symbol.Symbol.{Symbol}
use Rattle.script_types.specs.Codes.{relation_named, symbol_of}
use Rattle.script_types.specs.TypingResult.{Checked, tested, known}
use Rattle.script_types.specs.TypingResult as checked
use Rattle.script_types.specs.TypingExpressions.{not_on_remove}
use Rattle.script_types.specs.TypingExpressions as typing
use Rattle.script_types.specs.TypingStatements.{check_result}
use Rattle.script_types.specs.TokenCounts.{tokens_in, tokens_in_arguments, tokens_in_statement, tokens_in_statements}
use Rattle.script_types.specs.Scopes.{Scope, check_new, with_value}
use Rattle.script_types.specs.Scopes as expected
use Rattle.script_types.specs.Elaboration.{asked_of, child_named}
use Rattle.script_types.specs.ElaborationOfStatements.{Loop, Made, MadeAll, MethodAt, arguments_of, loop_of, method_in, on_activities_of, on_entities_of, statement_made, statements_made, verb_of}
use Rattle.script_types.specs.Program as p
use Rattle.script_types.specs.Program.{Step, Steps, Term}
use Rattle.script_check_steps.proofs.Grown.{AllGrow, Longer, statements_grow}
use Rattle.script_meaning.specs.Answers.{ids_in, is_of}
use Rattle.script_meaning.specs.Observing as read
use Rattle.script_meaning.specs.Overlay.{children_after, entities_by, overlay}
use Rattle.script_meaning.specs.Running.{Child, Gave, Holds, Run, Setting, Variable, effects_of, give, look, scoped, then_run, tick_at, ticked}
use Rattle.script_meaning.specs.Running as running
use Rattle.script_meaning.specs.Steps.{Calling, Flow, act, act_all, choose, does_call, followed, items, walk}
use Rattle.script_meaning.specs.Steps as steps
use Rattle.script_meaning.specs.Terms.{eval}
use Rattle.script_meaning.specs.Values.{activity_value}
use Rattle.script_meaning.specs.declared.key.Key.TheVariants as keys
use Rattle.script_laws.proofs.SafeBlocks.{AllAre, arguments_safe}
use Rattle.script_laws.proofs.SafeDoing.{asked_yields}
use Rattle.script_laws.proofs.SafeObserved.{activities_safe, children_safe}
use Rattle.script_laws.proofs.SafeOperators.{activity_is}
use Rattle.script_laws.proofs.SafePlaces.{child_safe}
use Rattle.script_laws.proofs.SafeRuns.{bind_ok, known_some, ok_same, tested_true}
use Rattle.script_laws.specs.Fitting.{AreOf, result_in}
use Rattle.router_laws.specs.Forest.{IsIn}
use Rattle.router_laws_applying.specs.Suited.{ChildrenAfter, children_told}
use Rattle.router_laws_effects.proofs.GuardLemmas.{gave_parts, look_gave, then_gave}
use Rattle.router_laws_suiting.proofs.Still.{still_activities, still_arguments, still_child, still_children}
use Rattle.router_laws_suiting.proofs.TypedBlocks.{AllKids, choose_does, does_all, does_given, does_then, followed_does, good_anew, leads_back, scoped_does, turns_does, walk_does}
use Rattle.router_laws_suiting.proofs.TypedSteps as one
use Rattle.router_laws_suiting.proofs.Walking.{quiet}
use Rattle.router_laws_suiting.specs.Declared.{Declares, DeclaresAll}
use Rattle.router_laws_suiting.specs.Typed.{IsChildOf, frame}
use Rattle.router_laws_suiting.specs.Walks.{Does, GoesOn, IsGood}
use Rattle.router_state.specs.State.{State}
use Rattle.router_state.specs.Well.{IsSound}
use Rattle.router_steps.specs.Scripts.{answers_in}

-- the children of a relation that a run reads
children_gave : (m : Setting) (relation : List ℕ) (refs : List Ref) (st su : running.State) → read.children m relation st ≡ Gave refs su
    → (refs ≡ overlay entities_by (children_after m.me relation) (m.effects ++ su.effects) (map Known (ids_in (option_and_then m.answers (read.key_of (λ n. keys.Children (record { 0 = n }) relation) m.me)))))
children_gave m relation refs st su is =
    let key = read.key_of (λ n. keys.Children (record { 0 = n }) relation) m.me in
    let first = then_gave (look m key st) (λ seen. λ (sv : running.State). then_run (effects_of m sv) (λ es. give (overlay entities_by (children_after m.me relation) es (map Known (ids_in seen))))) refs su is in
    let looked = look_gave m key first.0 st first.1 first.2 in
    let same = gave_parts (overlay entities_by (children_after m.me relation) (m.effects ++ first.1.effects) (map Known (ids_in first.0))) refs first.1 su first.3 in
    sym same.0 ∙ ap (λ (w : running.State). overlay entities_by (children_after m.me relation) (m.effects ++ w.effects) (map Known (ids_in first.0))) same.1 ∙ ap (λ seen. overlay entities_by (children_after m.me relation) (m.effects ++ su.effects) (map Known (ids_in seen))) looked.0

told : (s : State) (relation : List ℕ) (r : Ref) → map Known (ids_in (option_and_then (answers_in s) (read.key_of (λ n. keys.Children (record { 0 = n }) relation) r))) ≡ children_told s r relation
told s relation (Known n) = refl
told s relation (Fresh n) = refl

activities_are : (refs : List Ref) → AllAre (expected.Value k.Activity) (map (λ r. Holds (activity_value r)) refs)
activities_are [] = tt
activities_are (r ∷ refs) = (activity_is r, activities_are refs)

children_are : (block : ℕ) (refs : List Ref) → AllAre (expected.Child block) (map Child refs)
children_are block [] = tt
children_are block (r ∷ refs) = (refl, children_are block refs)

-- A call of a method that a check finds, of a child that lives, with arguments of its types, makes typed effects, and leaves the variables or puts the result behind them.
abbrev pub GoodCalls : State → ℕ → ℕ → ℕ → Setting → List (ℕ × Ref) → typing.Setting → Calling → Type 0
GoodCalls s me own a m path t call =
    (first : List Effect) (block : ℕ) (name : Bytes) (found : MethodAt) (e : Ref) (xs : List Val) (scope : Scope) (st : running.State) → method_in t block name ≡ Some found → AreOf found.method.parameters xs → IsGood s me own a m first path scope st
    → IsChildOf s (m.effects ++ st.effects) (frame me own path).0 (frame me own path).1 block e
    → Does (λ _ su. IsGood s me own a m first path scope su) (call block found.number e xs false st) × ((kind : Kind) (local : Bytes) → found.method.result ≡ Some kind → Does (λ _ su. IsGood s me own a m first path (with_value scope local kind) su) (call block found.number e xs true st))

module _ (s : State) (me own a : ℕ) (sound : IsSound s) (m : Setting) (path : List (ℕ × Ref)) (mine : m.me ≡ (frame me own path).1) (answers : m.answers ≡ answers_in s) (acting : m.arguments.activity.0 ≡ a)
    (t : typing.Setting) (declared : Declares s.deployment (frame me own path).0 t.block) (all_declared : DeclaresAll s.deployment t.codes) (call : Calling) (calls : GoodCalls s me own a m path t call) where
  abbrev pub Good : List Effect → Scope → running.State → Type 0
  Good first scope st = IsGood s me own a m first path scope st

  abbrev pub Leads : List Effect → Option Kind → Scope → Flow → running.State → Type 0
  Leads first result scope flow st = GoesOn s me own a m first path result scope flow st

  abbrev pub DoesStep : Scope → Scope → Step → Type 0
  DoesStep scope behind step = (first : List Effect) (st : running.State) → Good first scope st → Does (Leads first (result_in t.role) behind) (act m call step st)

  abbrev pub GoodStep : Scope → Checked Made → Type 0
  GoodStep scope (Ok made) = DoesStep scope made.scope made.step
  GoodStep scope (Err fault) = Unit {0}

  abbrev pub DoesAll : Scope → Scope → Steps → Type 0
  DoesAll scope behind steps = (first : List Effect) (st : running.State) → Good first scope st → Does (Leads first (result_in t.role) behind) (act_all m call steps st)

  abbrev pub GoodSteps : Scope → Checked MadeAll → Type 0
  GoodSteps scope (Ok made) = DoesAll scope made.scope made.steps
  GoodSteps scope (Err fault) = Unit {0}

  step_then : {A : Type 0} (scope : Scope) (r : Checked A) (g : A → Checked Made) → ((x : A) → r ≡ Ok x → GoodStep scope (g x)) → GoodStep scope (checked.◌>>=◌ r g)
  step_then scope (Ok x) g h = h x refl
  step_then scope (Err fault) g h = tt

  all_then : {A : Type 0} (scope : Scope) (r : Checked A) (g : A → Checked MadeAll) → ((x : A) → r ≡ Ok x → GoodSteps scope (g x)) → GoodSteps scope (checked.◌>>=◌ r g)
  all_then scope (Ok x) g h = h x refl
  all_then scope (Err fault) g h = tt

  abbrev OneStep : List Effect → Scope → Checked Made → Type 0
  OneStep first scope r = one.GoodStep s me own a sound m first path mine call (result_in t.role) t declared all_declared acting scope r

  abbrev OneVerb : List Effect → Scope → Checked Step → Type 0
  OneVerb first scope r = one.GoodVerb s me own a sound m first path mine call (result_in t.role) t declared all_declared acting scope r

  -- a step wherever its run began
  each : (scope : Scope) (r : Checked Made) → ((first : List Effect) → OneStep first scope r) → GoodStep scope r
  each scope (Ok made) h = λ first st good. h first st good
  each scope (Err fault) h = tt

  said : (scope : Scope) (r : Checked Step) → ((first : List Effect) → OneVerb first scope r) → GoodStep scope (checked.◌>>=◌ r (λ step. Ok (record { scope = scope; step = step })))
  said scope (Ok step) h = λ first st good. h first st good
  said scope (Err fault) h = tt

  kept_result : (first : List Effect) (scope behind : Scope) (at block : ℕ) (name : Bytes) (found : MethodAt) (local : Bytes) (e : Ref) (xs : List Val) (st : running.State) (kind : Option Kind) → found.method.result ≡ kind → method_in t block name ≡ Some found → check_result scope kind at (Some local) ≡ Ok behind → AreOf found.method.parameters xs → Good first scope st
      → IsChildOf s (m.effects ++ st.effects) (frame me own path).0 (frame me own path).1 block e → Does (λ _ su. Good first behind su) (call block found.number e xs true st)
  kept_result first scope behind at block name found local e xs st None is names h are good kid = cc
  kept_result first scope behind at block name found local e xs st (Some kind) is names h are good kid =
      let new = bind_ok (check_new scope local at) _ behind h in
      subst (λ z. Does (λ _ su. Good first z su) (call block found.number e xs true st)) (ok_same (with_value scope local kind) behind new.2) ((calls first block name found e xs scope st names are good kid).1 kind local is)

  -- a call, with its result behind the variables where it is kept
  result_does : (first : List Effect) (scope behind : Scope) (at block : ℕ) (name : Bytes) (found : MethodAt) (result : Option Bytes) (e : Ref) (xs : List Val) (st : running.State) → method_in t block name ≡ Some found → check_result scope found.method.result at result ≡ Ok behind → AreOf found.method.parameters xs → Good first scope st
      → IsChildOf s (m.effects ++ st.effects) (frame me own path).0 (frame me own path).1 block e → Does (λ _ su. Good first behind su) (call block found.number e xs (is_some result) st)
  result_does first scope behind at block name found None e xs st names h are good kid = subst (λ z. Does (λ _ su. Good first z su) (call block found.number e xs false st)) (ok_same scope behind h) (calls first block name found e xs scope st names are good kid).0
  result_does first scope behind at block name found (Some local) e xs st names h are good kid = kept_result first scope behind at block name found local e xs st found.method.result refl names h are good kid

  call_good : (scope : Scope) (at : ℕ) (child name : Bytes) (arguments : List Expression) (local : Option Bytes) → GoodStep scope (on_entities_of t scope at (tree.Call child name arguments local))
  call_good scope at child name arguments local = step_then scope (child_named scope child (at + 1)) _ (λ found e. step_then scope (known (at + 3) (method_in t found.block name)) _ (λ called g. step_then scope (arguments_of t scope called.method.parameters (at + 5) arguments) _ (λ terms h.
      step_then scope (tested bad.Count (at + 3) (length arguments == length called.method.parameters)) _ (λ u n. step_then scope (check_result scope called.method.result (at + 7 + tokens_in_arguments arguments) local) _ (λ behind r. step_then scope (not_on_remove t at) _ (λ _ _ first st good.
      one.goes_next s me own a sound m first path mine (result_in t.role) behind (does_call m call (record { child = found.place; block = found.block; method = called.number; arguments = terms; keeps = is_some local })) st
      (one.hush s me own a sound m first path mine scope (λ _ su. Good first behind su) (read.child m found.place) _ st (child_safe m scope child (at + 1) found st e good.sound) (still_child m found.place) good (λ c su is held.
      quiet s me own a sound m first path scope (λ xs. AreOf called.method.parameters xs) (λ _ sv. Good first behind sv) (steps.arguments_of m terms) (λ xs. call found.block called.number c xs (is_some local)) su
      (arguments_safe m t scope called.method.parameters (at + 5) arguments terms su h (eqb-true (length arguments) (length called.method.parameters) (tested_true bad.Count (at + 3) (length arguments == length called.method.parameters) u n)) held.sound)
      (still_arguments m terms).keeps (still_arguments m terms).leaves held (λ xs sv was are kept.
      result_does first scope behind (at + 7 + tokens_in_arguments arguments) found.block name called local c xs sv (known_some (at + 3) (method_in t found.block name) called g) r are kept
      (subst (λ es. IsChildOf s (m.effects ++ es) (frame me own path).0 (frame me own path).1 found.block c) (sym ((still_arguments m terms).keeps.keeps xs su sv was)) (one.kid_read s me own a sound m first path mine scope child (at + 1) found c st su e is good held)))))))))))

  on_entities_good : (scope : Scope) (at : ℕ) (x : OnEntities) → GoodStep scope (on_entities_of t scope at x)
  on_entities_good scope at (tree.Create name child priority) = each scope (on_entities_of t scope at (tree.Create name child priority)) (λ first. one.create_good s me own a sound m first path mine call (result_in t.role) t declared all_declared acting scope at name child priority)
  on_entities_good scope at (tree.Remove child) = each scope (on_entities_of t scope at (tree.Remove child)) (λ first. one.remove_good s me own a sound m first path mine call (result_in t.role) t declared all_declared acting scope at child)
  on_entities_good scope at (tree.Priority child x) = each scope (on_entities_of t scope at (tree.Priority child x)) (λ first. one.priority_good s me own a sound m first path mine call (result_in t.role) t declared all_declared acting scope at child x)
  on_entities_good scope at (tree.Call child name arguments local) = call_good scope at child name arguments local

  on_activities_good : (scope : Scope) (at : ℕ) (x : OnActivities) → GoodStep scope (on_activities_of t scope at x)
  on_activities_good scope at x = each scope (on_activities_of t scope at x) (λ first. one.on_activities_good s me own a sound m first path mine call (result_in t.role) t declared all_declared acting scope at x)

  block_does : (first : List Effect) (scope : Scope) (at : ℕ) (body : Statements) (made : MadeAll) (st : running.State) → statements_made t scope at body ≡ Ok made → GoodSteps scope (statements_made t scope at body) → Good first scope st → Does (Leads first (result_in t.role) scope) (scoped (act_all m call made.steps) st)
  block_does first scope at body made st e h good =
      let grown : Longer scope made.scope = subst (AllGrow scope) e (statements_grow t scope at body) in
      let all : DoesAll scope made.scope made.steps = subst (GoodSteps scope) e h in
      scoped_does s me own a sound m path first (result_in t.role) scope made.scope grown.0 (act_all m call made.steps) st grown.1 good (all first st good)

  nothing_does : (first : List Effect) (scope : Scope) (st : running.State) → Good first scope st → Does (Leads first (result_in t.role) scope) (scoped (act_all m call p.Nothing) st)
  nothing_does first scope st good = scoped_does s me own a sound m path first (result_in t.role) scope scope [] (act_all m call p.Nothing) st (sym (append-nil scope)) good good

  -- what a loop goes over
  abbrev GoesOver : List Effect → expected.Holding → Scope → List Variable → running.State → Type 0
  GoesOver first holds scope xs st = AllAre holds xs × AllKids s me own a sound m path (m.effects ++ st.effects) holds xs × Good first scope st

  loop_does : (first : List Effect) (scope : Scope) (local : expected.Variable) (range : Range) (at : ℕ) (body : Statements) (made : MadeAll) (st : running.State) → Does (GoesOver first local.holds scope) (items m range st) → statements_made t (scope ++ local ∷ []) at body ≡ Ok made → GoodSteps (scope ++ local ∷ []) (statements_made t (scope ++ local ∷ []) at body)
      → Does (Leads first (result_in t.role) scope) (act m call (p.For range made.steps) st)
  loop_does first scope local range at body made st over e h =
      let grown : Longer (scope ++ local ∷ []) made.scope = subst (AllGrow (scope ++ local ∷ [])) e (statements_grow t (scope ++ local ∷ []) at body) in
      let all : DoesAll (scope ++ local ∷ []) made.scope made.steps = subst (GoodSteps (scope ++ local ∷ [])) e h in
      does_then (GoesOver first local.holds scope) (Leads first (result_in t.role) scope) (items m range st) (λ xs. walk xs (act_all m call made.steps)) over (λ xs su r.
      does_all (Leads (m.effects ++ su.effects) (result_in t.role) scope) (Leads first (result_in t.role) scope) (walk xs (act_all m call made.steps) su)
      (walk_does s me own a sound m path (m.effects ++ su.effects) (result_in t.role) scope made.scope grown.0 local xs (act_all m call made.steps) su grown.1 r.0 r.1 (λ sv held. all (m.effects ++ su.effects) sv held) (good_anew s me own a sound m path first scope su r.2))
      (λ flow sv led. leads_back s me own a sound m path first (m.effects ++ su.effects) r.2.left.from.0 (result_in t.role) scope flow sv r.2.left.from.1 led))

  over_activities_does : (first : List Effect) (scope : Scope) (st : running.State) → Good first scope st → Does (GoesOver first (expected.Value k.Activity) scope) (items m range.Activities st)
  over_activities_does first scope st good = one.hush s me own a sound m first path mine scope (GoesOver first (expected.Value k.Activity) scope) (read.activities m) _ st (activities_safe m scope st good.sound) (still_activities m) good (λ refs su _ held. (activities_are refs, no_kids (m.effects ++ su.effects) refs, held))
    where
      no_kids : (es : List Effect) (refs : List Ref) → AllKids s me own a sound m path es (expected.Value k.Activity) (map (λ r. Holds (activity_value r)) refs)
      no_kids es [] = tt
      no_kids es (r ∷ refs) = (tt, no_kids es refs)

  over_children_does : (first : List Effect) (scope : Scope) (relation : Symbol Bytes) (found : RelationCode) (st : running.State) → relation_named relation.name t.block ≡ Some found → Good first scope st → Does (GoesOver first (expected.Child found.block) scope) (items m (range.Children relation) st)
  over_children_does first scope relation found st e good = one.hush s me own a sound m first path mine scope (GoesOver first (expected.Child found.block) scope) (read.children m relation.name) _ st (children_safe m relation.name scope st good.sound) (still_children m relation.name) good (λ refs su is held.
      (children_are found.block refs, all_kids (m.effects ++ su.effects) refs refs (λ c there. there) (gave refs su is), held))
    where
      gave : (refs : List Ref) (su : running.State) → read.children m relation.name st ≡ Gave refs su → refs ≡ ChildrenAfter s (m.effects ++ su.effects) (frame me own path).1 relation.name
      gave refs su is =
          children_gave m relation.name refs st su is
          ∙ ap (λ ask. overlay entities_by (children_after m.me relation.name) (m.effects ++ su.effects) (map Known (ids_in (option_and_then ask (read.key_of (λ n. keys.Children (record { 0 = n }) relation.name) m.me))))) answers
          ∙ ap (overlay entities_by (children_after m.me relation.name) (m.effects ++ su.effects)) (told s relation.name m.me)
          ∙ ap (λ r. ChildrenAfter s (m.effects ++ su.effects) r relation.name) mine

      all_kids : (es : List Effect) (all refs : List Ref) → ((c : Ref) → IsIn c refs → IsIn c all) → all ≡ ChildrenAfter s es (frame me own path).1 relation.name → AllKids s me own a sound m path es (expected.Child found.block) (map Child refs)
      all_kids es all [] there same = tt
      all_kids es all (c ∷ refs) there same = (inl (relation.name, found, declared.relations relation.name ∙ e, refl, subst (λ xs. IsIn c xs) same (there c (inl refl))), all_kids es all refs (λ x here. there x (inr here)) same)

  children_do : (scope : Scope) (name relation : Bytes) (before : ℕ) (loop : Loop) → loop_of t scope name before (over.Children relation) ≡ Ok loop → (at : ℕ) (body : Statements) (inner : MadeAll) → statements_made t loop.scope at body ≡ Ok inner → GoodSteps loop.scope (statements_made t loop.scope at body) → DoesStep scope scope (p.For loop.range inner.steps)
  children_do scope name relation before loop l at body inner e h first st good =
      let found = bind_ok (known before (relation_named relation t.block)) _ loop l in
      let local : expected.Variable = record { name = name; holds = expected.Child found.0.block } in
      let is : (let one : Loop = record { scope = scope ++ local ∷ []; range = range.Children (symbol_of t.codes relation) } in one) ≡ loop = ok_same _ loop found.2 in
      let same : loop.scope ≡ scope ++ local ∷ [] = ap (λ o. o.scope) (sym is) in
      subst (λ z. Does (Leads first (result_in t.role) scope) (act m call (p.For z inner.steps) st)) (ap (λ o. o.range) is)
      (loop_does first scope local (range.Children (symbol_of t.codes relation)) at body inner st (over_children_does first scope (symbol_of t.codes relation) found.0 st (known_some before (relation_named relation t.block) found.0 found.1) good)
      (subst (λ z. statements_made t z at body ≡ Ok inner) same e) (subst (λ z. GoodSteps z (statements_made t z at body)) same h))

  ticked_does : (Q : Flow → running.State → Type 0) (run : Run Flow) (st : running.State) → ((left : ℕ) → Does Q (run (record st { left = left }))) → Does Q (ticked run st)
  ticked_does Q run st h = by st.left
    where
      by : (n : ℕ) → Does Q (then_run (tick_at n st) (λ _. run))
      by zero = tt
      by (suc n) = h n

  good_left : (first : List Effect) (scope : Scope) (st : running.State) (left : ℕ) → Good first scope st → Good first scope (record st { left = left })
  good_left first scope st left good = record { sound = good.sound; left = record { from = good.left.from; typed = good.left.typed; lives = good.left.lives }; kids = good.kids }

  flag_does : (first : List Effect) (scope : Scope) (at : ℕ) (x : Expression) (term : Term) (st : running.State) → asked_of t scope k.Bool at x ≡ Ok term → Good first scope st → Does (λ y su. (is_of k.Bool y ≡ true) × Good first scope su) (eval m term st)
  flag_does first scope at x term st e good = does_given (λ y su. (is_of k.Bool y ≡ true) × Good first scope su) (eval m term st) (one.value s me own a sound m first path mine scope k.Bool (λ y su. (is_of k.Bool y ≡ true) × Good first scope su) term give st (asked_yields m t scope k.Bool at x term e) good (λ y su is held. (is, held)))

  mutual
    pub statement_good : (scope : Scope) (at : ℕ) (x : Statement) → GoodStep scope (statement_made t scope at x)
    statement_good scope at (tree.Assign x) = each scope _ (λ first. one.assigning_good s me own a sound m first path mine call (result_in t.role) t declared all_declared acting scope at x)
    statement_good scope at (tree.Entity x) = on_entities_good scope at x
    statement_good scope at (tree.Activity x) = on_activities_good scope at x
    statement_good scope at (tree.Timer x) = each scope _ (λ first. one.timer_good s me own a sound m first path mine call (result_in t.role) t declared all_declared acting scope at x)
    statement_good scope at (tree.Do verb x) = said scope (verb_of t scope at verb x) (λ first. one.verb_good s me own a sound m first path mine call (result_in t.role) t declared all_declared acting scope at verb x refl)
    statement_good scope at (tree.Usage name x) = each scope _ (λ first. one.usage_good s me own a sound m first path mine call (result_in t.role) t declared all_declared acting scope at name x)
    statement_good scope at tree.Rollback = each scope _ (λ first. one.rollback_good s me own a sound m first path mine call (result_in t.role) t declared all_declared acting scope at)
    statement_good scope at (tree.If x body) = step_then scope (asked_of t scope k.Bool (at + 1) x) _ (λ term e. step_then scope (statements_made t scope (at + 2 + tokens_in x) body) _ (λ inner g first st good.
        does_then (λ y su. (is_of k.Bool y ≡ true) × Good first scope su) (Leads first (result_in t.role) scope) (eval m term st) (λ y. choose y (scoped (act_all m call inner.steps)) (scoped (act_all m call p.Nothing))) (flag_does first scope (at + 1) x term st e good)
        (λ y su r. choose_does (Leads first (result_in t.role) scope) y _ _ su r.0 (block_does first scope (at + 2 + tokens_in x) body inner su g (statements_good scope (at + 2 + tokens_in x) body) r.1) (nothing_does first scope su r.1))))
    statement_good scope at (tree.IfElse x body other) = step_then scope (asked_of t scope k.Bool (at + 1) x) _ (λ term e. step_then scope (statements_made t scope (at + 2 + tokens_in x) body) _ (λ inner g.
        step_then scope (statements_made t scope (at + 5 + tokens_in x + tokens_in_statements body) other) _ (λ second h first st good.
        does_then (λ y su. (is_of k.Bool y ≡ true) × Good first scope su) (Leads first (result_in t.role) scope) (eval m term st) (λ y. choose y (scoped (act_all m call inner.steps)) (scoped (act_all m call second.steps))) (flag_does first scope (at + 1) x term st e good)
        (λ y su r. choose_does (Leads first (result_in t.role) scope) y _ _ su r.0 (block_does first scope (at + 2 + tokens_in x) body inner su g (statements_good scope (at + 2 + tokens_in x) body) r.1)
        (block_does first scope (at + 5 + tokens_in x + tokens_in_statements body) other second su h (statements_good scope (at + 5 + tokens_in x + tokens_in_statements body) other) r.1)))))
    statement_good scope at (tree.While x body) = step_then scope (asked_of t scope k.Bool (at + 1) x) _ (λ term e. step_then scope (statements_made t scope (at + 2 + tokens_in x) body) _ (λ inner g first st good.
        turns_does s me own a sound m path first (result_in t.role) scope (st.left + 1) (eval m term) (scoped (act_all m call inner.steps)) st (λ su held. flag_does first scope (at + 1) x term su e held)
        (λ su held. block_does first scope (at + 2 + tokens_in x) body inner su g (statements_good scope (at + 2 + tokens_in x) body) held) good))
    statement_good scope at (tree.For name over.Activities body) = step_then scope (check_new scope name (at + 1)) _ (λ _ _. step_then scope (statements_made t (with_value scope name k.Activity) (at + 5) body) _ (λ inner g. step_then scope (not_on_remove t at) _ (λ _ _ first st good.
        loop_does first scope (record { name = name; holds = expected.Value k.Activity }) range.Activities (at + 5) body inner st (over_activities_does first scope st good) g (statements_good (with_value scope name k.Activity) (at + 5) body))))
    statement_good scope at (tree.For name (over.Children relation) body) = step_then scope (check_new scope name (at + 1)) _ (λ _ _. step_then scope (loop_of t scope name (at + 3) (over.Children relation)) _ (λ loop l.
        step_then scope (statements_made t loop.scope (at + 5) body) _ (λ inner g. step_then scope (not_on_remove t at) _ (λ _ _.
        children_do scope name relation (at + 3) loop l (at + 5) body inner g (statements_good loop.scope (at + 5) body)))))

    pub statements_good : (scope : Scope) (at : ℕ) (body : Statements) → GoodSteps scope (statements_made t scope at body)
    statements_good scope at tree.Nothing = λ first st good. good
    statements_good scope at (tree.Then x more) = all_then scope (statement_made t scope at x) _ (λ made e. all_then scope (statements_made t made.scope (at + tokens_in_statement x) more) _ (λ others g first st good.
        let step : DoesStep scope made.scope made.step = subst (GoodStep scope) e (statement_good scope at x) in
        let rest : DoesAll made.scope others.scope others.steps = subst (GoodSteps made.scope) g (statements_good made.scope (at + tokens_in_statement x) more) in
        does_then (Leads first (result_in t.role) made.scope) (Leads first (result_in t.role) others.scope) (ticked (act m call made.step) st) (λ flow. followed flow (act_all m call others.steps))
        (ticked_does (Leads first (result_in t.role) made.scope) (act m call made.step) st (λ left. step first (record st { left = left }) (good_left first scope st left good)))
        (λ flow su led. followed_does s me own a sound m path first (result_in t.role) made.scope others.scope flow (act_all m call others.steps) su led (λ held. rest first su held))))
