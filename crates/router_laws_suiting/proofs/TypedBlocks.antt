-- Blocks and loops of runs whose effects are typed.
use Rattle.std.proofs.Common.{◌≡◌, ◌+◌, true, false, Bool, ℕ, zero, suc, List, [], ◌∷◌, ◌++◌, length, take, Option, sym, ◌∙◌, ap, subst}
use Rattle.slee_value.specs.declared.kind.Kind.{Kind}
use Rattle.slee_value.specs.declared.kind.Kind.TheVariants as k
use Rattle.slee_value.specs.declared.value.Value.TheVariants as v
use Rattle.slee_effect.specs.declared.effect.Effect.{Effect}
use Rattle.slee_effect.specs.declared.reference.Ref.{Ref}
use Rattle.slee_effect.specs.declared.value.Val.{Val}
use Rattle.slee_effect.specs.declared.value.Val.TheVariants.{Plain}
use Rattle.script_types.specs.Scopes.{Holding, Scope}
use Rattle.script_types.specs.Scopes as expected
use Rattle.script_meaning.specs.Answers.{is_of}
use Rattle.script_meaning.specs.Running.{Broke, Ending, Gave, Needs, Run, Setting, Stays, Variable, declare, give, scoped, then_run}
use Rattle.script_meaning.specs.Running as running
use Rattle.script_meaning.specs.Steps.{Flow, Next, Returned, choose, either, followed, turns, walk}
use Rattle.script_laws.proofs.SafeBlocks.{AllAre}
use Rattle.script_laws.proofs.SafeDoing.{fits_before, fits_length}
use Rattle.script_laws.specs.Fitting.{Fits}
use Rattle.router_laws.proofs.ListRules.{append_joins, append_nil}
use Rattle.router_laws_suiting.proofs.Walking.{declare_does, kids_before, kids_behind_all}
use Rattle.router_laws_suiting.specs.Typed.{frame}
use Rattle.router_laws_suiting.specs.Walks.{Does, GoesOn, IsGood, IsLeft, KidIs, KidsAre}
use Rattle.router_state.specs.State.{State}
use Rattle.router_state.specs.Well.{IsSound}

-- what is so of all that a part gives
pub does_all : {A : Type 0} (P Q : A → running.State → Type 0) (r : Ending A) → Does P r → ((x : A) (st : running.State) → P x st → Does Q (Gave x st)) → Does Q r
does_all P Q (Gave x st) h go = go x st h
does_all P Q (Broke kind text st) h go = tt
does_all P Q (Needs key) h go = tt
does_all P Q Stays h go = tt

-- one part behind another
pub does_then : {A B : Type 0} (P : A → running.State → Type 0) (Q : B → running.State → Type 0) (r : Ending A) (g : A → Run B) → Does P r → ((x : A) (st : running.State) → P x st → Does Q (g x st)) → Does Q (then_run r g)
does_then P Q (Gave x st) g h go = go x st h
does_then P Q (Broke kind text st) g h go = tt
does_then P Q (Needs key) g h go = tt
does_then P Q Stays g h go = tt

-- what is so of a part that only hands on
pub does_given : {A : Type 0} (P : A → running.State → Type 0) (r : Ending A) → Does P (then_run r give) → Does P r
does_given P (Gave x st) h = h
does_given P (Broke kind text st) h = tt
does_given P (Needs key) h = tt
does_given P Stays h = tt

either_does : (Q : Flow → running.State → Type 0) (b : Bool) (one other : Run Flow) (st : running.State) → Does Q (one st) → Does Q (other st) → Does Q (either b one other st)
either_does Q true one other st g h = g
either_does Q false one other st g h = h

pub choose_does : (Q : Flow → running.State → Type 0) (x : Val) (one other : Run Flow) (st : running.State) → is_of k.Bool x ≡ true → Does Q (one st) → Does Q (other st) → Does Q (choose x one other st)
choose_does Q (Plain (v.Bool b)) one other st is g h = either_does Q b one other st g h
choose_does Q _ one other st is g h = cc

module _ (s : State) (me own a : ℕ) (sound : IsSound s) (m : Setting) (path : List (ℕ × Ref)) where
  abbrev pub Good : List Effect → Scope → running.State → Type 0
  Good first scope st = IsGood s me own a m first path scope st

  abbrev pub Leads : List Effect → Option Kind → Scope → Flow → running.State → Type 0
  Leads first result scope flow st = GoesOn s me own a m first path result scope flow st

  -- a part of a run as a run of its own, and back

  pub left_anew : (first : List Effect) (st : running.State) → IsLeft s me own a m first path st → IsLeft s me own a m (m.effects ++ st.effects) path st
  left_anew first st left = record { from = ([], sym (append_nil (m.effects ++ st.effects))); typed = left.typed; lives = left.lives }

  pub good_anew : (first : List Effect) (scope : Scope) (st : running.State) → Good first scope st → Good (m.effects ++ st.effects) scope st
  good_anew first scope st good = record { sound = good.sound; left = left_anew first st good.left; kids = good.kids }

  pub left_back : (first middle more : List Effect) (st : running.State) → middle ≡ first ++ more → IsLeft s me own a m middle path st → IsLeft s me own a m first path st
  left_back first middle more st same left = record {
    from = (more ++ left.from.0, left.from.1 ∙ ap (λ es. es ++ left.from.0) same ∙ append_joins first more left.from.0);
    typed = left.typed;
    lives = left.lives;
  }

  pub good_back : (first middle more : List Effect) (scope : Scope) (st : running.State) → middle ≡ first ++ more → Good middle scope st → Good first scope st
  good_back first middle more scope st same good = record { sound = good.sound; left = left_back first middle more st same good.left; kids = good.kids }

  pub leads_back : (first middle more : List Effect) (result : Option Kind) (scope : Scope) (flow : Flow) (st : running.State) → middle ≡ first ++ more → Leads middle result scope flow st → Leads first result scope flow st
  leads_back first middle more result scope Next st same h = good_back first middle more scope st same h
  leads_back first middle more result scope (Returned x) st same h = (h.0, h.1, left_back first middle more st same h.2)

  pub followed_does : (first : List Effect) (result : Option Kind) (before behind : Scope) (flow : Flow) (run : Run Flow) (st : running.State) → Leads first result before flow st → (Good first before st → Does (Leads first result behind) (run st)) → Does (Leads first result behind) (followed flow run st)
  followed_does first result before behind Next run st h go = go h
  followed_does first result before behind (Returned x) run st h go = h

  pub turns_does : (first : List Effect) (result : Option Kind) (scope : Scope) (n : ℕ) (test : Run Val) (body : Run Flow) (st : running.State)
      → ((su : running.State) → Good first scope su → Does (λ x sv. (is_of k.Bool x ≡ true) × Good first scope sv) (test su)) → ((su : running.State) → Good first scope su → Does (Leads first result scope) (body su)) → Good first scope st → Does (Leads first result scope) (turns n test body st)
  turns_does first result scope zero test body st tests goes good = tt
  turns_does first result scope (suc n) test body st tests goes good =
      let rest : Flow → Run Flow = λ flow. followed flow (turns n test body) in
      let go : Run Flow = λ st. then_run (body st) rest in
      does_then (λ x su. (is_of k.Bool x ≡ true) × Good first scope su) (Leads first result scope) (test st) (λ x. choose x go (give Next)) (tests st good)
      (λ x su held. choose_does (Leads first result scope) x go (give Next) su held.0
      (does_then (Leads first result scope) (Leads first result scope) (body su) rest (goes su held.1) (λ flow sv h. followed_does first result scope scope flow (turns n test body) sv h (λ kept. turns_does first result scope n test body sv tests goes kept))) held.1)

  -- behind a block the variables before it are as they were
  cut : (first : List Effect) (result : Option Kind) (scope more : Scope) (flow : Flow) (st new : running.State) → length st.variables ≡ length scope → Leads first result (scope ++ more) flow new → Leads first result scope flow (record new { variables = take (length st.variables) new.variables })
  cut first result scope more (Returned x) st new same h = (h.0, h.1, record { from = h.2.from; typed = h.2.typed; lives = h.2.lives })
  cut first result scope more Next st new same h = record {
    sound = (subst (λ n. Fits scope (take n new.variables)) (sym same) (fits_before scope more new.variables h.sound.0), h.sound.1);
    left = record { from = h.left.from; typed = h.left.typed; lives = h.left.lives };
    kids = subst (λ n. KidsAre s (m.effects ++ new.effects) (frame me own path) scope (take n new.variables)) (sym same) (kids_before s me own a sound (m.effects ++ new.effects) (frame me own path) scope more new.variables h.kids);
  }

  pub scoped_does : (first : List Effect) (result : Option Kind) (scope inner more : Scope) (run : Run Flow) (st : running.State) → inner ≡ scope ++ more → Good first scope st → Does (Leads first result inner) (run st) → Does (Leads first result scope) (scoped run st)
  scoped_does first result scope inner more run st same good h =
      does_then (Leads first result inner) (Leads first result scope) (run st) (λ flow new. Gave flow (record new { variables = take (length st.variables) new.variables })) h
      (λ flow new led. cut first result scope more flow st new (fits_length scope st.variables good.sound.0) (subst (λ z. Leads first result z flow new) same led))

  -- each of them is a child that lives or was removed, where children are expected
  abbrev pub AllKids : List Effect → Holding → List Variable → Type 0
  AllKids es holds [] = Unit {0}
  AllKids es holds (x ∷ xs) = KidIs s es (frame me own path) holds x × AllKids es holds xs

  -- a loop over what was there when it began
  pub walk_does : (first : List Effect) (result : Option Kind) (scope inner more : Scope) (local : expected.Variable) (xs : List Variable) (body : Run Flow) (st : running.State) → inner ≡ (scope ++ local ∷ []) ++ more → AllAre local.holds xs → AllKids first local.holds xs
      → ((su : running.State) → Good first (scope ++ local ∷ []) su → Does (Leads first result inner) (body su)) → Good first scope st → Does (Leads first result scope) (walk xs body st)
  walk_does first result scope inner more local [] body st same are kids goes good = good
  walk_does first result scope inner more local (x ∷ xs) body st same are kids goes good =
      let turn : Run Flow = λ st. then_run (declare x st) (λ _. body) in
      does_then (Leads first result scope) (Leads first result scope) (scoped turn st) (λ flow. followed flow (walk xs body))
      (scoped_does first result scope inner ((local ∷ []) ++ more) turn st (same ∙ append_joins scope (local ∷ []) more) good
      (does_then (λ _ su. Good first (scope ++ local ∷ []) su) (Leads first result inner) (declare x st) (λ _. body) (declare_does s me own a sound m first path scope local x st are.0 (kid_now local.holds x kids.0) good) (λ _ su held. goes su held)))
      (λ flow su h. followed_does first result scope scope flow (walk xs body) su h (λ held. walk_does first result scope inner more local xs body su same are.1 kids.1 goes held))
    where
      kid_behind : (es new : List Effect) (holds : Holding) (x : Variable) → KidIs s es (frame me own path) holds x → KidIs s (es ++ new) (frame me own path) holds x
      kid_behind es new holds x kid = (kids_behind_all s me own a sound es new (frame me own path) (record { name = []; holds = holds } ∷ []) (x ∷ []) (kid, tt)).0

      kid_now : (holds : Holding) (x : Variable) → KidIs s first (frame me own path) holds x → KidIs s (m.effects ++ st.effects) (frame me own path) holds x
      kid_now holds x kid = subst (λ es. KidIs s es (frame me own path) holds x) (sym good.left.from.1) (kid_behind first good.left.from.0 holds x kid)
