-- Parts of runs whose effects are typed: what makes no effect, one effect, new variables, and children that are read.
use Rattle.std.proofs.Common.{◌≡◌, ℕ, zero, suc, ◌+◌, true, false, not, List, [], ◌∷◌, ◌++◌, length, Option, Some, None, Ok, refl, sym, ◌∙◌, ap, subst, inl, inr}
use Rattle.std.specs.Prelude.{nat_le, nat_lt, slice_get, take}
use Rattle.std.proofs.lemmas.Bool.{cases_Bool, false≢true, not-true}
use Rattle.slee_effect.specs.declared.effect.Effect.{Effect}
use Rattle.slee_effect.specs.declared.reference.Ref.{Ref}
use Rattle.script_laws.proofs.SafeDoing.{declare_safe, effect_safe}
use Rattle.script_laws.proofs.SafePlaces.{child_place}
use Rattle.script_laws.specs.Fitting.{Fits, Keeps as Fitting, Safe, Sound, is_as_expected}
use Rattle.script_meaning.specs.Observing as read
use Rattle.script_meaning.specs.Overlay.{is_removed}
use Rattle.script_meaning.specs.Running.{Broke, Child, Ending, Gave, Holds, Needs, Run, Setting, Stays, Variable, bytes_of, declare, effect, effect_bytes_limit, effect_limit, effects_of, give, tested, then_run, variable}
use Rattle.script_meaning.specs.Running as running
use Rattle.script_meaning.specs.declared.outcome.FailKind.TheVariants as failures
use Rattle.script_tree.specs.Tree.{Bytes}
use Rattle.script_types.specs.Elaboration.{ChildAt, child_named}
use Rattle.script_types.specs.Scopes.{Holding, Scope}
use Rattle.script_types.specs.Scopes as expected
use Rattle.router_laws.proofs.ListRules.{append_joins, append_nil}
use Rattle.router_laws_effects.proofs.GuardLemmas.{gave_parts, tested_gave, then_gave}
use Rattle.router_laws_effects.proofs.TermsKeep.{Keeps, no_break, no_stay}
use Rattle.router_laws_suiting.proofs.Staying.{kid_stays, path_stays}
use Rattle.router_laws_suiting.proofs.VariablesKeep.{Leaves}
use Rattle.router_laws_suiting.specs.Typed.{AllTyped, IsChildOf, IsKid, IsTyped, PathLives, RemovesBehind, frame}
use Rattle.router_laws_suiting.specs.Walks.{Does, IsGood, IsLeft, KidIs, KidsAre}
use Rattle.router_state.specs.State.{State}
use Rattle.router_state.specs.Well.{IsSound}

-- what an effect leaves, where it is made
pub effect_gave : (x : Effect) (y : Unit {0}) (st su : running.State) → effect x st ≡ Gave y su → su ≡ record st { effects = st.effects ++ x ∷ [] }
unfolding effect
effect_gave x y st su is = elim (cases_Bool (nat_lt (length st.effects) effect_limit)) [
  | inl few ↦ elim (cases_Bool (nat_le (bytes_of (st.effects ++ x ∷ [])) effect_bytes_limit)) [
    | inl short ↦ sym (gave_parts tt y (record st { effects = st.effects ++ x ∷ [] }) su (rw (few, short) at is)).1
    | inr long ↦ absurd (no_break (rw (few, long) at is))
  ]
  | inr many ↦ absurd (no_break (rw many at is))
]

typed_last : (s : State) (me own a : ℕ) (before es : List Effect) (x : Effect) → AllTyped s me own a before es → IsTyped s me own a (before ++ es) x → AllTyped s me own a before (es ++ x ∷ [])
typed_last s me own a before [] x typed one = (subst (λ b. IsTyped s me own a b x) (append_nil before) one, tt)
typed_last s me own a before (y ∷ es) x typed one = (typed.0, typed_last s me own a (before ++ y ∷ []) es x typed.1 (subst (λ b. IsTyped s me own a b x) (sym (append_joins before (y ∷ []) es)) one))

module _ (s : State) (me own a : ℕ) (sound : IsSound s) where
  kid_later : (es : List Effect) (x : Effect) (top : ℕ × Ref) (holds : Holding) (y : Variable) → KidIs s es top holds y → KidIs s (es ++ x ∷ []) top holds y
  kid_later es x top (expected.Child block) (Child e) kid = kid_stays s me own a sound es x top.0 top.1 block e kid
  kid_later es x top (expected.Child block) (Holds y) kid = tt
  kid_later es x top (expected.Value kind) y kid = tt

  pub kids_later : (es : List Effect) (x : Effect) (top : ℕ × Ref) (scope : Scope) (variables : List Variable) → KidsAre s es top scope variables → KidsAre s (es ++ x ∷ []) top scope variables
  kids_later es x top [] variables kids = tt
  kids_later es x top (local ∷ scope) [] kids = tt
  kids_later es x top (local ∷ scope) (y ∷ variables) kids = (kid_later es x top local.holds y kids.0, kids_later es x top scope variables kids.1)

  -- so it is behind more effects
  pub kids_behind_all : (es new : List Effect) (top : ℕ × Ref) (scope : Scope) (variables : List Variable) → KidsAre s es top scope variables → KidsAre s (es ++ new) top scope variables
  kids_behind_all es [] top scope variables kids = subst (λ b. KidsAre s b top scope variables) (sym (append_nil es)) kids
  kids_behind_all es (x ∷ new) top scope variables kids =
      subst (λ b. KidsAre s b top scope variables) (append_joins es (x ∷ []) new) (kids_behind_all (es ++ x ∷ []) new top scope variables (kids_later es x top scope variables kids))

  -- with one variable more
  pub kids_more : (es : List Effect) (top : ℕ × Ref) (scope : Scope) (variables : List Variable) (local : expected.Variable) (y : Variable) → Fits scope variables → KidsAre s es top scope variables → KidIs s es top local.holds y → KidsAre s es top (scope ++ local ∷ []) (variables ++ y ∷ [])
  kids_more es top [] [] local y fits kids one = (one, tt)
  kids_more es top [] (x ∷ variables) local y fits kids one = absurd fits
  kids_more es top (l ∷ scope) [] local y fits kids one = absurd fits
  kids_more es top (l ∷ scope) (x ∷ variables) local y fits kids one = (kids.0, kids_more es top scope variables local y fits.1 kids.1 one)

  -- with fewer
  pub kids_before : (es : List Effect) (top : ℕ × Ref) (scope more : Scope) (variables : List Variable) → KidsAre s es top (scope ++ more) variables → KidsAre s es top scope (take (length scope) variables)
  kids_before es top [] more variables kids = tt
  kids_before es top (l ∷ scope) more [] kids = tt
  kids_before es top (l ∷ scope) more (x ∷ variables) kids = (kids.0, kids_before es top scope more variables kids.1)

  pub kid_at : (es : List Effect) (top : ℕ × Ref) (scope : Scope) (variables : List Variable) (i : ℕ) (local : expected.Variable) (y : Variable) → KidsAre s es top scope variables → slice_get scope i ≡ Some local → slice_get variables i ≡ Some y → KidIs s es top local.holds y
  kid_at es top [] variables i local y kids is there = absurd (cc)
  kid_at es top (l ∷ scope) [] i local y kids is there = absurd (cc)
  kid_at es top (l ∷ scope) (x ∷ variables) zero local y kids is there = subst (λ (k : expected.Variable). KidIs s es top k.holds y) (same_local l local is) (subst (λ z. KidIs s es top l.holds z) (same_variable x y there) kids.0)
    where
      same_local : (l k : expected.Variable) → Some l ≡ Some k → l ≡ k
      same_local l k is = cc

      same_variable : (x y : Variable) → Some x ≡ Some y → x ≡ y
      same_variable x y is = cc
  kid_at es top (l ∷ scope) (x ∷ variables) (suc i) local y kids is there = kid_at es top scope variables i local y kids.1 is there

  module _ (m : Setting) (first : List Effect) (path : List (ℕ × Ref)) where
    abbrev pub Good : Scope → running.State → Type 0
    Good scope st = IsGood s me own a m first path scope st

    left_same : (st su : running.State) → su.effects ≡ st.effects → IsLeft s me own a m first path st → IsLeft s me own a m first path su
    left_same st su same left = record {
      from = (left.from.0, ap (λ es. m.effects ++ es) same ∙ left.from.1);
      typed = subst (λ es. AllTyped s me own a [] (m.effects ++ es)) (sym same) left.typed;
      lives = subst (λ es. PathLives s me own (m.effects ++ es) path) (sym same) left.lives;
    }

    -- a part that makes no effect and leaves the variables
    pub good_same : (scope : Scope) (st su : running.State) → Sound m scope su → su.effects ≡ st.effects → su.variables ≡ st.variables → Good scope st → Good scope su
    good_same scope st su fits same left good = record {
      sound = fits;
      left = left_same st su same good.left;
      kids = subst (λ es. KidsAre s (m.effects ++ es) (frame me own path) scope su.variables) (sym same) (subst (λ xs. KidsAre s (m.effects ++ st.effects) (frame me own path) scope xs) (sym left) good.kids);
    }

    pub quiet : {A B : Type 0} (scope : Scope) (K : A → Type 0) (Q : B → running.State → Type 0) (run : Run A) (g : A → Run B) (st : running.State) → Safe m (λ x su. K x × Sound m scope su) (run st) → Keeps run → Leaves run → Good scope st
        → ((x : A) (su : running.State) → run st ≡ Gave x su → K x → Good scope su → Does Q (g x su)) → Does Q (then_run (run st) g)
    quiet {A} {B} scope K Q run g st safe keeps leaves good go = by (run st) refl safe
      where
        by : (r : Ending A) → run st ≡ r → Safe m (λ x su. K x × Sound m scope su) r → Does Q (then_run r g)
        by (Gave x su) is safe = go x su is safe.0 (good_same scope st su safe.1 (keeps.keeps x st su is) (leaves.leaves x st su is) good)
        by (Broke kind text su) is safe = tt
        by (Needs key) is safe = tt
        by Stays is safe = tt

    good_grown : (scope : Scope) (x : Effect) (st : running.State) → IsTyped s me own a (m.effects ++ st.effects) x → RemovesBehind (frame me own path).1 x → Sound m scope (record st { effects = st.effects ++ x ∷ [] }) → Good scope st → Good scope (record st { effects = st.effects ++ x ∷ [] })
    good_grown scope x st typed behind fits good =
        let es = m.effects ++ st.effects in
        let joined : m.effects ++ (st.effects ++ x ∷ []) ≡ es ++ x ∷ [] = sym (append_joins m.effects st.effects (x ∷ [])) in
        record {
          sound = fits;
          left = record {
            from = (good.left.from.0 ++ x ∷ [], joined ∙ ap (λ more. more ++ x ∷ []) good.left.from.1 ∙ append_joins first good.left.from.0 (x ∷ []));
            typed = subst (λ more. AllTyped s me own a [] more) (sym joined) (typed_last s me own a [] es x good.left.typed typed);
            lives = subst (λ more. PathLives s me own more path) (sym joined) (path_stays s me own a sound es x path good.left.typed good.left.lives behind);
          };
          kids = subst (λ more. KidsAre s more (frame me own path) scope st.variables) (sym joined) (kids_later es x (frame me own path) scope st.variables good.kids);
        }

    -- a typed effect
    pub effect_does : (scope : Scope) (x : Effect) (st : running.State) → IsTyped s me own a (m.effects ++ st.effects) x → RemovesBehind (frame me own path).1 x → Good scope st → Does (λ _ su. Good scope su) (effect x st)
    effect_does scope x st typed behind good = by (effect x st) refl (effect_safe m x scope st good.sound)
      where
        by : (r : Ending (Unit {0})) → effect x st ≡ r → Safe m (Fitting m scope) r → Does (λ _ su. Good scope su) r
        by (Gave y su) is safe =
            let same = effect_gave x y st su is in
            subst (λ (w : running.State). Good scope w) (sym same) (good_grown scope x st typed behind (subst (λ (w : running.State). Sound m scope w) same safe) good)
        by (Broke kind text su) is safe = tt
        by (Needs key) is safe = tt
        by Stays is safe = tt

    -- a new variable
    pub declare_does : (scope : Scope) (local : expected.Variable) (y : Variable) (st : running.State) → is_as_expected local.holds y ≡ true → KidIs s (m.effects ++ st.effects) (frame me own path) local.holds y → Good scope st → Does (λ _ su. Good (scope ++ local ∷ []) su) (declare y st)
    declare_does scope local y st fits kid good = record {
      sound = declare_safe m scope local y st fits good.sound;
      left = left_same st (record st { variables = st.variables ++ y ∷ [] }) refl good.left;
      kids = kids_more (m.effects ++ st.effects) (frame me own path) scope st.variables local y good.sound.0 good.kids one;
    }
      where
        one : KidIs s (m.effects ++ st.effects) (frame me own path) local.holds y
        one = kid

    -- the child that a variable stands for, which wasn't removed
    pub child_read : (scope : Scope) (name : Bytes) (at : ℕ) (x : ChildAt) (e : Ref) (st su : running.State) → child_named scope name at ≡ Ok x → read.child m x.place st ≡ Gave e su → Good scope st → IsChildOf s (m.effects ++ st.effects) (frame me own path).0 (frame me own path).1 x.block e
    child_read scope name at x e st su named is good =
        let place = child_place scope name at x named in
        let one = then_gave (variable x.place st) (λ y. Rattle.script_meaning.specs.Running.◌>>=◌ (read.only_child y) (λ e. Rattle.script_meaning.specs.Running.◌>>=◌ (effects_of m) (λ effects. Rattle.script_meaning.specs.Running.◌>>=◌ (tested failures.Gone (not (is_removed e effects))) (λ _. give e)))) e su is in
        let var = found_gave (slice_get st.variables x.place) one.0 st one.1 one.2 in
        let two = then_gave (read.only_child one.0 one.1) (λ e. Rattle.script_meaning.specs.Running.◌>>=◌ (effects_of m) (λ effects. Rattle.script_meaning.specs.Running.◌>>=◌ (tested failures.Gone (not (is_removed e effects))) (λ _. give e))) e su one.3 in
        let own_child = child_gave one.0 two.0 one.1 two.1 two.2 in
        let three = then_gave (tested failures.Gone (not (is_removed two.0 (m.effects ++ two.1.effects))) two.1) (λ _. give two.0) e su two.3 in
        let test = tested_gave failures.Gone (not (is_removed two.0 (m.effects ++ two.1.effects))) three.0 two.1 three.1 three.2 in
        let same = gave_parts two.0 e three.1 su three.3 in
        let still : two.1 ≡ st = own_child.1 ∙ var.1 in
        let alive : is_removed e (m.effects ++ st.effects) ≡ false = ap (λ r. is_removed r (m.effects ++ st.effects)) (sym same.0) ∙ ap (λ (w : running.State). is_removed two.0 (m.effects ++ w.effects)) (sym still) ∙ not-true (is_removed two.0 (m.effects ++ two.1.effects)) test.0 in
        let kid = kid_at (m.effects ++ st.effects) (frame me own path) scope st.variables x.place place.0 one.0 good.kids place.1 var.0 in
        only alive (subst (λ r. IsKid s (m.effects ++ st.effects) (frame me own path).0 (frame me own path).1 x.block r) same.0 (subst (λ y. KidIs s (m.effects ++ st.effects) (frame me own path) (expected.Child x.block) y) own_child.0 (subst (λ h. KidIs s (m.effects ++ st.effects) (frame me own path) h one.0) place.2 kid)))
      where
        found_gave : {A : Type 0} (o : Option A) (y : A) (st su : running.State) → running.found o st ≡ Gave y su → (o ≡ Some y) × (su ≡ st)
        found_gave None y st su is = absurd (no_stay is)
        found_gave (Some z) y st su is = let same = gave_parts z y st su is in (ap Some same.0, sym same.1)

        child_gave : (y : Variable) (e : Ref) (st su : running.State) → read.only_child y st ≡ Gave e su → (y ≡ Child e) × (su ≡ st)
        child_gave (Child z) e st su is = let same = gave_parts z e st su is in (ap Child same.0, sym same.1)
        child_gave (Holds z) e st su is = absurd (no_stay is)

        only : is_removed e (m.effects ++ st.effects) ≡ false → IsKid s (m.effects ++ st.effects) (frame me own path).0 (frame me own path).1 x.block e → IsChildOf s (m.effects ++ st.effects) (frame me own path).0 (frame me own path).1 x.block e
        only alive (inl kid) = kid
        only alive (inr gone) = absurd (false≢true (sym alive ∙ gone))
