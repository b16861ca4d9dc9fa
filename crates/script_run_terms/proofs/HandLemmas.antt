-- What is at hand takes its units, and gives what stands there.
use Rattle.std.proofs.Common.{◌≡◌, ◌+◌, ℕ, zero, suc, ℤ, pos, List, [], ◌∷◌, length, Option, Some, None, refl, sym, ap, ◌∙◌, arith}
use Rattle.std.specs.Prelude.{slice_get, IfSome}
use Rattle.slee_value.specs.declared.value.Value.{Value}
use Rattle.slee_value.specs.declared.value.Value.TheVariants as v
use Rattle.slee_effect.specs.declared.value.Val.{Val}
use Rattle.slee_effect.specs.declared.value.Val.TheVariants.{Plain, NewActivity, NewTimer}
use Rattle.script_types.specs.declared.term.Atom.TheVariants as a
use Rattle.script_types.specs.declared.term.Joint.{Joint}
use Rattle.script_types.specs.declared.term.Joint.TheVariants as j
use Rattle.script_types.specs.declared.term.Question.TheVariants as q
use Rattle.script_types.specs.declared.term.Test.{Test}
use Rattle.script_types.specs.Program.{Term, Single, Ask, Compare, Combine}
use Rattle.script_meaning.specs.Running.{Setting, State, Variable, Holds, Child, Gave, Run, then_run, found, tick, tick_at, ticked}
use Rattle.script_meaning.specs.Observing.{only_value}
use Rattle.script_meaning.specs.Values.{int, text, apply, compare}
use Rattle.script_meaning.specs.Terms.{eval, node, single, ask, combine}
use Rattle.script_types.specs.declared.checked_term.Term.{Term as TermInMemory}
use Rattle.script_run_machine.specs.Machines.{MachineState, state_of}
use Rattle.script_run_machine.specs.Spending.{with_units, Costs}
use Rattle.script_run_machine.specs.Variables.{number_held, text_held}
use Rattle.script_run_terms.specs.Links.{chained}
use Rattle.script_run_terms.proofs.RunLemmas.{then_give}

number_found : (x : Option Variable) (n : ℤ) (st : State) → number_held x ≡ Some n → then_run (found x st) only_value ≡ Gave (int n) st
number_found None n st h = absurd cc
number_found (Some (Child e)) n st h = absurd cc
number_found (Some (Holds (Plain (v.Int m)))) n st h = ap (λ (x : Option ℤ). then_run (found x st) (λ k. Gave (int k))) h
number_found (Some (Holds (Plain (v.Text t)))) n st h = absurd cc
number_found (Some (Holds (Plain (v.Bool b)))) n st h = absurd cc
number_found (Some (Holds (Plain (v.Activity b)))) n st h = absurd cc
number_found (Some (Holds (Plain (v.Timer b)))) n st h = absurd cc
number_found (Some (Holds (NewActivity m))) n st h = absurd cc
number_found (Some (Holds (NewTimer m))) n st h = absurd cc

text_found : (x : Option Variable) (t : List ℕ) (st : State) → text_held x ≡ Some t → then_run (found x st) only_value ≡ Gave (text t) st
text_found None t st h = absurd cc
text_found (Some (Child e)) t st h = absurd cc
text_found (Some (Holds (Plain (v.Int m)))) t st h = absurd cc
text_found (Some (Holds (Plain (v.Text u)))) t st h = ap (λ (x : Option (List ℕ)). then_run (found x st) (λ k. Gave (text k))) h
text_found (Some (Holds (Plain (v.Bool b)))) t st h = absurd cc
text_found (Some (Holds (Plain (v.Activity b)))) t st h = absurd cc
text_found (Some (Holds (Plain (v.Timer b)))) t st h = absurd cc
text_found (Some (Holds (NewActivity m))) t st h = absurd cc
text_found (Some (Holds (NewTimer m))) t st h = absurd cc

one_unit : (st : State) → with_units 1 st ≡ record st { left = suc st.left }
one_unit st = let z : st.left + 1 ≡ suc st.left = omega arith in ap (λ left. record st { left = left }) z

two_units : (st : State) → with_units 2 st ≡ with_units 1 (with_units 1 st)
two_units st = let z : st.left + 2 ≡ st.left + 1 + 1 = omega arith in ap (λ left. record st { left = left }) z

three_units : (st : State) → with_units 3 st ≡ with_units 1 (with_units 1 (with_units 1 st))
three_units st = let z : st.left + 3 ≡ st.left + 1 + 1 + 1 = omega arith in ap (λ left. record st { left = left }) z

more_units : (units : ℕ) (st : State) → with_units (2 + units) st ≡ with_units 1 (with_units units (with_units 1 st))
more_units units st = let z : st.left + (2 + units) ≡ st.left + 1 + units + 1 = omega arith in ap (λ left. record st { left = left }) z

-- what begins with a unit goes on behind it
behind_unit : {A : Type 0} (m : Run A) (st : State) → ticked m (with_units 1 st) ≡ m st
behind_unit m st = ap (ticked m) (one_unit st)

pub slot_costs : (s : Setting) (vs : List Variable) (i : ℕ) (n : ℤ) → number_held (slice_get vs i) ≡ Some n → Costs 1 vs (eval s (Single (a.Slot i))) (int n)
slot_costs s vs i n h st is = behind_unit (single s (a.Slot i)) st ∙ number_found (slice_get st.variables i) n st (ap (λ vs. number_held (slice_get vs i)) is ∙ h)

pub text_costs : (s : Setting) (vs : List Variable) (i : ℕ) (t : List ℕ) → text_held (slice_get vs i) ≡ Some t → Costs 1 vs (eval s (Single (a.Slot i))) (text t)
text_costs s vs i t h st is = behind_unit (single s (a.Slot i)) st ∙ text_found (slice_get st.variables i) t st (ap (λ vs. text_held (slice_get vs i)) is ∙ h)

pub constant_costs : (s : Setting) (vs : List Variable) (x : Value) → Costs 1 vs (eval s (Single (a.Constant x))) (Plain x)
constant_costs s vs x st is = behind_unit (single s (a.Constant x)) st

pub length_costs : (s : Setting) (vs : List Variable) (i : ℕ) (t : List ℕ) → text_held (slice_get vs i) ≡ Some t → Costs 2 vs (eval s (Ask q.Len (Single (a.Slot i)))) (int (pos (length t)))
length_costs s vs i t h st is =
    ap (eval s (Ask q.Len (Single (a.Slot i)))) (two_units st) ∙ (behind_unit (node s (Ask q.Len (Single (a.Slot i)))) (with_units 1 st) ∙ ap (λ e. then_run e (ask s q.Len)) (text_costs s vs i t h st is))

undecided : (joint : Joint) (m : ℤ) (r : Run Val) (st : State) → combine joint (int m) r st ≡ then_run (r st) (apply joint (int m))
undecided j.Add m r st = refl
undecided j.Subtract m r st = refl
undecided j.Multiply m r st = refl
undecided j.Divide m r st = refl
undecided j.Remainder m r st = refl
undecided j.Join m r st = refl
undecided j.Both m r st = refl
undecided j.Either m r st = refl

calculated_costs : (s : Setting) (vs : List Variable) (joint : Joint) (x y : Term) (m n k : ℤ) → Costs 1 vs (eval s x) (int m) → Costs 1 vs (eval s y) (int n) → ((st : State) → apply joint (int m) (int n) st ≡ Gave (int k) st) → Costs 3 vs (eval s (Combine joint x y)) (int k)
calculated_costs s vs joint x y m n k one other all st is =
    ap (eval s (Combine joint x y)) (three_units st) ∙ (behind_unit (node s (Combine joint x y)) (with_units 1 (with_units 1 st)) ∙ (ap (λ e. then_run e (λ u. combine joint u (eval s y))) (one (with_units 1 st) is) ∙ (undecided joint m (eval s y) (with_units 1 st) ∙ (ap (λ e. then_run e (apply joint (int m))) (other st is) ∙ all st))))

-- what an operator gives between operands at hand, if it is a number
pub calculated_found : (vs : List Variable) (joint : Joint) (x y : Term) (m n : ℤ) → ((s : Setting) → Costs 1 vs (eval s x) (int m)) → ((s : Setting) → Costs 1 vs (eval s y) (int n)) → (k : Option ℤ) → IfSome k (λ k. (st : State) → apply joint (int m) (int n) st ≡ Gave (int k) st) → IfSome k (λ k. (s : Setting) → Costs 3 vs (eval s (Combine joint x y)) (int k))
calculated_found vs joint x y m n one other None all = tt
calculated_found vs joint x y m n one other (Some k) all = λ s. calculated_costs s vs joint x y m n k (one s) (other s) all

pub compared_costs : (s : Setting) (vs : List Variable) (test : Test) (x y : Term) (m n : ℤ) (units : ℕ) (old new : State) → Costs units vs (eval s x) (int m) → Costs 1 vs (eval s y) (int n) → old ≡ with_units (2 + units) new → old.variables ≡ vs → eval s (Compare test x y) old ≡ compare test (int m) (int n) new
compared_costs s vs test x y m n units old new one other spent is =
    let same : new.variables ≡ vs = sym (ap (λ st. st.variables) spent) ∙ is in
    ap (eval s (Compare test x y)) (spent ∙ more_units units new) ∙ (behind_unit (node s (Compare test x y)) (with_units units (with_units 1 new)) ∙ (ap (λ e. then_run e (λ u st. then_run (eval s y st) (compare test u))) (one (with_units 1 new) same) ∙ ap (λ e. then_run e (compare test (int m))) (other new same)))

gave_same : {A : Type 0} {x y : A} {st st' : State} → Gave x st ≡ Gave y st' → st ≡ st'
gave_same h = cc

tick_at_apart : (n : ℕ) (st st' : State) → tick_at n (record st { left = n }) ≡ Gave tt st' → record st { left = n } ≡ with_units 1 st'
tick_at_apart zero st st' h = absurd cc
tick_at_apart (suc n) st st' h = ap (λ (x : State). record x { left = suc x.left }) (gave_same h) ∙ sym (one_unit st')

-- the state before a unit that was spent
pub tick_apart : (st st' : State) → tick st ≡ Gave tt st' → st ≡ with_units 1 st'
tick_apart st st' h = tick_at_apart st.left st st' h

-- what is at hand is given behind its units
pub given_behind : (run : Run Val) (units : ℕ) (x : Val) (old new : MachineState) → Costs units old.variables run x → state_of old ≡ with_units units (state_of new) → run (state_of old) ≡ Gave x (state_of new)
given_behind run units x old new costs is = ap run is ∙ costs (state_of new) (sym (ap (λ st. st.variables) is))

-- a chain of one operator
pub chained_alone : (s : Setting) (x : Term) (more : List (Joint × TermInMemory)) (st : State) → length more ≡ 0 → chained s x more st ≡ eval s x st
chained_alone s x [] st is = sym (then_give (eval s x st))
chained_alone s x (y ∷ more) st is = absurd cc
