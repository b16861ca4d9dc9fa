-- Operands side by side run as operators in one another.
use Rattle.std.proofs.Common.{◌≡◌, ◌<◌, ◌+◌, ◌-◌, false, Bool, ℤ, ℕ, zero, suc, List, [], ◌∷◌, length, drop, get_or, Vec, Box, Global, refl, sym, ap, ◌∙◌, subst, arith, drop-cons, add-one}
use Rattle.std.specs.Prelude.{cond}
use Rattle.std.specs.List.{AllByRecursion}
use Rattle.slee_effect.specs.declared.value.Val.{Val}
use Rattle.script_types.specs.declared.term.Joint.{Joint}
use Rattle.script_types.specs.declared.term.Joint.TheVariants as j
use Rattle.script_types.specs.declared.checked_term.Term as t
use Rattle.script_types.specs.declared.checked_term.Term.{Term as TermInMemory}
use Rattle.script_types.specs.Numbers.{IsNumberedTerm}
use Rattle.script_types.specs.Program.{Term, Combine}
use Rattle.script_types.specs.ProgramOf.{term_of, combine_of, combined}
use Rattle.script_types.proofs.ProgramRows.{chain_term}
use Rattle.script_meaning.specs.Running.{Setting, State, Ending, Gave, Broke, Needs, Stays, Run, then_run, give, tick, tick_at}
use Rattle.script_meaning.specs.Values.{apply, decides, int}
use Rattle.script_meaning.specs.Terms.{eval, combine}
use Rattle.script_run_machine.specs.declared.stop.Stop.{Stop}
use Rattle.script_run_machine.specs.declared.stop.Stop.TheVariants as stop
use Rattle.script_run_machine.specs.Agreeing.{Stops}
use Rattle.script_run_machine.specs.Machines.{MachineState, state_of}
use Rattle.script_run_machine.specs.Kinds.{NoInt}
use Rattle.script_run_machine.proofs.NumberLemmas.{right_stays}
use Rattle.script_run_terms.specs.Links.{spend, linked, chained, applied}
use Rattle.script_run_terms.proofs.RunLemmas.{stops_then, then_give, assoc}

module _ (s : Setting) (a : Term) (y : Joint × TermInMemory) (more : List (Joint × TermInMemory)) where
  abbrev inside : Unit {0} → Run Val
  inside u st = then_run (eval s (Combine y.0 a (term_of y.1)) st) (linked s more)

  abbrev behind : Unit {0} → Run Val
  behind u st = then_run (eval s a st) (linked s (y ∷ more))

  inner : (n : ℕ) (st : State) → then_run (then_run (tick_at n st) (λ _ st. then_run (eval s a st) (λ x. combine y.0 x (eval s (term_of y.1))))) (linked s more) ≡ then_run (tick_at n st) behind
  inner zero st = refl
  inner (suc n) st = assoc (eval s a (record st { left = n })) (λ x. combine y.0 x (eval s (term_of y.1))) (linked s more)

  outer : (e : Ending (Unit {0})) → then_run e inside ≡ then_run (then_run e (λ _. tick)) behind
  outer (Gave u st) = inner st.left st
  outer (Broke kind text st) = refl
  outer (Needs key) = refl
  outer Stays = refl

chain_run : (s : Setting) (a : Term) (xs : List (Joint × TermInMemory)) (st : State) → eval s (combined a xs) st ≡ then_run (spend (length xs) st) (λ _ st. then_run (eval s a st) (linked s xs))
chain_run s a [] st = then_give (eval s a st)
chain_run s a (y ∷ more) st = chain_run s (Combine y.0 a (term_of y.1)) more st ∙ outer s a y more (spend (length more) st)

-- what a chain does: the units of its operators behind the first, the first with its operands, and what stands behind
pub chain_eval : (s : Setting) (x : TermInMemory) (a : Box (TermInMemory × Joint × TermInMemory) Global) (v : Vec (Joint × TermInMemory) Global) (st : State) → x ≡ t.Chain a v → eval s (term_of x) st ≡ chained s (combine_of a.value) v.items st
chain_eval s x a v st is = ap (λ x. eval s (term_of x) st) is ∙ ap (λ x. eval s x st) (chain_term a v) ∙ chain_run s (combine_of a.value) v.items st

spend_more : (k i : ℕ) (st : State) (new : MachineState) (e : Stop) → Stops (spend i st) new e → Stops (spend (k + i) st) new e
spend_more zero i st new e h = let z : zero + i ≡ i = omega arith in rw z h
spend_more (suc k) i st new e h = let z : suc k + i ≡ suc (k + i) = omega arith in rw z (stops_then (spend (k + i) st) (λ _. tick) new e (spend_more k i st new e h))

-- where a unit is missing, all of them can't be spent
pub spend_stops : (n i : ℕ) (st st' : State) (new : MachineState) (e : Stop) → i < n → spend i st ≡ Gave tt st' → Stops (tick st') new e → Stops (spend n st) new e
spend_stops n i st st' new e lt h t =
    let one : Stops (spend (suc i) st) new e = subst (λ (x : Ending (Unit {0})). Stops (then_run x (λ _. tick)) new e) (sym h) t in
    let z : (n - suc i) + suc i ≡ n = omega arith in
    subst (λ n. Stops (spend n st) new e) z (spend_more (n - suc i) (suc i) st new e one)

-- what stops an operator stops the whole
pub linked_stops : (s : Setting) (xs : List (Joint × TermInMemory)) (i : ℕ) (y : Joint × TermInMemory) (x : Val) (st : State) (new : MachineState) (e : Stop) (total : Ending Val) → i < length xs → y ≡ get_or xs i y → linked s (drop i xs) x st ≡ total → decides y.0 x ≡ false → Stops (applied y.0 x (eval s (term_of y.1)) st) new e → Stops total new e
linked_stops s xs i y x st new e total lt is so_far undecided stops =
    let go : Bool → Ending Val = λ b. then_run (cond b (give x) (applied y.0 x (eval s (term_of y.1))) st) (linked s (drop (i + 1) xs)) in
    let split : linked s (drop i xs) x st ≡ go (decides y.0 x) = rw (drop-cons xs i y, add-one, ← is) refl in
    subst (λ (t : Ending Val). Stops t new e) (sym (ap go undecided) ∙ sym split ∙ so_far) (stops_then _ (linked s (drop (i + 1) xs)) new e stops)

-- an operand that is joined leaves the rest
pub linked_step : (s : Setting) (xs : List (Joint × TermInMemory)) (i : ℕ) (y : Joint × TermInMemory) (x w : Val) (st new : State) (total : Ending Val) → i < length xs → y ≡ get_or xs i y → linked s (drop i xs) x st ≡ total → decides y.0 x ≡ false → applied y.0 x (eval s (term_of y.1)) st ≡ Gave w new → linked s (drop (i + 1) xs) w new ≡ total
linked_step s xs i y x w st new total lt is so_far undecided run =
    let go : Bool → Ending Val = λ b. then_run (cond b (give x) (applied y.0 x (eval s (term_of y.1))) st) (linked s (drop (i + 1) xs)) in
    let split : linked s (drop i xs) x st ≡ go (decides y.0 x) = rw (drop-cons xs i y, add-one, ← is) refl in
    sym (ap (λ (m : Ending Val). then_run m (linked s (drop (i + 1) xs))) run) ∙ sym (ap go undecided) ∙ sym split ∙ so_far

-- a number alone decides nothing
undecided : (joint : Joint) (n : ℤ) → decides joint (int n) ≡ false
undecided j.Add n = refl
undecided j.Subtract n = refl
undecided j.Multiply n = refl
undecided j.Divide n = refl
undecided j.Remainder n = refl
undecided j.Join n = refl
undecided j.Both n = refl
undecided j.Either n = refl

module _ (s : Setting) (xs : List (Joint × TermInMemory)) (i : ℕ) (y : Joint × TermInMemory) (n : ℤ) (st : State) (total : Ending Val) (lt : i < length xs) (is : y ≡ get_or xs i y) (so_far : linked s (drop i xs) (int n) st ≡ total) where
  pub number_stops : (z : Val) (new : MachineState) (e : Stop) → eval s (term_of y.1) st ≡ Gave z (state_of new) → Stops (apply y.0 (int n) z (state_of new)) new e → Stops total new e
  number_stops z new e given h = linked_stops s xs i y (int n) st new e total lt is so_far (undecided y.0 n) (subst (λ (m : Ending Val). Stops (then_run m (apply y.0 (int n))) new e) (sym given) h)

  pub number_lacks : (z : Val) (new : MachineState) → NoInt z → eval s (term_of y.1) st ≡ Gave z (state_of new) → total ≡ Stays
  number_lacks z new other given = number_stops z new stop.Unchecked given (right_stays y.0 n z (state_of new) other)

  pub number_step : (z w : Val) (mid new : State) → eval s (term_of y.1) st ≡ Gave z mid → apply y.0 (int n) z mid ≡ Gave w new → linked s (drop (i + 1) xs) w new ≡ total
  number_step z w mid new given applied_there = linked_step s xs i y (int n) w st new total lt is so_far (undecided y.0 n) (ap (λ (m : Ending Val). then_run m (apply y.0 (int n))) given ∙ applied_there)

-- the operands of a chain have the numbers of their names
combined_numbered : (names : List (List ℕ)) (x : Term) (xs : List (Joint × TermInMemory)) → IsNumberedTerm names (combined x xs) → IsNumberedTerm names x × AllByRecursion (λ y. IsNumberedTerm names (term_of y.1)) xs
combined_numbered names x [] h = (h, tt)
combined_numbered names x (y ∷ xs) h = let rest = combined_numbered names (Combine y.0 x (term_of y.1)) xs h in (rest.0.0, (rest.0.1, rest.1))

pub chain_numbered : (names : List (List ℕ)) (x : TermInMemory) (a : Box (TermInMemory × Joint × TermInMemory) Global) (v : Vec (Joint × TermInMemory) Global) → x ≡ t.Chain a v → IsNumberedTerm names (term_of x) → IsNumberedTerm names (combine_of a.value) × AllByRecursion (λ y. IsNumberedTerm names (term_of y.1)) v.items
chain_numbered names x a v is h = combined_numbered names (combine_of a.value) v.items (subst (IsNumberedTerm names) (ap term_of is ∙ chain_term a v) h)
