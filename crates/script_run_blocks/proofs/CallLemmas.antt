-- Calls of methods, with their arguments as the method's first variables.
use Rattle.std.proofs.Common.{◌≡◌, ◌<◌, ◌+◌, ℕ, List, [], ◌∷◌, ◌++◌, map, length, drop, get_or, refl, sym, ap, ◌∙◌, subst, append_assoc, drop-cons, add-one}
use Rattle.slee_effect.specs.declared.value.Val.{Val}
use Rattle.script_types.specs.declared.checked_term.Term.{Term as TermInMemory}
use Rattle.script_types.specs.ProgramOf.{term_of}
use Rattle.script_meaning.specs.Running.{Setting, State, Ending, Gave, Broke, Needs, Stays, Run, Variable, Holds, then_run, give}
use Rattle.script_meaning.specs.Terms.{eval}
use Rattle.script_meaning.specs.Steps.{arguments_of}
use Rattle.script_run_machine.specs.declared.stop.Stop.{Stop}
use Rattle.script_run_machine.specs.Agreeing.{Stops}
use Rattle.script_run_machine.specs.Machines.{MachineState}
use Rattle.script_run_terms.proofs.RunLemmas.{stops_then}
use Rattle.script_run_blocks.specs.Loops.{behind_others}

module _ (s : Setting) (terms : List TermInMemory) (i : ℕ) (t : TermInMemory) (variables : List Variable) where
  abbrev others : Run (List Val)
  others = arguments_of s (map term_of (drop (i + 1) terms))

  abbrev in_front : Val → Run (List Val)
  in_front x st = then_run (others st) (λ xs. give (x ∷ xs))

  abbrev held : List Val → Run (List Variable)
  held xs = give (variables ++ map Holds xs)

  arguments_next : (st : State) → i < length terms → t ≡ get_or terms i t → behind_others variables (arguments_of s (map term_of (drop i terms))) st ≡ then_run (then_run (eval s (term_of t) st) in_front) held
  arguments_next st lt is =
      let go : List TermInMemory → Ending (List Variable) = λ xs. behind_others variables (arguments_of s (map term_of xs)) st in
      let split : drop i terms ≡ t ∷ drop (i + 1) terms = rw (drop-cons terms i t, add-one, ← is) refl in
      ap go split

  -- what stops an argument stops all
  pub arguments_stop : (st : State) (new : MachineState) (e : Stop) (total : Ending (List Variable)) → i < length terms → t ≡ get_or terms i t → behind_others variables (arguments_of s (map term_of (drop i terms))) st ≡ total → Stops (eval s (term_of t) st) new e → Stops total new e
  arguments_stop st new e total lt is so_far h =
      subst (λ (m : Ending (List Variable)). Stops m new e) (sym (arguments_next st lt is) ∙ so_far) (stops_then (then_run (eval s (term_of t) st) in_front) held new e (stops_then (eval s (term_of t) st) in_front new e h))

  moved : (x : Val) (r : Ending (List Val)) → then_run (then_run r (λ xs. give (x ∷ xs))) held ≡ then_run r (λ xs. give ((variables ++ Holds x ∷ []) ++ map Holds xs))
  moved x (Gave xs st) = let e : (variables ++ Holds x ∷ []) ++ map Holds xs ≡ variables ++ (Holds x ∷ map Holds xs) = simp append_assoc in ap (λ l. Gave l st) (sym e)
  moved x (Broke kind text st) = refl
  moved x (Needs key) = refl
  moved x Stays = refl

  -- an argument more is a variable
  pub arguments_step : (more : List Variable) (x : Val) (st new : State) (total : Ending (List Variable)) → i < length terms → t ≡ get_or terms i t → behind_others variables (arguments_of s (map term_of (drop i terms))) st ≡ total → eval s (term_of t) st ≡ Gave x new → more ≡ variables ++ Holds x ∷ [] → behind_others more others new ≡ total
  arguments_step more x st new total lt is so_far given same =
      ap (λ m. behind_others m others new) same ∙ sym (moved x (others new)) ∙ sym (ap (λ r. then_run (then_run r in_front) held) given) ∙ sym (arguments_next st lt is) ∙ so_far
