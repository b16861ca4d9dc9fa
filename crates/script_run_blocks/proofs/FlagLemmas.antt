-- Parts of a run that depend on a truth value.
use Rattle.std.proofs.Common.{◌≡◌, ◌<◌, ◌≤◌, ◌+◌, ◌-◌, true, false, Bool, ℕ, zero, suc, refl, sym, ap, ◌∙◌, subst, arith}
use Rattle.slee_value.specs.declared.value.Value.TheVariants as v
use Rattle.slee_effect.specs.declared.value.Val.{Val}
use Rattle.slee_effect.specs.declared.value.Val.TheVariants.{Plain, NewActivity, NewTimer}
use Rattle.script_meaning.specs.declared.outcome.FailKind.TheVariants as f
use Rattle.script_meaning.specs.Running.{State, Ending, Gave, Broke, Needs, Stays, Run, then_run, give, word_of}
use Rattle.script_meaning.specs.Values.{with_flag}
use Rattle.script_meaning.specs.Steps.{Flow, Next, followed, either, turns, repeat}
use Rattle.script_run_machine.specs.declared.stop.Stop.{Stop}
use Rattle.script_run_machine.specs.Agreeing.{Stops}
use Rattle.script_run_machine.specs.Machines.{MachineState}
use Rattle.script_run_terms.proofs.RunLemmas.{stops_then}
use Rattle.script_run_blocks.specs.Loops.{flag_in}

flag_then : (x : Val) (g : Bool → Run Flow) (st : State) → then_run (with_flag x give st) g ≡ with_flag x g st
flag_then (Plain (v.Int n)) g st = refl
flag_then (Plain (v.Text t)) g st = refl
flag_then (Plain (v.Bool b)) g st = refl
flag_then (Plain (v.Activity a)) g st = refl
flag_then (Plain (v.Timer t)) g st = refl
flag_then (NewActivity n) g st = refl
flag_then (NewTimer n) g st = refl

-- a choice by a value is one by its truth value
pub flags : (r : Ending Val) (g : Bool → Run Flow) → then_run (then_run r (λ x. with_flag x give)) g ≡ then_run r (λ x. with_flag x g)
flags (Gave x st) g = flag_then x g st
flags (Broke kind text st) g = refl
flags (Needs key) g = refl
flags Stays g = refl

module _ (n i : ℕ) (test : Run Val) (body : Run Flow) where
  abbrev rest : Flow → Run Flow
  rest flow = followed flow (turns (n - (i + 1)) test body)

  abbrev goes : Bool → Run Flow
  goes b = either b (λ st. then_run (body st) rest) (give Next)

  turn_is : (st : State) → i < n → turns (n - i) test body st ≡ then_run (flag_in test st) goes
  turn_is st lt =
      let e : n - i ≡ suc (n - (i + 1)) = omega arith in
      ap (λ (m : ℕ). turns m test body st) e ∙ sym (flags (test st) goes)

  -- what stops the test stops the loop
  pub test_stops : (st : State) (new : MachineState) (e : Stop) (total : Ending Flow) → i < n → turns (n - i) test body st ≡ total → Stops (flag_in test st) new e → Stops total new e
  test_stops st new e total lt so_far h =
      subst (λ (t : Ending Flow). Stops t new e) (sym (turn_is st lt) ∙ so_far) (stops_then (flag_in test st) goes new e h)

  -- where the test doesn't hold the loop is over
  pub test_ends : (st new : State) (b : Bool) (total : Ending Flow) → i < n → turns (n - i) test body st ≡ total → flag_in test st ≡ Gave b new → b ≡ false → total ≡ Gave Next new
  test_ends st new b total lt so_far t is =
      sym so_far ∙ turn_is st lt ∙ ap (λ r. then_run r goes) t ∙ ap (λ b. goes b new) is

  -- a turn that is taken
  turn_taken : (st mid : State) (b : Bool) (total : Ending Flow) → i < n → turns (n - i) test body st ≡ total → flag_in test st ≡ Gave b mid → b ≡ true → then_run (body mid) rest ≡ total
  turn_taken st mid b total lt so_far t is =
      sym (turn_is st lt ∙ ap (λ r. then_run r goes) t ∙ ap (λ b. goes b mid) is) ∙ so_far

  pub body_stops : (st mid : State) (new : MachineState) (b : Bool) (e : Stop) (total : Ending Flow) → i < n → turns (n - i) test body st ≡ total → flag_in test st ≡ Gave b mid → b ≡ true → Stops (body mid) new e → Stops total new e
  body_stops st mid new b e total lt so_far t is h =
      subst (λ (t : Ending Flow). Stops t new e) (turn_taken st mid b total lt so_far t is) (stops_then (body mid) rest new e h)

  -- a turn behind which the loop is left, or goes on
  pub turn_step : (st mid new : State) (b : Bool) (flow to : Flow) (total : Ending Flow) → i < n → turns (n - i) test body st ≡ total → flag_in test st ≡ Gave b mid → b ≡ true → body mid ≡ Gave flow new → flow ≡ to → rest to new ≡ total
  turn_step st mid new b flow to total lt so_far t is h to_is =
      sym (ap (λ (flow : Flow). rest flow new) to_is) ∙ sym (ap (λ r. then_run r rest) h) ∙ turn_taken st mid b total lt so_far t is

-- no turn is left
pub turns_end : (n i : ℕ) (test : Run Val) (body : Run Flow) (st : State) (total : Ending Flow) → n ≤ i → turns (n - i) test body st ≡ total → total ≡ Broke f.Budget (word_of f.Budget) st
turns_end n i test body st total le so_far =
    let e : n - i ≡ zero = omega arith in
    sym so_far ∙ ap (λ (m : ℕ). turns m test body st) e

-- as many turns as a loop may have
pub whole : (n : ℕ) (test : Run Val) (body : Run Flow) (st : State) (m : Ending Flow) → n ≡ st.left → m ≡ turns (n + 1) test body st → m ≡ repeat test body st
whole n test body st m same so_far = so_far ∙ ap (λ (n : ℕ). turns (n + 1) test body st) same
