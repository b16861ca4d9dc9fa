-- Parts of a run one behind another.
use Rattle.std.proofs.Common.{◌≡◌, refl, ap}
use Rattle.script_meaning.specs.Running.{Ending, Gave, Broke, Needs, Stays, Run, then_run, give}
use Rattle.script_run_machine.specs.declared.stop.Stop.{Stop}
use Rattle.script_run_machine.specs.declared.stop.Stop.TheVariants as stop
use Rattle.script_run_machine.specs.Agreeing.{Stops}
use Rattle.script_run_machine.specs.Machines.{MachineState}

-- what stops a part stops the whole
pub stops_then : {A B : Type 0} (m : Ending A) (g : A → Run B) (new : MachineState) (e : Stop) → Stops m new e → Stops (then_run m g) new e
stops_then m g new stop.NoMemory h = tt
stops_then m g new (stop.Broken kind) h = ap (λ x. then_run x g) h
stops_then m g new (stop.Thrown text) h = ap (λ x. then_run x g) h
stops_then m g new (stop.Need key) h = ap (λ x. then_run x g) h
stops_then m g new stop.Unchecked h = ap (λ x. then_run x g) h

pub then_give : {A : Type 0} (e : Ending A) → e ≡ then_run e give
then_give (Gave x st) = refl
then_give (Broke kind text st) = refl
then_give (Needs key) = refl
then_give Stays = refl

pub assoc : {A B C : Type 0} (e : Ending A) (g : A → Run B) (h : B → Run C) → then_run (then_run e g) h ≡ then_run e (λ x st. then_run (g x st) h)
assoc (Gave x st) g h = refl
assoc (Broke kind text st) g h = refl
assoc (Needs key) g h = refl
assoc Stays g h = refl
