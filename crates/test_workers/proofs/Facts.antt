-- A deployment that was read is the router's own, and the one that a run is served by.
use Rattle.std.proofs.Common.{◌≡◌, ℕ, List, refl, sym, ap, subst, Ok}
use Rattle.script_types.specs.ProgramOf.{IsChecked}
use Rattle.signal_script.specs.declared.signal.Signal.{Signal}
use Rattle.slee_disk.specs.Disk.{DiskState}
use Rattle.slee_descriptor.specs.declared.deployment.Deployment.{Deployment}
use Rattle.deploy_json.specs.Checking.{reading_of, read_as}
use Rattle.router_core.specs.States.{IsOwn}
use Rattle.router_durable.specs.Facts.{Origin, initial_of}
use Rattle.router_laws_deployed.proofs.Declared.{declared_rise}
use Rattle.router_laws_deployed.proofs.Readings.{reading_parts}
use Rattle.router_state.specs.State.{State}
use Rattle.slee_container.specs.Container.{View}
use Rattle.slee_container.specs.Opening.{Starts}
use Rattle.slee_container.specs.Turns.{setup_told}
use Rattle.slee_container.specs.declared.container.Limits.{Limits}
use Rattle.slee_container.specs.declared.container.Mode.{Mode}
use Rattle.worker_gate.specs.Works.{IsServed}

pub own_read : (bytes : List ℕ) (d : Deployment) → reading_of bytes ≡ Ok (read_as d) → IsChecked d.codes → IsOwn d (initial_of d.parts d.codes)
own_read bytes d read checked = record {
  deployed = record { parts = refl; program = refl; checked = checked };
  order = declared_rise bytes d.parts (reading_parts bytes d read);
}

pub served : {D : Type 0} (old new : DiskState) (start : State) (bytes : List ℕ) (lines : List Signal) (mode : Mode) (limits : Limits) (v : View D) (d : Deployment) → Starts old new start bytes lines mode limits v → reading_of bytes ≡ Ok (read_as d) → IsChecked d.codes → IsServed (setup_told v.setup) d
served old new start bytes lines mode limits v d starts read checked = record {
  read = subst (λ (b : List ℕ). reading_of b ≡ Ok (read_as d)) (sym (ap (λ (o : Origin). o.deployment) starts.opened.origin)) read;
  checked = checked;
}
