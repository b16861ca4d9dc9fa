-- Bytes of which rows are read: what reading and the test come to.
use Rattle.std.proofs.Common.{◌≡◌, ℕ, ◌<◌, Bool, true, false, List, [], Some, None, get_or, refl, sym, ◌∙◌}
use Rattle.std.specs.Prelude.{Ok, Err, Result}
use Rattle.deploy_model.specs.Deployed.{Deployed}
use Rattle.script_types.specs.Program.{Program}
use Rattle.router_state.specs.Restoring.{parsed, restored}
use Rattle.router_state.specs.State.{State}
use Rattle.router_state.specs.Well.{IsWell, is_well}
use Rattle.router_laws_snapshots.proofs.Restored.{restored_is}
use Rattle.router_laws_reading.proofs.WholeStates.{ill_restored, well_restored}
use Rattle.snapshot_read.specs.declared.fault.ReadFault.{ReadFault}
use Rattle.snapshot_read.specs.declared.fault.ReadFault.TheVariants as reads
use Rattle.router_core.specs.Restoring.{fault_of}
use Rattle.router_core.specs.declared.fault.StateFault.{StateFault}
use Rattle.router_core.specs.declared.fault.StateFault.TheVariants as faults

-- the state's fault is Bad where that of its rows is
pub bad_read : {X : Type 0} (e : ReadFault) (r : StateFault) (result : Result X StateFault) → result ≡ Err r → r ≡ fault_of e → result ≡ Err faults.Bad → e ≡ reads.Bad
bad_read reads.Bad r result is same bad = refl
bad_read reads.NoMemory r result is same bad = absurd cc

-- bytes of which rows of a well-formed state were read
pub well_read : (format : ℕ) (d : Deployed) (p : Program) (bytes : List ℕ) (s : State) (well : Bool) → ((i : ℕ) → get_or bytes i 0 < 256) → parsed format d p bytes ≡ Ok (s, []) → well ≡ is_well s → well ≡ true → restored format d p bytes ≡ Some s
well_read format d p bytes s well are read tested passes = well_restored format d p bytes s are read (sym tested ∙ passes)

-- and bytes of which other rows were read
pub ill_read : (format : ℕ) (d : Deployed) (p : Program) (bytes : List ℕ) (s : State) (well : Bool) → parsed format d p bytes ≡ Ok (s, []) → well ≡ is_well s → well ≡ false → restored format d p bytes ≡ None
ill_read format d p bytes s well read tested fails = ill_restored format d p bytes s [] read (sym tested ∙ fails)

pub restored_well : (format : ℕ) (d : Deployed) (p : Program) (bytes : List ℕ) (s : State) → restored format d p bytes ≡ Some s → IsWell s
restored_well format d p bytes s is = (restored_is format d p bytes s is).well
