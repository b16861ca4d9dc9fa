-- What a reader of a part of a line answers.
use Rattle.std.specs.Prelude.{◌≡◌, ◌<◌, ℕ, List, length, Ok, Err}
use Rattle.std.specs.declared.result.Result.{Result}
use Rattle.signal_script.specs.Signals.{Reading, signals_of}
use Rattle.signal_script.specs.declared.fault.SignalFault.{SignalFault}
use Rattle.signal_script.specs.declared.fault.SignalFault.TheVariants as wholes
use Rattle.signal_script.specs.declared.fault.LineFault.{LineFault}
use Rattle.signal_script.specs.declared.fault.LineFault.TheVariants as faults

-- a fault that is the part's own, or want of memory
abbrev pub IsFaultOf : {A : Type 0} → Reading A → LineFault → Type 0
IsFaultOf reading (faults.Bad kind) = reading ≡ Err kind
IsFaultOf reading faults.NoMemory = Unit {0}

-- what the part says, or a fault
abbrev pub Answers : {A : Type 0} → Result A LineFault → Reading A → Type 0
Answers (Ok said) reading = reading ≡ Ok said
Answers (Err fault) reading = IsFaultOf reading fault

-- the fault of a text: its first bad line, or want of memory, which no empty text takes
abbrev pub IsFaultOfText : List ℕ → SignalFault → Type 0
IsFaultOfText bytes (wholes.At line kind) = signals_of bytes ≡ Err (wholes.At line kind)
IsFaultOfText bytes wholes.NoMemory = 0 < length bytes
