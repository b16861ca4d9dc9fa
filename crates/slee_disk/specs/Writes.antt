-- What a call that writes to a sink does to it.
use Rattle.std.specs.Prelude.{◌≡◌, ℕ, ◌≤◌, List, ◌++◌, OnOk, OnErr}
use Rattle.std.specs.Io.KnownBytes.{Appends}
use Rattle.std.specs.declared.option.Option.{Option}
use Rattle.std.specs.declared.result.Result.{Result}
use Rattle.slee_disk.specs.Causes.{Rose}

-- known bytes grow by a front of these, perhaps by all of them
abbrev pub AppendsFront : Option (List ℕ) → Option (List ℕ) → List ℕ → Type 0
AppendsFront old new bytes = (front : List ℕ) × (rest : List ℕ) × (bytes ≡ front ++ rest) × Appends old new front

-- The bytes went to a sink, or a front of them where it failed.
pub record Writes {K T E : Type 0} (contents : K → Option (List ℕ)) (faults : K → ℕ) (old new : K) (bytes : List ℕ) (result : Result T E) : Type 0 where
  pub later : faults old ≤ faults new
  pub ok : OnOk result (Appends (contents old) (contents new) bytes)
  pub err : OnErr result (AppendsFront (contents old) (contents new) bytes)
  pub failed : OnErr result (Rose (faults old) (faults new))
