-- What a stop that tears nothing leaves.
use Rattle.std.specs.Prelude.{◌≡◌, ℕ, ◌≤◌, false, List, [], ◌∷◌, length}
use Rattle.slee_disk.specs.declared.call.Act.{Act}
use Rattle.slee_disk.specs.declared.call.Act.TheVariants as acts
use Rattle.slee_disk.specs.declared.call.Call.{Call}

-- at most so many bytes are written
abbrev pub WritesUpTo : ℕ → Act → Type 0
WritesUpTo part acts.Look = Unit {0}
WritesUpTo part (acts.Write place bytes) = length bytes ≤ part
WritesUpTo part (acts.Cut size) = Unit {0}
WritesUpTo part acts.Sync = Unit {0}

-- each call succeeded, and wrote at most so many bytes
abbrev pub AreWhole : ℕ → List Call → Type 0
AreWhole part [] = Unit {0}
AreWhole part (call ∷ calls) = (call.failed ≡ false) × WritesUpTo part call.act × AreWhole part calls
