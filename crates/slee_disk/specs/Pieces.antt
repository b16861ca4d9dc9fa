-- What a call does that reads or writes a piece of a file.
use Rattle.std.specs.Prelude.{◌≡◌, ℕ, ◌≤◌, List, [], ◌∷◌, ◌++◌, length, take, drop, Option, Some, None}
use Rattle.slee_disk.specs.Sides.{given, overwritten}

-- A front of what stands from a place on is in the buffer, none of it only where nothing stands there.
pub record IsFront (all : List ℕ) (at n : ℕ) (old new : List ℕ) : Type 0 where
  pub within : n ≤ length (given at (length old) all)
  pub some : n ≡ 0 → given at (length old) all ≡ []
  pub read : new ≡ take n (given at (length old) all) ++ drop n old

-- the same where the file tells its bytes
abbrev pub ReadsFront : Option (List ℕ) → ℕ → ℕ → List ℕ → List ℕ → Type 0
ReadsFront None at n old new = Unit {0}
ReadsFront (Some all) at n old new = IsFront all at n old new

-- the buffer has all that stands from a place on, as far as there is room
pub record IsWhole (all : List ℕ) (at n : ℕ) (old new : List ℕ) : Type 0 where
  pub count : n ≡ length (given at (length old) all)
  pub read : new ≡ given at (length old) all ++ drop n old

abbrev pub ReadsWhole : Option (List ℕ) → ℕ → ℕ → List ℕ → List ℕ → Type 0
ReadsWhole None at n old new = Unit {0}
ReadsWhole (Some all) at n old new = IsWhole all at n old new

-- bytes over the old ones at a place; no bytes change nothing, also behind the end
abbrev pub laid : ℕ → List ℕ → List ℕ → List ℕ
laid at [] old = old
laid at (byte ∷ bytes) old = overwritten at (byte ∷ bytes) old

-- the bytes were written at a place, where the file tells its bytes
abbrev pub IsLaid : ℕ → List ℕ → Option (List ℕ) → Option (List ℕ) → Type 0
IsLaid at bytes None new = Unit {0}
IsLaid at bytes (Some old) new = new ≡ Some (laid at bytes old)
