-- What a check finds, if it finds no fault, has a property.
use Rattle.std.proofs.Common.{Ok, Err}
use Rattle.script_types.specs.TypingResult.{Checked}
use Rattle.script_types.specs.TypingResult as checked
use Rattle.script_types.specs.Programs.{Built}
use Rattle.script_types.specs.Programs as built

abbrev pub AllOk : {A : Type 0} → (A → Type 0) → Checked A → Type 0
AllOk P (Ok x) = P x
AllOk P (Err fault) = Unit {0}

-- a check behind another that finds what has a property
pub ok_then : {A B : Type 0} (P : A → Type 0) (Q : B → Type 0) (r : Checked A) (g : A → Checked B) → AllOk P r → ((x : A) → P x → AllOk Q (g x)) → AllOk Q (checked.◌>>=◌ r g)
ok_then P Q (Ok x) g h go = go x h
ok_then P Q (Err fault) g h go = tt

-- a check behind another, whatever that finds
pub skip : {A B : Type 0} (Q : B → Type 0) (r : Checked A) (g : A → Checked B) → ((x : A) → AllOk Q (g x)) → AllOk Q (checked.◌>>=◌ r g)
skip Q (Ok x) g go = go x
skip Q (Err fault) g go = tt

-- the same of what is made of several scripts
abbrev pub AllBuilt : {A : Type 0} → (A → Type 0) → Built A → Type 0
AllBuilt P (Ok x) = P x
AllBuilt P (Err fault) = Unit {0}

pub built_then : {A B : Type 0} (P : A → Type 0) (Q : B → Type 0) (r : Built A) (g : A → Built B) → AllBuilt P r → ((x : A) → P x → AllBuilt Q (g x)) → AllBuilt Q (built.◌>>=◌ r g)
built_then P Q (Ok x) g h go = go x h
built_then P Q (Err fault) g h go = tt
