-- What a stored closure answers.
use Rattle.std.proofs.Common.{Result, Ok, Err, IfOk, refl}
use Rattle.std.specs.Result.{ForOk}

pub picks_if_ok : {A E : Type 0} → (P : A → Type 0) (r : Result A E) → ForOk r P → IfOk r P
picks_if_ok P (Ok x) h = h x refl
picks_if_ok P (Err e) h = tt
