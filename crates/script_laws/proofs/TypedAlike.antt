-- Two checks that find the same first fault, or results of which one is a part of the other.
use Rattle.std.proofs.Common.{◌≡◌, ℕ, Option, Some, None, Ok, Err, refl, ap, ◌∙◌}
use Rattle.std.specs.Prelude.{option_map}
use Rattle.script_types.specs.TypingResult.{Checked, ◌>>=◌, known}
use Rattle.script_laws.specs.Forgetting.{forget}

abbrev pub Same : {A B : Type 0} → (A → B) → Checked A → Checked B → Type 0
Same part (Ok x) found = found ≡ Ok (part x)
Same part (Err fault) found = found ≡ Err fault

pub same_is : {A B : Type 0} (part : A → B) (m : Checked A) (n : Checked B) → Same part m n → n ≡ forget part m
same_is part (Ok x) n h = h
same_is part (Err fault) n h = h

-- one check behind another
pub same_then : {A B C D : Type 0} (part : A → B) (whole : C → D) (m : Checked A) (n : Checked B) (g : A → Checked C) (k : B → Checked D) → Same part m n → ((x : A) → Same whole (g x) (k (part x))) → Same whole (m >>= g) (n >>= k)
same_then part whole (Ok x) n g k h go = rw h (go x)
same_then part whole (Err fault) n g k h go = rw h refl

-- behind one and the same check
pub same_after : {A C D : Type 0} (whole : C → D) (m : Checked A) (g : A → Checked C) (k : A → Checked D) → ((x : A) → Same whole (g x) (k x)) → Same whole (m >>= g) (m >>= k)
same_after whole (Ok x) g k go = go x
same_after whole (Err fault) g k go = refl

-- a last check of which nothing is kept
pub same_last : {A C : Type 0} (part : A → Unit {0}) (m : Checked A) (n : Checked (Unit {0})) (g : A → C) → Same part m n → Same (λ (_ : C). tt) (m >>= λ x. (let z : Checked C = Ok (g x) in z)) n
same_last part (Ok x) n g h = h
same_last part (Err fault) n g h = h

pub same_test : {C : Type 0} (m : Checked (Unit {0})) (y : C) → Same (λ (_ : C). tt) (m >>= λ _. (let z : Checked C = Ok y in z)) m
same_test (Ok x) y = refl
same_test (Err fault) y = refl

-- a name that is known
pub same_known : {A B : Type 0} (part : A → B) (at : ℕ) (o : Option A) (p : Option B) → p ≡ option_map part o → Same part (known at o) (known at p)
same_known part at None p h = rw h refl
same_known part at (Some x) p h = rw h refl

-- a part of the last result alone
pub same_end : {A B C : Type 0} (part : A → B) (whole : C → B) (m : Checked A) (n : Checked B) (g : A → C) → Same part m n → ((x : A) → part x ≡ whole (g x)) → Same whole (m >>= λ x. (let z : Checked C = Ok (g x) in z)) n
same_end part whole (Ok x) n g h e = h ∙ ap (λ z. let r : Checked _ = Ok z in r) (e x)
same_end part whole (Err fault) n g h e = h

pub same_self : {A : Type 0} (m : Checked A) → Same (λ (x : A). x) m m
same_self (Ok x) = refl
same_self (Err fault) = refl
