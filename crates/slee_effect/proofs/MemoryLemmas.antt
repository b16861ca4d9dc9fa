-- Where reading so many effects first takes memory.
use Rattle.std.proofs.Common.{◌≡◌, ℕ, zero, suc, ◌+◌, ◌<◌, Bool, true, false, ◌||◌, List, Ok, refl, sym, ap, subst, ◌∙◌, arith, IsTrue}
use Rattle.std.specs.Prelude.{is_ok, IsOk}
use Rattle.slee_effect.specs.declared.effect.Effect.{Effect}
use Rattle.slee_effect.specs.Reading.{effect_at}
use Rattle.slee_effect.specs.Memory.{has_first_text, items_take_memory}

-- behind no effect nothing is read, and behind some the first one is
abbrev pub Begun : ℕ → List ℕ → List ℕ → Type 0
Begun zero rest bytes = rest ≡ bytes
Begun (suc i) rest bytes = IsOk (effect_at bytes)

pub begun_on : (i : ℕ) (rest bytes : List ℕ) (x : Effect × List ℕ) → effect_at rest ≡ Ok x → Begun i rest bytes → Begun (i + 1) x.1 bytes
begun_on zero rest bytes x e h = subst (λ (n : ℕ). Begun n x.1 bytes) (let k : suc zero ≡ zero + 1 = omega arith in k) (ap is_ok (ap effect_at (sym h) ∙ e))
begun_on (suc i) rest bytes x e h = subst (λ (n : ℕ). Begun n x.1 bytes) (let k : suc (suc i) ≡ suc i + 1 = omega arith in k) h

or_left : (a b : Bool) → a ≡ true → (a || b) ≡ true
or_left true b h = refl
or_left false b h = absurd cc

or_right : (a b : Bool) → b ≡ true → (a || b) ≡ true
or_right true b h = refl
or_right false b h = h

-- the first text of an effect is read
pub text_memory : (count i : ℕ) (rest bytes : List ℕ) → i < count → Begun i rest bytes → IsTrue (has_first_text rest) → IsTrue (items_take_memory count bytes)
text_memory zero i rest bytes lt begun h = absurd (omega arith)
text_memory (suc n) zero rest bytes lt begun h = or_left (has_first_text bytes) (is_ok (effect_at bytes)) (subst (λ (l : List ℕ). has_first_text l ≡ true) begun h)
text_memory (suc n) (suc i) rest bytes lt begun h = or_right (has_first_text bytes) (is_ok (effect_at bytes)) begun

-- an effect is read
pub effect_memory : (count i : ℕ) (rest bytes : List ℕ) (x : Effect × List ℕ) → i < count → Begun i rest bytes → effect_at rest ≡ Ok x → IsTrue (items_take_memory count bytes)
effect_memory zero i rest bytes x lt begun e = absurd (omega arith)
effect_memory (suc n) zero rest bytes x lt begun e = or_right (has_first_text bytes) (is_ok (effect_at bytes)) (ap is_ok (ap effect_at (sym begun) ∙ e))
effect_memory (suc n) (suc i) rest bytes x lt begun e = or_right (has_first_text bytes) (is_ok (effect_at bytes)) begun
