-- A name that stands for what was noted first.
use Rattle.std.proofs.Common.{◌≡◌, List, ℕ, Bool, true, false, Option, Some, None, refl, sym, ap, ◌∙◌, cond, true≢false, is_some, Bor}
use Rattle.std.specs.Option.{option_copied}
use Rattle.std.proofs.lemmas.Slice.Eq.{bytes_eq-Decides}
use Rattle.std.specs.Str.{bytes_eq}
use Rattle.std.specs.Map.{update}
use Rattle.deploy_model.specs.Rules.{or_later}
use Rattle.deploy_schema.specs.Numbers.{where_named}

turned_at : (x y : List ℕ) (a b : Bool) → bytes_eq x y ≡ a → bytes_eq y x ≡ b → a ≡ b
turned_at x y true true e f = refl
turned_at x y false false e f = refl
turned_at x y true false e f = sym ((bytes_eq-Decides y x).1 (sym ((bytes_eq-Decides x y).0 e))) ∙ f
turned_at x y false true e f = sym e ∙ (bytes_eq-Decides x y).1 (sym ((bytes_eq-Decides y x).0 f))

pub turned : (x y : List ℕ) → bytes_eq x y ≡ bytes_eq y x
turned x y = turned_at x y _ _ refl refl

pub later_none : {V : Type 0} → (o : Option V) → o ≡ or_later o None
later_none None = refl
later_none (Some i) = refl

noted_at : {V : Type 0} → (f : List ℕ → Option V) (k : List ℕ) (v : V) (q : List ℕ) (b : Bool) → bytes_eq q k ≡ b → f k ≡ None → cond b (Some v) (f q) ≡ or_later (f q) (cond b (Some v) None)
noted_at f k v q true e none = rw (ap f ((bytes_eq-Decides q k).0 e) ∙ none)
noted_at f k v q false e none = later_none (f q)

-- a name that stood for nothing stands for this
pub noted : {V : Type 0} → (f : List ℕ → Option V) (k : List ℕ) (v : V) (q : List ℕ) → f k ≡ None → update bytes_eq f k (Some v) q ≡ or_later (f q) (where_named v (Some k) q)
noted f k v q none = rw (turned k q) (noted_at f k v q _ refl none)

-- what a look-up that found nothing answers
pub absent_by : {V : Type 0} → (r : Option (Bor V)) (o : Option V) → option_copied r ≡ o → is_some r ≡ false → o ≡ None
absent_by None o e h = sym e
absent_by (Some x) o e h = absurd (true≢false h)
