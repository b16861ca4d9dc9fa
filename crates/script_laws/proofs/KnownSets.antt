-- What is known stays known as effects are made, and what effects that were made refer to is known.
use Rattle.std.proofs.Common.{◌≡◌, ◌+◌, ◌≤◌, inl, inr, ℕ, Bool, true, false, cond, List, [], ◌∷◌, ◌++◌, filter, refl, sym, ap, ◌∙◌, subst, append_assoc, append-nil}
use native.Mathlib.Omega.{arith}
use Rattle.std.specs.List.{AllByRecursion}
use Rattle.slee_effect.specs.declared.reference.Ref.TheVariants.{Known, Fresh}
use Rattle.slee_effect.specs.declared.effect.Effect.{Effect}
use Rattle.script_meaning.specs.Overlay.{count_of, entities_by, activities_by, timers_by}
use Rattle.script_laws.specs.References.{Reference, ToEntity, ToActivity, ToTimer, in_effect, IsMade, IsKnown, ReferBehind, Refer}

pub all_weaker : {X : Type 0} (P Q : X → Type 0) (xs : List X) → ((x : X) → P x → Q x) → AllByRecursion P xs → AllByRecursion Q xs
all_weaker P Q [] f h = tt
all_weaker P Q (x ∷ xs) f h = (f x h.0, all_weaker P Q xs f h.1)

pub all_append : {X : Type 0} (P : X → Type 0) (xs ys : List X) → AllByRecursion P xs → AllByRecursion P ys → AllByRecursion P (xs ++ ys)
all_append P [] ys h g = g
all_append P (x ∷ xs) ys h g = (h.0, all_append P xs ys h.1 g)

pub all_split : {X : Type 0} (P : X → Type 0) (xs ys : List X) → AllByRecursion P (xs ++ ys) → AllByRecursion P xs × AllByRecursion P ys
all_split P [] ys h = (tt, h)
all_split P (x ∷ xs) ys h = let r = all_split P xs ys h.1 in ((h.0, r.0), r.1)

pub either_way : {X : Type 0} (P : X → Type 0) (b : Bool) (x y : X) → P x → P y → P (cond b x y)
either_way P true x y h g = h
either_way P false x y h g = g

pub all_filter : {X : Type 0} (P : X → Type 0) (test : X → Bool) (xs : List X) → AllByRecursion P xs → AllByRecursion P (filter test xs)
all_filter P test [] h = tt
all_filter P test (x ∷ xs) h = either_way (AllByRecursion P) (test x) (x ∷ filter test xs) (filter test xs) (h.0, all_filter P test xs h.1) (all_filter P test xs h.1)

-- effects that go on
abbrev pub Longer : List Effect → List Effect → Type 0
Longer xs ys = (more : List Effect) × (ys ≡ xs ++ more)

pub longer_same : (xs : List Effect) → Longer xs xs
longer_same xs = ([], sym (append-nil xs))

pub longer_then : (xs ys zs : List Effect) → Longer xs ys → Longer ys zs → Longer xs zs
longer_then xs ys zs g h = (g.0 ++ h.0, h.1 ∙ ap (λ k. k ++ h.0) g.1 ∙ append_assoc xs g.0 h.0)

pub count_append : (makes : Effect → ℕ) (xs ys : List Effect) → count_of makes (xs ++ ys) ≡ count_of makes xs + count_of makes ys
count_append makes [] ys = omega arith
count_append makes (x ∷ xs) ys = omega (arith, count_append makes xs ys)

count_longer : (makes : Effect → ℕ) (xs ys : List Effect) → Longer xs ys → count_of makes xs ≤ count_of makes ys
count_longer makes xs ys h = omega (arith, ap (count_of makes) h.1, count_append makes xs h.0)

made_longer : (xs ys : List Effect) (r : Reference) → Longer xs ys → IsMade xs r → IsMade ys r
made_longer xs ys (ToEntity (Fresh n)) l h = omega (arith, count_longer entities_by xs ys l, h)
made_longer xs ys (ToActivity (Fresh n)) l h = omega (arith, count_longer activities_by xs ys l, h)
made_longer xs ys (ToTimer (Fresh n)) l h = omega (arith, count_longer timers_by xs ys l, h)
made_longer xs ys (ToEntity (Known n)) l h = absurd h
made_longer xs ys (ToActivity (Known n)) l h = absurd h
made_longer xs ys (ToTimer (Known n)) l h = absurd h

pub known_longer : (known : Reference → Type 0) (xs ys : List Effect) (r : Reference) → Longer xs ys → IsKnown known xs r → IsKnown known ys r
known_longer known xs ys r l (inl h) = inl h
known_longer known xs ys r l (inr h) = inr (made_longer xs ys r l h)

pub all_longer : (known : Reference → Type 0) (xs ys : List Effect) (rs : List Reference) → Longer xs ys → AllByRecursion (IsKnown known xs) rs → AllByRecursion (IsKnown known ys) rs
all_longer known xs ys rs l h = all_weaker (IsKnown known xs) (IsKnown known ys) rs (λ r k. known_longer known xs ys r l k) h

pub all_told : (known : Reference → Type 0) (xs : List Effect) (rs : List Reference) → AllByRecursion known rs → AllByRecursion (IsKnown known xs) rs
all_told known xs rs h = all_weaker known (IsKnown known xs) rs (λ r k. inl k) h

refer_behind : (known : Reference → Type 0) (before es : List Effect) (e : Effect) → ReferBehind known before es → AllByRecursion (IsKnown known (before ++ es)) (in_effect e) → ReferBehind known before (es ++ e ∷ [])
refer_behind known before [] e h g = (subst (λ z. AllByRecursion (IsKnown known z) (in_effect e)) (append-nil before) g, tt)
refer_behind known before (x ∷ es) e h g = (h.0, refer_behind known (before ++ x ∷ []) es e h.1 (subst (λ z. AllByRecursion (IsKnown known z) (in_effect e)) (sym (append_assoc before (x ∷ []) es)) g))

-- one more effect, which refers to what is known behind the others
pub refer_more : (known : Reference → Type 0) (es : List Effect) (e : Effect) → Refer known es → AllByRecursion (IsKnown known es) (in_effect e) → Refer known (es ++ e ∷ [])
refer_more known es e h g = refer_behind known [] es e h g

each_behind : (known : Reference → Type 0) (before es all : List Effect) → before ++ es ≡ all → ReferBehind known before es → AllByRecursion (λ e. AllByRecursion (IsKnown known all) (in_effect e)) es
each_behind known before [] all e h = tt
each_behind known before (x ∷ es) all e h = (all_longer known before all (in_effect x) (x ∷ es, sym e) h.0, each_behind known (before ++ x ∷ []) es all (append_assoc before (x ∷ []) es ∙ e) h.1)

-- what each effect refers to is known behind all of them
pub each_known : (known : Reference → Type 0) (all : List Effect) → Refer known all → AllByRecursion (λ e. AllByRecursion (IsKnown known all) (in_effect e)) all
each_known known all h = each_behind known [] all all refl h
