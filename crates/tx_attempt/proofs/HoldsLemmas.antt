-- What was seen and is seen still decides.
use Rattle.std.proofs.Common.{◌≡◌, ℕ, Bool, true, false, true≢false, List, [], ◌∷◌, ◌++◌, Option, Some, None, refl, sym, ap, ◌∙◌, subst}
use Rattle.std.specs.Prelude.{cond}
use Rattle.slee_value.specs.declared.ids.ActivityId.{ActivityId}
use Rattle.slee_value.specs.declared.ids.EntityId.{EntityId}
use Rattle.slee_value.specs.declared.value.Value.{Value}
use Rattle.script_types.specs.Program.{Program}
use Rattle.script_meaning.specs.Seeing.{same_key, same_seen}
use Rattle.script_meaning.specs.declared.key.Key.{Key}
use Rattle.script_meaning.specs.declared.seen.Seen.{Seen}
use Rattle.script_meaning.specs.Answers.{Answers, kept}
use Rattle.script_meaning.specs.Delivery.{Delivered, Complete, delivered}
use Rattle.script_laws.specs.Dependence.{Extends}
use Rattle.script_laws.proofs.DistinctKeys.{key_is}
use Rattle.script_laws.proofs.LikeDeliveries.{delivery_stays}
use Rattle.handler_run.specs.Views.{Holds, all_answers, conflict, holds_at}
use Rattle.tx_attempt.proofs.SameLemmas.{seen_is, seen_itself}

no_conflict_first : (seen_at : Key → Seen) (pair : Key × Seen) (known : List (Key × Seen)) (b : Bool) → same_seen pair.1 (seen_at pair.0) ≡ b → cond b (conflict seen_at known) (Some (pair.0, pair.1, seen_at pair.0)) ≡ None → (conflict seen_at known ≡ None → Holds seen_at known) → Holds seen_at (pair ∷ known)
no_conflict_first seen_at pair known true same h go = (sym (seen_is pair.1 (seen_at pair.0) same), go h)
no_conflict_first seen_at pair known false same h go = cc

pub no_conflict : (seen_at : Key → Seen) (known : List (Key × Seen)) → conflict seen_at known ≡ None → Holds seen_at known
no_conflict seen_at [] h = tt
no_conflict seen_at (pair ∷ known) h = no_conflict_first seen_at pair known (same_seen pair.1 (seen_at pair.0)) refl h (no_conflict seen_at known)

some_is : {A : Type 0} (x y : A) → Some x ≡ Some y → x ≡ y
some_is x y h = cc

differs_at : (seen_at : Key → Seen) (pair : Key × Seen) (key : Key) (saw found : Seen) → same_seen pair.1 (seen_at pair.0) ≡ false → pair.0 ≡ key → pair.1 ≡ saw → seen_at pair.0 ≡ found → (found ≡ seen_at key) × (saw ≡ found → ⊥)
differs_at seen_at pair key saw found same k s f =
    (sym f ∙ ap seen_at k, λ e. absurd (true≢false (sym (seen_itself pair.1) ∙ subst (λ z. same_seen pair.1 z ≡ false) (sym (s ∙ e ∙ sym f)) same)))

differs_first : (seen_at : Key → Seen) (pair : Key × Seen) (known : List (Key × Seen)) (key : Key) (saw found : Seen) (b : Bool) → same_seen pair.1 (seen_at pair.0) ≡ b → cond b (conflict seen_at known) (Some (pair.0, pair.1, seen_at pair.0)) ≡ Some (key, saw, found) → (conflict seen_at known ≡ Some (key, saw, found) → (found ≡ seen_at key) × (saw ≡ found → ⊥)) → (found ≡ seen_at key) × (saw ≡ found → ⊥)
differs_first seen_at pair known key saw found true same h go = go h
differs_first seen_at pair known key saw found false same h go =
    let all : (pair.0, pair.1, seen_at pair.0) ≡ (key, saw, found) = some_is (pair.0, pair.1, seen_at pair.0) (key, saw, found) h in
    differs_at seen_at pair key saw found same (ap (λ x. x.0) all) (ap (λ x. x.1) all) (ap (λ x. x.2) all)

-- where something conflicts, something else is found than was seen
pub conflict_differs : (seen_at : Key → Seen) (known : List (Key × Seen)) (key : Key) (saw found : Seen) → conflict seen_at known ≡ Some (key, saw, found) → (found ≡ seen_at key) × (saw ≡ found → ⊥)
conflict_differs seen_at [] key saw found h = cc
conflict_differs seen_at (pair ∷ known) key saw found h = differs_first seen_at pair known key saw found (same_seen pair.1 (seen_at pair.0)) refl h (conflict_differs seen_at known key saw found)

kept_first : (seen_at : Key → Seen) (pair : Key × Seen) (key : Key) (answer : Seen) (rest : Option Seen) (b : Bool) → same_key pair.0 key ≡ b → seen_at pair.0 ≡ pair.1 → (rest ≡ Some answer → Some (seen_at key) ≡ Some answer) → cond b (Some pair.1) rest ≡ Some answer → Some (seen_at key) ≡ Some answer
kept_first seen_at pair key answer rest true same here go h = ap (λ k. Some (seen_at k)) (sym (key_is pair.0 key same)) ∙ ap Some here ∙ h
kept_first seen_at pair key answer rest false same here go h = go h

-- what is seen everywhere has the answers that were kept
holds_extends : (seen_at : Key → Seen) (known : List (Key × Seen)) → Holds seen_at known → Extends (kept known) (all_answers seen_at)
holds_extends seen_at [] h key answer is = cc
holds_extends seen_at (pair ∷ known) h key answer is = kept_first seen_at pair key answer (kept known key) (same_key pair.0 key) refl h.0 (holds_extends seen_at known h.1 key answer) is

pub holds_decides : (seen_at : Key → Seen) (known : List (Key × Seen)) (program : Program) (number : ℕ) (e : EntityId) (a : ActivityId) (event : List ℕ) (fields : List (List ℕ × Value)) (delivery : Delivered) → Holds seen_at known → delivered (kept known) program number e a event fields ≡ Complete delivery → delivered (all_answers seen_at) program number e a event fields ≡ Complete delivery
holds_decides seen_at known program number e a event fields delivery h done = delivery_stays (kept known) (all_answers seen_at) program number e a event fields delivery (holds_extends seen_at known h) done

-- one more that is seen so
pub holds_more : (seen_at : Key → Seen) (known : List (Key × Seen)) (pair : Key × Seen) → Holds seen_at known → seen_at pair.0 ≡ pair.1 → Holds seen_at (known ++ pair ∷ [])
holds_more seen_at [] pair h is = (is, tt)
holds_more seen_at (x ∷ known) pair h is = (h.0, holds_more seen_at known pair h.1 is)
