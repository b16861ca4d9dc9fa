-- Lists of effects are read as they are spelled, and the answers of reading them.
use Rattle.std.proofs.Common.{◌≡◌, ℕ, zero, suc, ◌+◌, ◌-◌, ◌<◌, ◌≤◌, Bool, true, false, cond, eqb, List, [], ◌∷◌, ◌++◌, length, take, Result, Ok, Err, refl, sym, ap, subst, ◌∙◌, append_assoc, arith, inl, inr}
use Rattle.std.specs.List.{flat_map, AllByRecursion}
use Rattle.std.proofs.lemmas.Bool.{eqb-true}
use Rattle.std.proofs.lemmas.List.{append-nil, take_at, length-append, nil_from_length}
use Rattle.std.proofs.lemmas.List.Concat.{flat_map-cons}
use Rattle.slee_value.specs.declared.fault.ValueBad.TheVariants as bad
use Rattle.slee_value.specs.Reading.{Fault, Part, ◌>>=◌, mapped}
use Rattle.slee_value.proofs.ReadLemmas.{AreBytes, Takes, Begins, IsStuckBy, ReadsBy, bind_ok, bind_err, ok_is, done}
use Rattle.slee_effect.specs.declared.effect.Effect.{Effect}
use Rattle.slee_effect.specs.declared.effect.Effect.TheVariants.{NewNull}
use Rattle.slee_effect.specs.Bytes.{spelled_effect, spelling_of_effects}
use Rattle.slee_effect.specs.Fitting.{FitsEffect, IsLooseEffect, FitEffects, AreLooseEffects}
use Rattle.slee_effect.specs.Reading.{effect_at, items_at, effects_at, list_of}
use Rattle.slee_effect.specs.Lists.{BeginsList, BeginsLooseList, IsFirstBad}
use Rattle.slee_effect.proofs.ThenLemmas.{reads_same, reads_made, after, spell_after, fits_after, reads_after, same_cons, reads_counted}
use Rattle.slee_effect.proofs.EffectLemmas.{reads_effect}

abbrev spelled_items : List Effect → List ℕ
spelled_items effects = flat_map spelled_effect effects

abbrev FitItems : ℕ → List Effect → Type 0
FitItems n effects = (length effects ≡ n) × AllByRecursion FitsEffect effects

abbrev LooseItems : ℕ → List Effect → Type 0
LooseItems n effects = (length effects ≡ n) × AllByRecursion IsLooseEffect effects

abbrev join_items : Effect × List Effect → List Effect
join_items p = p.0 ∷ p.1

nil_of : (effects : List Effect) → length effects ≡ 0 → effects ≡ []
nil_of [] e = refl
nil_of (x ∷ effects) e = absurd (omega arith)

abbrev first_item : List Effect → Effect × List Effect
first_item [] = (NewNull, [])
first_item (x ∷ effects) = (x, effects)

module _ (n : ℕ) (next : ReadsBy spelled_items (FitItems n) (LooseItems n) (items_at n)) where
  abbrev rest_at : Effect → List ℕ → Part (List Effect)
  rest_at x bytes = items_at n bytes

  abbrev spell_two : Effect × List Effect → List ℕ
  spell_two = spell_after spelled_effect spelled_items

  abbrev fits_two : Effect × List Effect → Type 0
  fits_two = fits_after FitsEffect (λ x. FitItems n)

  abbrev loose_two : Effect × List Effect → Type 0
  loose_two = fits_after IsLooseEffect (λ x. LooseItems n)

  reads_two : ReadsBy spell_two fits_two loose_two (after effect_at rest_at)
  reads_two = reads_after spelled_effect FitsEffect IsLooseEffect effect_at spelled_items (λ x. FitItems n) (λ x. LooseItems n) rest_at reads_effect (λ x. next)

  first_spells : (effects : List Effect) → FitItems (suc n) effects → spell_two (first_item effects) ≡ spelled_items effects
  first_spells [] f = absurd (omega (arith, f.0))
  first_spells (x ∷ effects) f = sym (flat_map-cons spelled_effect x effects)

  first_fits : (effects : List Effect) → FitItems (suc n) effects → fits_two (first_item effects)
  first_fits [] f = absurd (omega (arith, f.0))
  first_fits (x ∷ effects) f = (f.1.0, (omega (arith, f.0), f.1.1))

  first_back : (effects : List Effect) → FitItems (suc n) effects → join_items (first_item effects) ≡ effects
  first_back [] f = absurd (omega (arith, f.0))
  first_back (x ∷ effects) f = refl

  reads_more : ReadsBy spelled_items (FitItems (suc n)) (LooseItems (suc n)) (mapped join_items (after effect_at rest_at))
  reads_more = reads_made join_items first_item spell_two fits_two loose_two spelled_items (FitItems (suc n)) (LooseItems (suc n)) (after effect_at rest_at)
      (λ p f. flat_map-cons spelled_effect p.0 p.1)
      (λ p f. (ap suc f.1.0, (f.0, f.1.1)))
      (λ p f. (ap suc f.1.0, (f.0, f.1.1)))
      first_spells first_fits first_back reads_two

  more_same : (bytes : List ℕ) → items_at (suc n) bytes ≡ mapped join_items (after effect_at rest_at) bytes
  unfolding items_at
  more_same bytes = same_cons (effect_at bytes) rest_at

  pub reads_items_suc : ReadsBy spelled_items (FitItems (suc n)) (LooseItems (suc n)) (items_at (suc n))
  reads_items_suc = reads_same spelled_items (FitItems (suc n)) (LooseItems (suc n)) (mapped join_items (after effect_at rest_at)) (items_at (suc n)) more_same reads_more

reads_items_zero : ReadsBy spelled_items (FitItems 0) (LooseItems 0) (items_at 0)
unfolding items_at
reads_items_zero = record {
  takes = λ bytes x h e. subst (λ (z : List Effect × List ℕ). Takes bytes (spelled_items z.0) z.1 × FitItems 0 z.0) (ok_is ([], bytes) x e) (record { parts = refl; rest_bytes = h }, (refl, tt));
  again = λ x rest f. subst (λ (z : List Effect). zero_at (spelled_items z ++ rest) ≡ Ok (z, rest)) (sym (nil_of x f.0)) refl;
  stuck = λ bytes f h e. absurd cc;
  some = ([], [], (refl, tt), refl);
  bytes = λ x f. subst (λ (z : List Effect). AreBytes (spelled_items z)) (sym (nil_of x f.0)) tt;
  loosen = λ x f. subst (λ (z : List Effect). LooseItems 0 z) (sym (nil_of x f.0)) (refl, tt);
}
  where
    zero_at : List ℕ → Part (List Effect)
    zero_at bytes = Ok ([], bytes)

reads_items : (n : ℕ) → ReadsBy spelled_items (FitItems n) (LooseItems n) (items_at n)
reads_items zero = reads_items_zero
reads_items (suc n) = reads_items_suc n (reads_items n)

pub reads_effects : ReadsBy spelling_of_effects FitEffects AreLooseEffects effects_at
reads_effects = reads_counted spelled_items (λ effects. AllByRecursion FitsEffect effects) (λ effects. AllByRecursion IsLooseEffect effects) items_at reads_items

-- ---- whole lists

abbrev whole : List Effect × List ℕ → Result (List Effect) Fault
whole x = cond (eqb (length x.1) 0) (Ok x.0) (Err (record { left = length x.1; kind = bad.Tag }))

guard_ended : (b : Bool) (d : Fault) (x y : List Effect) → cond b (Ok x) (Err d) ≡ Ok y → (b ≡ true) × (x ≡ y)
guard_ended true d x y e = (refl, cc)
guard_ended false d x y e = absurd cc

guard_left : (b : Bool) (d f : Fault) (x : List Effect) → cond b (Ok x) (Err d) ≡ Err f → (b ≡ false) × (d ≡ f)
guard_left true d f x e = absurd cc
guard_left false d f x e = (refl, cc)

-- what is read is spelled so, all of it
pub list_takes : (bytes : List ℕ) (effects : List Effect) → AreBytes bytes → list_of bytes ≡ Ok effects → FitEffects effects × (bytes ≡ spelling_of_effects effects)
list_takes bytes effects h e =
    let a = bind_ok (effects_at bytes) whole effects e in
    let g = guard_ended (eqb (length a.0.1) 0) (record { left = length a.0.1; kind = bad.Tag }) a.0.0 effects a.2 in
    let t = reads_effects.takes bytes a.0 h a.1 in
    let nothing : a.0.1 ≡ [] = nil_from_length a.0.1 (eqb-true _ _ g.0) in
    subst (λ (v : List Effect). FitEffects v × (bytes ≡ spelling_of_effects v)) g.1 (t.1, t.0.parts ∙ ap (λ (r : List ℕ). spelling_of_effects a.0.0 ++ r) nothing ∙ append-nil (spelling_of_effects a.0.0))

-- what is spelled so is read
pub list_again : (effects : List Effect) → FitEffects effects → list_of (spelling_of_effects effects) ≡ Ok effects
list_again effects f = ap (λ (r : Part (List Effect)). r >>= whole) (ap effects_at (sym (append-nil (spelling_of_effects effects))) ∙ reads_effects.again effects [] f)

-- where a fault stands
first_bad : (bytes : List ℕ) (left : ℕ) → IsStuckBy spelling_of_effects FitEffects AreLooseEffects bytes left → (left ≤ length bytes) × IsFirstBad bytes (length bytes - left)
first_bad bytes left s =
    let len : length bytes ≡ length s.front + length s.back = ap length s.parts ∙ length-append s.front s.back in
    let at : length bytes - left ≡ length s.front = omega (arith, s.left_is) in
    let front : take (length bytes - left) bytes ≡ s.front = rw at (ap (take (length s.front)) s.parts ∙ take_at s.front s.back (length s.front) refl) in (
      omega (arith, s.left_is),
      record {
        within = omega arith;
        begins = subst BeginsLooseList (sym front) s.begins;
        ends = λ more. first_ends bytes s.front s.back (length bytes - left) at s.parts more s.ends;
      },
    )
  where
    first_ends : (bytes front back : List ℕ) (at : ℕ) → at ≡ length front → bytes ≡ front ++ back → at < length bytes → ((b : ℕ) (more : List ℕ) → back ≡ b ∷ more → ¬ (Begins spelling_of_effects FitEffects (front ++ b ∷ []))) → ¬ (BeginsList (take (at + 1) bytes))
    first_ends bytes front [] at e parts more ends = absurd (omega (arith, ap length parts, length-append front []))
    first_ends bytes front (b ∷ back) at e parts more ends =
        let all : bytes ≡ (front ++ b ∷ []) ++ back = parts ∙ sym (append_assoc front (b ∷ []) back) in
        let len : length (front ++ b ∷ []) ≡ at + 1 = omega (arith, length-append front (b ∷ [])) in
        let cut : take (at + 1) bytes ≡ front ++ b ∷ [] = ap (take (at + 1)) all ∙ take_at (front ++ b ∷ []) back (at + 1) len in
        subst (λ (t : List ℕ). ¬ (BeginsList t)) (sym cut) (ends b back refl)

-- bytes behind a whole list
behind_stuck : (bytes : List ℕ) (x : List Effect × List ℕ) (f : Fault) → AreBytes bytes → effects_at bytes ≡ Ok x → whole x ≡ Err f → IsStuckBy spelling_of_effects FitEffects AreLooseEffects bytes f.left
behind_stuck bytes x f h e d =
    let t = reads_effects.takes bytes x h e in
    let g = guard_left (eqb (length x.1) 0) (record { left = length x.1; kind = bad.Tag }) f x.0 d in
    record {
      front = spelling_of_effects x.0;
      back = x.1;
      parts = t.0.parts;
      left_is = ap (λ (k : Fault). k.left) g.1;
      begins = (x.0, [], reads_effects.loosen x.0 t.1, sym (append-nil (spelling_of_effects x.0)));
      ends = λ b more k q.
          let split : spelling_of_effects q.0 ++ [] ≡ spelling_of_effects x.0 ++ (b ∷ q.1) = append-nil (spelling_of_effects q.0) ∙ q.3 ∙ append_assoc (spelling_of_effects x.0) (b ∷ []) q.1 in
          let same : done (q.0, []) ≡ done (x.0, b ∷ q.1) = sym (reads_effects.again q.0 [] q.2) ∙ ap effects_at split ∙ reads_effects.again x.0 (b ∷ q.1) t.1 in
          let rest : [] ≡ b ∷ q.1 = ap (λ (z : List Effect × List ℕ). z.1) (ok_is (q.0, []) (x.0, b ∷ q.1) same) in
          absurd (omega (arith, ap length rest));
    }

pub list_stuck : (bytes : List ℕ) (f : Fault) → AreBytes bytes → list_of bytes ≡ Err f → (f.left ≤ length bytes) × IsFirstBad bytes (length bytes - f.left)
list_stuck bytes f h e = elim (bind_err (effects_at bytes) whole f e) [
  | inl d ↦ first_bad bytes f.left (reads_effects.stuck bytes f h d)
  | inr p ↦ first_bad bytes f.left (behind_stuck bytes p.0 f h p.1 p.2)
]

-- where a list stands, there is no fault
pub no_fault : {A : Type 0} (bytes : List ℕ) (f : Fault) (effects : List Effect) → FitEffects effects → bytes ≡ spelling_of_effects effects → list_of bytes ≡ Err f → A
no_fault bytes f effects fit e r = absurd (clash (list_of bytes) effects f (ap list_of e ∙ list_again effects fit) r)
  where
    clash : (r : Result (List Effect) Fault) (x : List Effect) (d : Fault) → r ≡ Ok x → r ≡ Err d → ⊥
    clash r x d p q = cc

pub list_is : (bytes : List ℕ) (read effects : List Effect) → FitEffects effects → bytes ≡ spelling_of_effects effects → list_of bytes ≡ Ok read → read ≡ effects
list_is bytes read effects fit e r = same (list_of bytes) read effects r (ap list_of e ∙ list_again effects fit)
  where
    same : (r : Result (List Effect) Fault) (x y : List Effect) → r ≡ Ok x → r ≡ Ok y → x ≡ y
    same r x y p q = cc
