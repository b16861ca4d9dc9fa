-- The mask of one event among all that are masked.
use Rattle.std.proofs.Common.{◌≡◌, ℕ, Bool, true, false, ◌&&◌, ◌||◌, not, List, [], ◌∷◌, ◌++◌, Option, Some, None, refl, ap, ◌∙◌, sym}
use Rattle.std.specs.Prelude.{bytes_eq, if◌then◌else◌}
use Rattle.std.specs.List.{list_any}
use Rattle.std.proofs.lemmas.Slice.Eq.{bytes_eq-Decides}
use Rattle.std.proofs.lemmas.Map.Views.{any-filter_same}
use Rattle.slee_effect.specs.declared.reference.Ref.{Ref}
use Rattle.slee_effect.specs.declared.value.Val.{Val}
use Rattle.slee_effect.specs.declared.effect.Effect.{Effect}
use Rattle.slee_effect.specs.declared.effect.Effect.TheVariants as ef
use Rattle.script_meaning.specs.declared.outcome.FailKind.TheVariants as f
use Rattle.script_meaning.specs.Overlay.{overlay, same_ref, activities_by, masks_after, mask_set, or_masks}
use Rattle.script_meaning.specs.Running.{State, Run, give, break}
use Rattle.script_meaning.specs.Terms.{is_masked}
use Rattle.script_meaning.specs.Values.{flag}
use Rattle.script_run_reads.specs.Done.{done}
use Rattle.script_run_reads.specs.Masked.{mask_in, mask_after, or_first, set_where}
use Rattle.script_run_reads.proofs.OverlayLemmas.{laid}

one_more : (b m : Bool) → Some (b || m) ≡ set_where b true (Some m)
one_more true m = refl
one_more false m = refl

one_less : (b m : Bool) → Some (not b && m) ≡ set_where b false (Some m)
one_less true m = refl
one_less false m = refl

alike : (event name : List ℕ) (k : List ℕ) → bytes_eq event k ≡ true → not (bytes_eq k name) ≡ not (bytes_eq event name)
alike event name k same = ap (λ z. not (bytes_eq z name)) (sym ((bytes_eq-Decides event k).0 same))

-- setting a mask
set_one : (event name : List ℕ) (on : Bool) (x : Option (List (List ℕ))) → mask_in event (mask_set name on x) ≡ set_where (bytes_eq event name) on (mask_in event x)
set_one event name on None = refl
set_one event name true (Some names) = one_more (bytes_eq event name) (list_any (bytes_eq event) names)
set_one event name false (Some names) = ap (λ b. Some b) (any-filter_same (bytes_eq event) (λ other. not (bytes_eq other name)) (not (bytes_eq event name)) (alike event name) names) ∙ one_less (bytes_eq event name) (list_any (bytes_eq event) names)

-- attaching
attach_one : (event : List ℕ) (first : List (List ℕ)) (x : Option (List (List ℕ))) → mask_in event (or_masks first x) ≡ or_first (list_any (bytes_eq event) first) (mask_in event x)
attach_one event first None = refl
attach_one event first (Some names) = refl

chosen : (event : List ℕ) (b : Bool) (x y : Option (List (List ℕ))) → mask_in event (if b then x else y) ≡ if b then mask_in event x else mask_in event y
chosen event true x y = refl
chosen event false x y = refl

-- what an effect does to one of the masks
after_one : (event : List ℕ) (first : List (List ℕ)) (e a : Ref) (eff : Effect) (x : Option (List (List ℕ))) → mask_in event (masks_after first e a 0 eff x) ≡ mask_after event (list_any (bytes_eq event) first) e a eff (mask_in event x)
after_one event first e a (ef.Attach p q) x = chosen event (same_ref p e && same_ref q a) (or_masks first x) x ∙ ap (λ z. if same_ref p e && same_ref q a then z else mask_in event x) (attach_one event first x)
after_one event first e a (ef.Detach p q) x = chosen event (same_ref p e && same_ref q a) None x
after_one event first e a (ef.SetMask p q name on) x = chosen event (same_ref p e && same_ref q a) (mask_set name on x) x ∙ ap (λ z. if same_ref p e && same_ref q a then z else mask_in event x) (set_one event name on x)
after_one event first e a other x = refl

after_all : (event : List ℕ) (first : List (List ℕ)) (e a : Ref) (es : List Effect) (x : Option (List (List ℕ))) → mask_in event (done (masks_after first e a 0) es x) ≡ done (mask_after event (list_any (bytes_eq event) first) e a) es (mask_in event x)
after_all event first e a [] x = refl
after_all event first e a (eff ∷ es) x = after_all event first e a es (masks_after first e a 0 eff x) ∙ ap (λ z. done (mask_after event (list_any (bytes_eq event) first) e a) es z) (after_one event first e a eff x)

masks_same : (first : List (List ℕ)) (e a : Ref) (n : ℕ) (eff : Effect) (x : Option (List (List ℕ))) → masks_after first e a n eff x ≡ masks_after first e a 0 eff x
masks_same first e a n (ef.Attach p q) x = refl
masks_same first e a n (ef.Detach p q) x = refl
masks_same first e a n (ef.SetMask p q r s) x = refl
masks_same first e a n other x = refl

-- effects of two lists, one behind the other
mask_laid : (event : List ℕ) (first : List (List ℕ)) (e a : Ref) (xs ys : List Effect) (x : Option (List (List ℕ))) → mask_in event (overlay activities_by (masks_after first e a) (xs ++ ys) x) ≡ done (mask_after event (list_any (bytes_eq event) first) e a) ys (done (mask_after event (list_any (bytes_eq event) first) e a) xs (mask_in event x))
mask_laid event first e a xs ys x = ap (mask_in event) (laid activities_by (masks_after first e a) (masks_same first e a) xs ys x) ∙ (after_all event first e a ys (done (masks_after first e a 0) xs x) ∙ ap (done (mask_after event (list_any (bytes_eq event) first) e a) ys) (after_all event first e a xs x))

-- the same in the steps in which it is read
pub mask_read : (event : List ℕ) (first : List (List ℕ)) (e a : Ref) (xs ys own : List Effect) (x : Option (List (List ℕ))) (attached : Bool) (begun before found : Option Bool) → attached ≡ list_any (bytes_eq event) first → begun ≡ mask_in event x → before ≡ done (mask_after event attached e a) xs begun → own ≡ ys → found ≡ done (mask_after event attached e a) own before → found ≡ mask_in event (overlay activities_by (masks_after first e a) (xs ++ ys) x)
mask_read event first e a xs ys own x attached begun before found is_attached is_begun is_before is_own is_found =
    let here : found ≡ done (mask_after event attached e a) ys before = is_found ∙ ap (λ z. done (mask_after event attached e a) z before) is_own in
    let past : before ≡ done (mask_after event attached e a) xs (mask_in event x) = is_before ∙ ap (done (mask_after event attached e a) xs) is_begun in
    let both : found ≡ done (mask_after event attached e a) ys (done (mask_after event attached e a) xs (mask_in event x)) = here ∙ ap (done (mask_after event attached e a) ys) past in
    let laid_out : found ≡ done (mask_after event (list_any (bytes_eq event) first) e a) ys (done (mask_after event (list_any (bytes_eq event) first) e a) xs (mask_in event x)) = both ∙ ap (λ b. done (mask_after event b e a) ys (done (mask_after event b e a) xs (mask_in event x))) is_attached in
    laid_out ∙ sym (mask_laid event first e a xs ys x)

-- what is told of one mask
abbrev pub tell : Option Bool → Run Val
tell None = break f.Detached
tell (Some b) = give (flag b)

pub mask_told : (event : List ℕ) (names : Option (List (List ℕ))) (st : State) → is_masked event names st ≡ tell (mask_in event names) st
mask_told event None st = refl
mask_told event (Some names) st = refl
