-- Entities that go.
use Rattle.std.proofs.Common.{◌≡◌, ℕ, ◌==◌, true, List, [], ◌∷◌, ◌++◌, refl, ap, sym, ◌∙◌, inl, inr, arith, append_assoc, subst, drop, get_or, length, ◌<◌, ◌+◌}
use Rattle.std.specs.Prelude.{filter, flat_map}
use Rattle.std.proofs.lemmas.Bool.{cases_Bool}
use Rattle.std.proofs.lemmas.Bool.Decides.{nat_tests}
use Rattle.std.proofs.lemmas.List.{drop_more}
use Rattle.router_state.specs.State.{State}
use Rattle.router_state.specs.Contexts.{activities_of}
use Rattle.router_state.specs.Changes.{after_change, after_changes}
use Rattle.router_state.specs.declared.change.Change.{Change}
use Rattle.router_state.specs.declared.change.Change.TheVariants as changes
use Rattle.router_state.specs.declared.rows.Link.{Link}
use Rattle.router_stores.specs.Making.{CanMake, CanMakeAll}
use Rattle.router_steps.specs.Going.{all_removed, changes_of_all_removed, changes_of_removal, lines_of_all_removed, lines_of_removed, removed}
use Rattle.router_steps.specs.Moves.{changes_of_detaching}
use Rattle.router_moves.specs.Cuts.{detachings}

-- changes in two parts
both : (cs ds : List Change) (s : State) → after_changes (cs ++ ds) s ≡ after_changes ds (after_changes cs s)
both [] ds s = refl
both (c ∷ cs) ds s = both cs ds (after_change c s)

pub one_cut : (e a : ℕ) (more : List ℕ) (s : State) → after_changes (detachings e more) (after_changes (detachings e (a ∷ [])) s) ≡ after_changes (detachings e (a ∷ more)) s
one_cut e a more s = refl

number_is : (n e : ℕ) → (n == e) ≡ true → n ≡ e
number_is n e same = grind (arith, nat_tests)

detached_by : (e : ℕ) (links : List Link) → flat_map changes_of_detaching (filter (λ l. l.entity.0 == e) links) ≡ detachings e (activities_of links e)
detached_by e [] = refl
detached_by e (l ∷ links) = elim (cases_Bool (l.entity.0 == e)) [
  | inl mine ↦ let is = number_is l.entity.0 e mine in rw (mine, is) (ap (λ rest. changes.Detach (record { 0 = e }) l.activity ∷ changes.ForgetMasks (record { 0 = e }) l.activity ∷ rest) (detached_by e links))
  | inr other ↦ rw other (detached_by e links)
]

pub removal_is : (s : State) (e : ℕ)
    → removed s e ≡ after_change (changes.Remove (record { 0 = e })) (after_change (changes.ForgetFields (record { 0 = e })) (after_changes (detachings e (activities_of s.links e)) s))
removal_is s e =
    both (flat_map changes_of_detaching (filter (λ l. l.entity.0 == e) s.links)) (changes.ForgetFields (record { 0 = e }) ∷ changes.Remove (record { 0 = e }) ∷ []) s
    ∙ ap (λ cs. after_change (changes.Remove (record { 0 = e })) (after_change (changes.ForgetFields (record { 0 = e })) (after_changes cs s))) (detached_by e s.links)

pub told_removed : (lines more : List (List ℕ)) (line : List ℕ) → (lines ++ more) ++ line ∷ [] ≡ lines ++ (more ++ line ∷ [])
told_removed lines more line = simp append_assoc

-- changes that can be made, in two parts

can_first : (cs ds : List Change) (s : State) → CanMakeAll (cs ++ ds) s → CanMakeAll cs s
can_first [] ds s can = tt
can_first (c ∷ cs) ds s can = (can.0, can_first cs ds (after_change c s) can.1)

can_rest : (cs ds : List Change) (s : State) → CanMakeAll (cs ++ ds) s → CanMakeAll ds (after_changes cs s)
can_rest [] ds s can = can
can_rest (c ∷ cs) ds s can = can_rest cs ds (after_change c s) can.1

pub removal_can : (s : State) (e : ℕ) → CanMakeAll (changes_of_removal s e) s
    → CanMake (changes.Remove (record { 0 = e })) (after_change (changes.ForgetFields (record { 0 = e })) (after_changes (detachings e (activities_of s.links e)) s))
removal_can s e can =
    let last = can_rest (flat_map changes_of_detaching (filter (λ l. l.entity.0 == e) s.links)) (changes.ForgetFields (record { 0 = e }) ∷ changes.Remove (record { 0 = e }) ∷ []) s can in
    subst (λ (cs : List Change). CanMake (changes.Remove (record { 0 = e })) (after_change (changes.ForgetFields (record { 0 = e })) (after_changes cs s))) (detached_by e s.links) last.1.0

first_can : (e : ℕ) (es : List ℕ) (s : State) → CanMakeAll (changes_of_all_removed (e ∷ es) s) s → CanMakeAll (changes_of_removal s e) s
first_can e es s can = can_first (changes_of_removal s e) (changes_of_all_removed es (removed s e)) s can

rest_can : (e : ℕ) (es : List ℕ) (s : State) → CanMakeAll (changes_of_all_removed (e ∷ es) s) s → CanMakeAll (changes_of_all_removed es (removed s e)) (removed s e)
rest_can e es s can = can_rest (changes_of_removal s e) (changes_of_all_removed es (removed s e)) s can

-- the same where so many have gone

pub first_at : (es : List ℕ) (i : ℕ) (s : State) → i < length es → CanMakeAll (changes_of_all_removed (drop i es) s) s → CanMakeAll (changes_of_removal s (get_or es i 0)) s
first_at es i s within can = first_can (get_or es i 0) (drop (i + 1) es) s (subst (λ (ns : List ℕ). CanMakeAll (changes_of_all_removed ns s) s) (drop_more es i 0 within) can)

pub rest_at : (es : List ℕ) (i : ℕ) (s t : State) → i < length es → CanMakeAll (changes_of_all_removed (drop i es) s) s → t ≡ removed s (get_or es i 0) → CanMakeAll (changes_of_all_removed (drop (i + 1) es) t) t
rest_at es i s t within can is =
    let rest = rest_can (get_or es i 0) (drop (i + 1) es) s (subst (λ (ns : List ℕ). CanMakeAll (changes_of_all_removed ns s) s) (drop_more es i 0 within) can) in
    subst (λ (u : State). CanMakeAll (changes_of_all_removed (drop (i + 1) es) u) u) (sym is) rest

pub state_at : (es : List ℕ) (i : ℕ) (s t u : State) → i < length es → t ≡ removed s (get_or es i 0) → all_removed (drop i es) s ≡ u → all_removed (drop (i + 1) es) t ≡ u
state_at es i s t u within is all = ap (all_removed (drop (i + 1) es)) is ∙ (ap (λ (ns : List ℕ). all_removed ns s) (sym (drop_more es i 0 within)) ∙ all)

pub lines_at : (es : List ℕ) (i : ℕ) (s t : State) (lines more all : List (List ℕ)) → i < length es → t ≡ removed s (get_or es i 0) → more ≡ lines ++ lines_of_removed s (get_or es i 0)
    → lines ++ lines_of_all_removed (drop i es) s ≡ all → more ++ lines_of_all_removed (drop (i + 1) es) t ≡ all
lines_at es i s t lines more all within is told whole =
    let m = get_or es i 0 in
    let rest = drop (i + 1) es in
    ap (λ (ls : List (List ℕ)). ls ++ lines_of_all_removed rest t) told
    ∙ (append_assoc lines (lines_of_removed s m) (lines_of_all_removed rest t)
    ∙ (ap (λ (u : State). lines ++ (lines_of_removed s m ++ lines_of_all_removed rest u)) is
    ∙ (ap (λ (ns : List ℕ). lines ++ lines_of_all_removed ns s) (sym (drop_more es i 0 within)) ∙ whole)))
