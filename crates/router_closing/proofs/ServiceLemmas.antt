-- Services after changes, closed one by one.
use Rattle.std.proofs.Common.{◌≡◌, ℕ, zero, suc, ◌+◌, ◌-◌, ◌<◌, ◌==◌, true, false, not, List, [], ◌∷◌, ◌++◌, Some, option_map, flat_map, length, slice_get, codes, refl, sym, ◌∙◌, ap, subst, inl, inr, arith, if◌then◌else◌, nat_lt}
use Rattle.std.specs.Prelude.{◌||◌, ◌&&◌}
use Rattle.std.specs.List.{fold, list_any}
use Rattle.std.specs.Option.{option_map_or}
use Rattle.std.proofs.lemmas.Bool.{cases_Bool, cond_both}
use Rattle.std.proofs.lemmas.Bool.Decides.{nat_tests}
use Rattle.deploy_model.specs.Deployed.{Deployed, service_key}
use Rattle.router_state.specs.State.{State}
use Rattle.router_state.specs.Changes.{after_change, after_changes}
use Rattle.router_state.specs.Closed.{has_tree, is_stopped}
use Rattle.router_state.specs.Ordered.{IsOrdered}
use Rattle.router_state.specs.Services.{with_service}
use Rattle.router_state.specs.Trees.{is_root_of}
use Rattle.router_state.specs.declared.change.Change.{Change}
use Rattle.router_state.specs.declared.change.Change.TheVariants as changes
use Rattle.router_state.specs.declared.rows.Entity.{Entity}
use Rattle.router_state.specs.declared.rows.Service.{Service}
use Rattle.router_state.specs.declared.rows.ServiceState.{ServiceState}
use Rattle.router_state.specs.declared.rows.ServiceState.TheVariants as states
use Rattle.router_steps.specs.Closing.{close_service, close_services, lines_of_services, without_stopped}
use Rattle.router_steps.specs.Lines.{service_line}
use Rattle.router_stores.specs.Making.{CanMakeAll}
use Rattle.router_draft.specs.Drafts.{AreTrees}
use Rattle.router_draft.proofs.ChangeLemmas.{through}
use Rattle.router_laws_closing.specs.Loose.{is_member}
use Rattle.router_closing.specs.Services.{close_service_at, close_services_from, has_new_root, lines_of_service_at, lines_of_services_from, removed_by, service_after}
use Rattle.router_closing.proofs.MakingLemmas.{all_keep, numbered}
use Rattle.router_closing.proofs.TreeLemmas.{tree_is}

-- the row of a service

put_at : (rows : List Service) (m n : ℕ) (state : ServiceState) (a : ℕ) → slice_get (with_service rows m state a) n ≡ (if m == n then option_map (λ row. record { state = state; activity = record { 0 = a } }) (slice_get rows n) else slice_get rows n)
put_at [] m n state a = elim (cases_Bool (m == n)) [
  | inl same ↦ rw same refl
  | inr other ↦ rw other refl
]
put_at (row ∷ rows) zero zero state a = refl
put_at (row ∷ rows) zero (suc n) state a = let other : (0 == suc n) ≡ false = grind (arith, nat_tests) in rw other refl
put_at (row ∷ rows) (suc m) zero state a = let other : (suc m == 0) ≡ false = grind (arith, nat_tests) in rw other refl
put_at (row ∷ rows) (suc m) (suc n) state a = let same : (suc m == suc n) ≡ (m == n) = grind (arith, nat_tests) in rw same (put_at rows m n state a)

service_is : (n : ℕ) (c : Change) (s : State) → slice_get (after_change c s).services n ≡ service_after c n (slice_get s.services n)
service_is n (changes.Service m state a) s = put_at s.services m n state a.0
service_is n _ s = refl

pub service_laid : (cs : List Change) (s : State) (n : ℕ) → slice_get (after_changes cs s).services n ≡ fold (λ was c. service_after c n was) (slice_get s.services n) cs
service_laid cs s n = through (λ (t : State). slice_get t.services n) (λ was c. service_after c n was) (service_is n) cs s

-- a service that is found is there
pub within : (rows : List Service) (n : ℕ) (row : Service) → slice_get rows n ≡ Some row → n < length rows
within [] n row is = absurd (cc)
within (x ∷ xs) zero row is = omega arith
within (x ∷ xs) (suc n) row is = let more = within xs n row is in omega (arith, more)

pub there_at : (n m : ℕ) → n < m → nat_lt n m ≡ true
there_at n m low = grind (arith, nat_tests)

same_deployment : (c : Change) (s : State) → (after_change c s).deployment ≡ s.deployment
same_deployment (changes.Clock to) s = refl
same_deployment _ s = refl

deployment_laid : (cs : List Change) (s : State) → (after_changes cs s).deployment ≡ s.deployment
deployment_laid [] s = refl
deployment_laid (c ∷ cs) s = deployment_laid cs (after_change c s) ∙ same_deployment c s

pub key_laid : (cs : List Change) (s : State) (n : ℕ) → service_key (after_changes cs s).deployment n ≡ service_key s.deployment n
key_laid cs s n = ap (λ (d : Deployed). service_key d n) (deployment_laid cs s)

-- whether a service has a tree

pub old_tree : (s : State) (cs : List Change) (n : ℕ) (gone : List ℕ) → IsOrdered s → AreTrees s → CanMakeAll cs s → ((m : ℕ) → is_member gone m ≡ is_member (flat_map removed_by cs) m)
    → list_any (λ (row : Entity). is_root_of n row.stem && not (is_member gone row.number.0)) s.entities ≡ true → has_tree (after_changes cs s).entities n ≡ true
old_tree s cs n gone order trees can have some = sym (tree_is cs s n gone order (numbered s trees) (all_keep cs s can) have) ∙ ap (λ b. b || has_new_root (after_changes cs s).entities n s.next_entity cs) some

pub new_tree : (s : State) (cs : List Change) (n : ℕ) (gone : List ℕ) → IsOrdered s → AreTrees s → CanMakeAll cs s → ((m : ℕ) → is_member gone m ≡ is_member (flat_map removed_by cs) m)
    → list_any (λ (row : Entity). is_root_of n row.stem && not (is_member gone row.number.0)) s.entities ≡ false → has_new_root (after_changes cs s).entities n s.next_entity cs ≡ has_tree (after_changes cs s).entities n
new_tree s cs n gone order trees can have none = ap (λ b. b || has_new_root (after_changes cs s).entities n s.next_entity cs) (sym none) ∙ tree_is cs s n gone order (numbered s trees) (all_keep cs s can) have

-- one service more

pub services_on : (n count : ℕ) (s t u : State) → n < count → t ≡ close_service_at n s → close_services_from n (count - n) s ≡ u → close_services_from (n + 1) (count - (n + 1)) t ≡ u
services_on n count s t u low one whole =
    let more : count - n ≡ suc (count - (n + 1)) = omega (arith, low) in
    let split : close_services_from n (count - n) s ≡ close_services_from (n + 1) (count - (n + 1)) (close_service_at n s) = rw more refl in
    ap (λ (v : State). close_services_from (n + 1) (count - (n + 1)) v) one ∙ sym split ∙ whole

joined : {X : Type 0} (xs ys zs : List X) → (xs ++ ys) ++ zs ≡ xs ++ (ys ++ zs)
joined [] ys zs = refl
joined (x ∷ xs) ys zs = ap (λ more. x ∷ more) (joined xs ys zs)

pub lines_on : (n count : ℕ) (s t : State) (lines more whole : List (List ℕ)) → n < count → t ≡ close_service_at n s → more ≡ lines ++ lines_of_service_at n s → lines ++ lines_of_services_from n (count - n) s ≡ whole
    → more ++ lines_of_services_from (n + 1) (count - (n + 1)) t ≡ whole
lines_on n count s t lines more whole low one told all =
    let rest : count - n ≡ suc (count - (n + 1)) = omega (arith, low) in
    let split : lines_of_services_from n (count - n) s ≡ lines_of_service_at n s ++ lines_of_services_from (n + 1) (count - (n + 1)) (close_service_at n s) = rw rest refl in
    ap (λ (v : State). more ++ lines_of_services_from (n + 1) (count - (n + 1)) v) one
    ∙ ap (λ xs. xs ++ lines_of_services_from (n + 1) (count - (n + 1)) (close_service_at n s)) told
    ∙ joined lines (lines_of_service_at n s) (lines_of_services_from (n + 1) (count - (n + 1)) (close_service_at n s))
    ∙ ap (λ xs. lines ++ xs) (sym split) ∙ all

-- all services, each by its row

get_behind : (front : List Service) (row : Service) (rows : List Service) → slice_get (front ++ row ∷ rows) (length front) ≡ Some row
get_behind [] row rows = refl
get_behind (x ∷ xs) row rows = get_behind xs row rows

put_behind : (front : List Service) (row : Service) (rows : List Service) (state : ServiceState) (a : ℕ)
    → with_service (front ++ row ∷ rows) (length front) state a ≡ front ++ record { state = state; activity = record { 0 = a } } ∷ rows
put_behind [] row rows state a = refl
put_behind (x ∷ xs) row rows state a = ap (λ more. x ∷ more) (put_behind xs row rows state a)

longer : (front : List Service) (row : Service) → length (front ++ row ∷ []) ≡ length front + 1
longer [] row = refl
longer (x ∷ front) row = let more = longer front row in omega (arith, more)

-- the services in front are done, and these are left
one_left : (front : List Service) (row : Service) (rows : List Service) (s : State) → s.services ≡ front ++ row ∷ rows
    → (close_service_at (length front) s ≡ close_service (length front) row s)
    × (lines_of_service_at (length front) s ≡ (if is_stopped s.entities (length front) row then service_line (service_key s.deployment (length front)) (codes "inactive") ∷ [] else []))
    × ((new : Service) × ((close_service (length front) row s).services ≡ (front ++ new ∷ []) ++ rows))
one_left front row rows s list =
    let found : slice_get s.services (length front) ≡ Some row = ap (λ xs. slice_get xs (length front)) list ∙ get_behind front row rows in (
      ap (λ o. option_map_or (λ (r : Service). close_service (length front) r s) o s) found,
      ap (λ o. option_map_or (λ (r : Service). if is_stopped s.entities (length front) r then service_line (service_key s.deployment (length front)) (codes "inactive") ∷ [] else []) o []) found,
      elim (cases_Bool (is_stopped s.entities (length front) row)) [
        | inl stopped ↦
            let now : Service = record { state = states.Inactive; activity = row.activity } in
            let t = after_change (changes.Service (length front) states.Inactive row.activity) s in
            let closed : close_service (length front) row s ≡ t = rw stopped refl in
            let services : t.services ≡ (front ++ now ∷ []) ++ rows = ap (λ xs. with_service xs (length front) states.Inactive row.activity.0) list ∙ put_behind front row rows states.Inactive row.activity.0 ∙ sym (joined front (now ∷ []) rows) in
            (now, ap (λ (u : State). u.services) closed ∙ services)
        | inr isnt ↦
            let closed : close_service (length front) row s ≡ s = rw isnt refl in
            (row, ap (λ (u : State). u.services) closed ∙ list ∙ sym (joined front (row ∷ []) rows))
      ],
    )

all_left : (front rows : List Service) (s : State) → s.services ≡ front ++ rows → close_services_from (length front) (length rows) s ≡ close_services (length front) rows s
all_left front [] s list = refl
all_left front (row ∷ rows) s list =
    let one = one_left front row rows s list in
    let t = close_service (length front) row s in
    let n = length front in
    let more = all_left (front ++ one.2.0 ∷ []) rows t one.2.1 in
    ap (λ (u : State). close_services_from (n + 1) (length rows) u) one.0
    ∙ subst (λ k. close_services_from k (length rows) t ≡ close_services k rows t) (longer front one.2.0) more

-- a service's line goes by entities and by keys alone
told_same : (n : ℕ) (rows : List Service) (s t : State) → t.entities ≡ s.entities → t.deployment ≡ s.deployment → lines_of_services n rows t ≡ lines_of_services n rows s
told_same n [] s t entities deployment = refl
told_same n (row ∷ rows) s t entities deployment =
    ap (λ es. (if is_stopped es n row then service_line (service_key t.deployment n) (codes "inactive") ∷ [] else []) ++ lines_of_services (n + 1) rows t) entities
    ∙ ap (λ (d : Deployed). (if is_stopped s.entities n row then service_line (service_key d n) (codes "inactive") ∷ [] else []) ++ lines_of_services (n + 1) rows t) deployment
    ∙ ap (λ xs. (if is_stopped s.entities n row then service_line (service_key s.deployment n) (codes "inactive") ∷ [] else []) ++ xs) (told_same (n + 1) rows s t entities deployment)

one_keeps : (n : ℕ) (row : Service) (s : State) → ((close_service n row s).entities ≡ s.entities) × ((close_service n row s).deployment ≡ s.deployment)
one_keeps n row s = cond_both (is_stopped s.entities n row) (after_change (changes.Service n states.Inactive row.activity) s) s (λ (t : State). (t.entities ≡ s.entities) × (t.deployment ≡ s.deployment)) (λ _. (refl, refl)) (λ _. (refl, refl))

all_told : (front rows : List Service) (s : State) → s.services ≡ front ++ rows → lines_of_services_from (length front) (length rows) s ≡ lines_of_services (length front) rows s
all_told front [] s list = refl
all_told front (row ∷ rows) s list =
    let one = one_left front row rows s list in
    let t = close_service (length front) row s in
    let n = length front in
    let more = all_told (front ++ one.2.0 ∷ []) rows t one.2.1 in
    ap (λ xs. xs ++ lines_of_services_from (n + 1) (length rows) (close_service_at n s)) one.1
    ∙ ap (λ (u : State). (if is_stopped s.entities n row then service_line (service_key s.deployment n) (codes "inactive") ∷ [] else []) ++ lines_of_services_from (n + 1) (length rows) u) one.0
    ∙ ap (λ xs. (if is_stopped s.entities n row then service_line (service_key s.deployment n) (codes "inactive") ∷ [] else []) ++ xs)
    (subst (λ k. lines_of_services_from k (length rows) t ≡ lines_of_services k rows t) (longer front one.2.0) more ∙ told_same (n + 1) rows s t (one_keeps n row s).0 (one_keeps n row s).1)

count_after : (c : Change) (s : State) → length (after_change c s).services ≡ length s.services
count_after (changes.Service m state a) s = by s.services m
  where
    by : (rows : List Service) (m : ℕ) → length (with_service rows m state a.0) ≡ length rows
    by [] m = refl
    by (row ∷ rows) zero = refl
    by (row ∷ rows) (suc m) = ap suc (by rows m)
count_after _ s = refl

pub count_laid : (cs : List Change) (s : State) → length (after_changes cs s).services ≡ length s.services
count_laid [] s = refl
count_laid (c ∷ cs) s = count_laid cs (after_change c s) ∙ count_after c s

pub services_close : (cs : List Change) (s : State) → close_services_from 0 (length s.services) (after_changes cs s) ≡ without_stopped (after_changes cs s)
services_close cs s =
    let t = after_changes cs s in
    ap (λ k. close_services_from 0 k t) (sym (count_laid cs s)) ∙ all_left [] t.services t refl

pub services_tell : (cs : List Change) (s : State) → lines_of_services_from 0 (length s.services) (after_changes cs s) ≡ lines_of_services 0 (after_changes cs s).services (after_changes cs s)
services_tell cs s =
    let t = after_changes cs s in
    ap (λ k. lines_of_services_from 0 k t) (sym (count_laid cs s)) ∙ all_told [] t.services t refl

-- the same of a tree, by what each call gives

pub members_of : (cs ds : List Change) (all gone : List ℕ) → ds ≡ cs → all ≡ flat_map removed_by ds → ((m : ℕ) → is_member gone m ≡ is_member all m) → (m : ℕ) → is_member gone m ≡ is_member (flat_map removed_by cs) m
members_of cs ds all gone changes listed same m = same m ∙ ap (λ xs. is_member xs m) (listed ∙ ap (λ d. flat_map removed_by d) changes)
