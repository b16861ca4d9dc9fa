-- How an activity goes, change by change.
use Rattle.std.proofs.Common.{◌≡◌, ℕ, zero, suc, ◌+◌, ◌<◌, ◌≤◌, ◌==◌, true, List, [], ◌∷◌, ◌++◌, map, length, drop, slice_get, Some, None, refl, sym, ◌∙◌, ap, subst, inl, inr, arith, if◌then◌else◌, append-nil}
use Rattle.std.proofs.lemmas.Bool.{cases_Bool}
use Rattle.std.proofs.lemmas.Bool.Decides.{nat_tests}
use Rattle.slee_value.specs.declared.ids.ActivityId.{ActivityId}
use Rattle.router_state.specs.State.{State}
use Rattle.router_state.specs.Changes.{after_change, after_changes}
use Rattle.router_state.specs.Contexts.{links_on}
use Rattle.router_state.specs.declared.change.Change.{Change}
use Rattle.router_state.specs.declared.change.Change.TheVariants as changes
use Rattle.router_state.specs.declared.rows.Link.{Link}
use Rattle.router_state.specs.declared.rows.Service.{Service}
use Rattle.router_steps.specs.Moves.{changes_of_dropping, changes_of_services, dropped}
use Rattle.router_state.specs.Services.{with_service}
use Rattle.router_state.specs.declared.rows.ServiceState.{ServiceState}
use Rattle.router_draft.specs.Drafts.{DraftView, laid}
use Rattle.router_subjects.specs.Drops.{forgetting}

joined : (cs ds : List Change) (s : State) → after_changes (cs ++ ds) s ≡ after_changes ds (after_changes cs s)
joined [] ds s = refl
joined (c ∷ cs) ds s = joined cs ds (after_change c s)

from_next : (services : List Service) (n : ℕ) (row : Service) → slice_get services n ≡ Some row → drop n services ≡ row ∷ drop (suc n) services
from_next [] n row is = absurd cc
from_next (x ∷ xs) zero row is = let same : x ≡ row = cc in rw same refl
from_next (x ∷ xs) (suc n) row is = from_next xs n row is

from_place : (services : List Service) (n : ℕ) (row : Service) → slice_get services n ≡ Some row → drop n services ≡ row ∷ drop (n + 1) services
from_place services n row is =
    let next : suc n ≡ n + 1 = omega arith in
    from_next services n row is ∙ ap (λ (m : ℕ). row ∷ drop m services) next

-- the services from a place on, one after another
pub one_service : (a n : ℕ) (services : List Service) (row : Service) (s t : State) → slice_get services n ≡ Some row → t ≡ after_changes (changes_of_services a n (row ∷ [])) s
    → after_changes (changes_of_services a n (drop n services)) s ≡ after_changes (changes_of_services a (n + 1) (drop (n + 1) services)) t
one_service a n services row s t is one =
    let own = if row.activity.0 == a then changes.Service n row.state (record { 0 = 0 }) ∷ [] else [] in
    rw (from_place services n row is)
    (joined own (changes_of_services a (n + 1) (drop (n + 1) services)) s
    ∙ ap (λ (u : State). after_changes (changes_of_services a (n + 1) (drop (n + 1) services)) u) (ap (λ (cs : List Change). after_changes cs s) (sym (append-nil own)) ∙ sym one))

masks_apart : (a : ActivityId) (es : List ℕ) (s : State) → (after_changes (map (forgetting a) es) s).services ≡ s.services
masks_apart a [] s = refl
masks_apart a (e ∷ es) s = masks_apart a es (after_change (forgetting a e) s)

-- the services stay until their turn comes
pub services_stay : (a : ActivityId) (es : List ℕ) (s t u v : State) → t ≡ after_change (changes.Pop a) s → u ≡ after_changes (map (forgetting a) es) t → v ≡ after_change (changes.DropContext a) u → length s.services ≤ length v.services
services_stay a es s t u v popped masked gone =
    let same : v.services ≡ s.services = ap (λ (w : State). w.services) gone ∙ ap (λ (w : State). w.services) masked ∙ masks_apart a es t ∙ ap (λ (w : State). w.services) popped in
    subst (λ (rows : List Service). length s.services ≤ length rows) (sym same) (omega arith)

same_activity : (m n : ℕ) → (m == n) ≡ true → m ≡ n
same_activity m n is = grind (arith, nat_tests)

-- the masks of the attachments to an activity, by the entities
by_entities : (a : ActivityId) (links : List Link) → map (λ (l : Link). changes.ForgetMasks l.entity l.activity) (links_on links a.0) ≡ map (forgetting a) (map (λ (l : Link). l.entity.0) (links_on links a.0))
by_entities a [] = refl
by_entities a (l ∷ ls) = elim (cases_Bool (l.activity.0 == a.0)) [
  | inl own ↦
      let same : l.activity ≡ a = ap (λ (n : ℕ). record { 0 = n }) (same_activity l.activity.0 a.0 own) in
      rw (own, by_entities a ls) (ap (λ (b : ActivityId). changes.ForgetMasks l.entity b ∷ map (forgetting a) (map (λ (l : Link). l.entity.0) (links_on ls a.0))) same)
  | inr other ↦ rw other (by_entities a ls)
]

pub dropped_so : (a : ActivityId) (es : List ℕ) (s t u v w : State) → t ≡ after_change (changes.Pop a) s → es ≡ map (λ (l : Link). l.entity.0) (links_on s.links a.0)
    → u ≡ after_changes (map (forgetting a) es) t → v ≡ after_change (changes.DropContext a) u → w ≡ after_changes (changes_of_services a.0 0 s.services) v → w ≡ dropped t a.0
dropped_so a es s t u v w popped are masked gone left =
    let links : t.links ≡ s.links = ap (λ (x : State). x.links) popped in
    let services : t.services ≡ s.services = ap (λ (x : State). x.services) popped in
    let masks : map (λ (l : Link). changes.ForgetMasks l.entity l.activity) (links_on t.links a.0) ≡ map (forgetting a) es
    = ap (λ (ls : List Link). map (λ (l : Link). changes.ForgetMasks l.entity l.activity) (links_on ls a.0)) links ∙ by_entities a s.links ∙ ap (map (forgetting a)) (sym are) in
    let rest = changes.DropContext a ∷ changes_of_services a.0 0 s.services in
    let whole : changes_of_dropping t a.0 ≡ map (forgetting a) es ++ rest
    = ap (λ (cs : List Change). cs ++ changes.DropContext a ∷ changes_of_services a.0 0 t.services) masks
    ∙ ap (λ (rows : List Service). map (forgetting a) es ++ changes.DropContext a ∷ changes_of_services a.0 0 rows) services in
    sym (ap (λ (cs : List Change). after_changes cs t) whole
    ∙ joined (map (forgetting a) es) rest t
    ∙ ap (after_changes rest) (sym masked)
    ∙ ap (after_changes (changes_of_services a.0 0 s.services)) (sym gone)
    ∙ sym left)

-- each service below their count is there
pub there_at : (services : List Service) (n : ℕ) → n < length services → slice_get services n ≡ None → ⊥
there_at [] n low isnt = absurd (omega (arith, low))
there_at (x ∷ xs) zero low isnt = absurd cc
there_at (x ∷ xs) (suc n) low isnt = there_at xs n (omega (arith, low)) isnt

-- behind all of them none is left
pub none_left : (a : ℕ) (services : List Service) (s : State) → after_changes (changes_of_services a (length services) (drop (length services) services)) s ≡ s
none_left a services s = ap (λ (rows : List Service). after_changes (changes_of_services a (length services) rows) s) (all_dropped services)
  where
    all_dropped : (rows : List Service) → drop (length rows) rows ≡ []
    all_dropped [] = refl
    all_dropped (x ∷ xs) = all_dropped xs

-- a draft without changes leaves the state
pub nothing_laid : (s : State) (d : DraftView) → d.changes ≡ [] → laid s d ≡ s
nothing_laid s d none = ap (λ (cs : List Change). after_changes cs s) none

-- a service that changes leaves as many
as_many : (rows : List Service) (n : ℕ) (state : ServiceState) (a : ℕ) → length (with_service rows n state a) ≡ length rows
as_many [] n state a = refl
as_many (row ∷ rows) zero state a = refl
as_many (row ∷ rows) (suc n) state a = ap (λ (m : ℕ). suc m) (as_many rows n state a)

pub services_left : (s t : State) (n : ℕ) (state : ServiceState) (a : ActivityId) → t ≡ after_change (changes.Service n state a) s → length t.services ≡ length s.services
services_left s t n state a is = ap (λ (u : State). length u.services) is ∙ as_many s.services n state a.0
