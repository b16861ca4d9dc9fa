-- What stands on an activity after changes.
use Rattle.std.proofs.Common.{◌≡◌, ℕ, ◌==◌, Bool, true, false, not, List, [], ◌∷◌, option_map, filter, flat_map, map, refl, sym, ◌∙◌, ap, subst, inl, inr}
use Rattle.std.specs.Prelude.{is_some}
use Rattle.std.specs.List.{list_any}
use Rattle.std.specs.Str.{bytes_eq}
use Rattle.std.proofs.lemmas.Bool.{cases_Bool, and_parts}
use Rattle.std.proofs.lemmas.Slice.Eq.{bytes_eq-Decides}
use Rattle.router_state.specs.State.{State}
use Rattle.router_state.specs.Changes.{after_change, after_changes}
use Rattle.router_state.specs.Contexts.{is_link, is_linked, name_before, named_at}
use Rattle.router_state.specs.Ordered.{IsOrdered}
use Rattle.router_state.specs.Queues.{head_event, is_waiting}
use Rattle.router_state.specs.declared.change.Change.{Change}
use Rattle.router_state.specs.declared.change.Change.TheVariants as changes
use Rattle.router_state.specs.declared.rows.Event.{Event}
use Rattle.router_state.specs.declared.rows.Link.{Link}
use Rattle.router_state.specs.declared.rows.Named.{Named}
use Rattle.router_state.specs.declared.rows.Queued.{Queued}
use Rattle.router_laws.specs.Forest.{IsIn}
use Rattle.router_laws.proofs.ForestLemmas.{in_left, in_right}
use Rattle.router_laws.proofs.ListRules.{filter_in, in_filter}
use Rattle.router_laws_closing.specs.TouchedRoots.{attached_to}
use Rattle.router_laws_closing.proofs.LooseLemmas.{number_same, same_number}
use Rattle.router_laws_closing.proofs.MemberLemmas.{in_flat, in_map, in_put, some_passes}
use Rattle.router_laws_closing.proofs.TouchedActivityLemmas.{name_found}
use Rattle.router_laws_closing.proofs.TouchedRootLemmas.{attached_through, ordered_through}
use Rattle.router_closing.specs.Naming.{name_given, names_given, stands_for}

-- tests that pass together

pub passes_some : {X : Type 0} (p : X → Bool) (x : X) (xs : List X) → IsIn x xs → p x ≡ true → list_any p xs ≡ true
passes_some p x [] is own = elim is [ ]
passes_some p x (y ∷ ys) (inl same) own = let mine : p y ≡ true = ap p (sym same) ∙ own in rw mine refl
passes_some p x (y ∷ ys) (inr more) own = elim (cases_Bool (p y)) [
  | inl mine ↦ rw mine refl
  | inr other ↦ rw other (passes_some p x ys more own)
]

pub both_or_none : (a b : Bool) → (a ≡ true → b ≡ true) → (b ≡ true → a ≡ true) → a ≡ b
both_or_none true b one other = sym (one refl)
both_or_none false true one other = let wrong = other refl in cc
both_or_none false false one other = refl

-- attachments

pub linked_on : (s : State) (cs : List Change) (a : ℕ) → list_any (λ e. is_linked (after_changes cs s).links e a) (attached_to s cs a) ≡ list_any (λ (l : Link). l.activity.0 == a) (after_changes cs s).links
linked_on s cs a =
    let t = after_changes cs s in
    both_or_none (list_any (λ e. is_linked t.links e a) (attached_to s cs a)) (list_any (λ (l : Link). l.activity.0 == a) t.links)
    (λ some.
    let found = some_passes (λ e. is_linked t.links e a) (attached_to s cs a) some in
    let link = some_passes (is_link found.0 a) t.links found.2 in
    passes_some (λ (l : Link). l.activity.0 == a) link.0 t.links link.1 ((and_parts (link.0.entity.0 == found.0) (link.0.activity.0 == a) link.2).1))
    (λ some.
    let found = some_passes (λ (l : Link). l.activity.0 == a) t.links some in
    let there : IsIn found.0.entity.0 (attached_to s cs a) = subst (λ (n : ℕ). IsIn found.0.entity.0 (attached_to s cs n)) (number_same found.0.activity.0 a found.2) (attached_through cs s found.0 found.1) in
    passes_some (λ e. is_linked t.links e a) found.0.entity.0 (attached_to s cs a) there
    (passes_some (is_link found.0.entity.0 a) found.0 t.links found.1 (rw (same_number found.0.entity.0 found.0.entity.0 refl, found.2) refl)))

-- names

abbrev AreNamed : State → List Change → List Named → Type 0
AreNamed s all rows = (row : Named) → IsIn row rows → IsIn row.name (names_given s all row.activity.0)

given_in : (s : State) (all : List Change) (name : List ℕ) (a : ℕ) → IsIn (changes.Bind name (record { 0 = a })) all → IsIn name (names_given s all a)
given_in s all name a is =
    in_right name (map (λ (row : Named). row.name) (filter (λ (row : Named). row.activity.0 == a) s.names)) (flat_map (name_given a) all)
    (in_flat (name_given a) (changes.Bind name (record { 0 = a })) name all is (own name a))
  where
    own : (name : List ℕ) (n : ℕ) → IsIn name (name_given n (changes.Bind name (record { 0 = n })))
    own name n = rw (same_number n n refl) (inl refl)

names_after : (s : State) (all : List Change) (c : Change) (t : State) → IsIn c all → AreNamed s all t.names → AreNamed s all (after_change c t).names
names_after s all (changes.Bind name a) t is known = λ row there.
    elim (in_put name_before (record { name = name; activity = record { 0 = a.0 } }) row t.names there) [
      | inl same ↦ subst (λ (x : Named). IsIn x.name (names_given s all x.activity.0)) (sym same) (given_in s all name a.0 is)
      | inr old ↦ known row old
    ]
names_after s all (changes.Unbind name) t is known = λ row there. known row (in_filter (λ (x : Named). not (bytes_eq x.name name)) row t.names there).0
names_after s all (changes.DropContext a) t is known = λ row there. known row (in_filter (λ (x : Named). not (x.activity.0 == a.0)) row t.names there).0
names_after s all _ t is known = known

names_through : (s : State) (all cs : List Change) (t : State) → ((c : Change) → IsIn c cs → IsIn c all) → AreNamed s all t.names → AreNamed s all (after_changes cs t).names
names_through s all [] t part known = known
names_through s all (c ∷ cs) t part known = names_through s all cs (after_change c t) (λ d there. part d (inr there)) (names_after s all c t (part c (inl refl)) known)

named_before : (s : State) (all : List Change) → AreNamed s all s.names
named_before s all row is =
    in_left row.name (map (λ (x : Named). x.name) (filter (λ (x : Named). x.activity.0 == row.activity.0) s.names)) (flat_map (name_given row.activity.0) all)
    (in_map (λ (x : Named). x.name) row (filter (λ (x : Named). x.activity.0 == row.activity.0) s.names) (filter_in (λ (x : Named). x.activity.0 == row.activity.0) row s.names is (same_number row.activity.0 row.activity.0 refl)))

-- what a name stands for is in its row
row_of : (rows : List Named) (name : List ℕ) (a : ℕ) → stands_for a (named_at rows name) ≡ true → list_any (λ (row : Named). row.activity.0 == a) rows ≡ true
row_of [] name a is = is
row_of (row ∷ rows) name a is = elim (cases_Bool (bytes_eq row.name name)) [
  | inl own ↦ let mine : (row.activity.0 == a) ≡ true = rw own at is in rw mine refl
  | inr other ↦ (elim (cases_Bool (row.activity.0 == a)) [
    | inl mine ↦ rw mine refl
    | inr foreign ↦ rw foreign (row_of rows name a (rw other at is))
  ])
]

pub named_as : (s : State) (cs : List Change) (a : ℕ) → IsOrdered s → list_any (λ name. stands_for a (named_at (after_changes cs s).names name)) (names_given s cs a) ≡ list_any (λ (row : Named). row.activity.0 == a) (after_changes cs s).names
named_as s cs a order =
    let t = after_changes cs s in
    both_or_none (list_any (λ name. stands_for a (named_at t.names name)) (names_given s cs a)) (list_any (λ (row : Named). row.activity.0 == a) t.names)
    (λ some.
    let found = some_passes (λ name. stands_for a (named_at t.names name)) (names_given s cs a) some in
    row_of t.names found.0 a found.2)
    (λ some.
    let found = some_passes (λ (row : Named). row.activity.0 == a) t.names some in
    let there : IsIn found.0.name (names_given s cs a) = subst (λ (n : ℕ). IsIn found.0.name (names_given s cs n)) (number_same found.0.activity.0 a found.2) (names_through s cs cs s (λ c is. is) (named_before s cs) found.0 found.1) in
    let stood = name_found t.names found.0 found.0.name (ordered_through cs s order).names found.1 ((bytes_eq-Decides found.0.name found.0.name).1 refl) in
    passes_some (λ name. stands_for a (named_at t.names name)) found.0.name (names_given s cs a) there (ap (stands_for a) stood ∙ found.2))

-- an event waits where there is a head event
pub waiting_is : (events : List Queued) (a : ℕ) → is_some (option_map (λ (v : Event). v.id) (head_event events a)) ≡ is_waiting events a
waiting_is [] a = refl
waiting_is (q ∷ qs) a = elim (cases_Bool (q.activity.0 == a)) [
  | inl own ↦ rw own refl
  | inr other ↦ rw other (waiting_is qs a)
]

-- the same, by what each call gives

pub link_seen : (s : State) (cs ds : List Change) (entities xs : List ℕ) (a : ℕ) (r : Bool) → ds ≡ cs → entities ≡ attached_to s ds a → xs ≡ entities → r ≡ list_any (λ e. is_linked (after_changes cs s).links e a) xs
    → r ≡ list_any (λ (l : Link). l.activity.0 == a) (after_changes cs s).links
link_seen s cs ds entities xs a r changes listed same is =
    is ∙ ap (λ es. list_any (λ e. is_linked (after_changes cs s).links e a) es) (same ∙ listed ∙ ap (λ d. attached_to s d a) changes) ∙ linked_on s cs a

pub name_seen : (s : State) (cs ds : List Change) (names xs : List (List ℕ)) (a : ℕ) (r : Bool) → IsOrdered s → ds ≡ cs → names ≡ names_given s ds a → xs ≡ names → r ≡ list_any (λ name. stands_for a (named_at (after_changes cs s).names name)) xs
    → r ≡ list_any (λ (row : Named). row.activity.0 == a) (after_changes cs s).names
name_seen s cs ds names xs a r order changes listed same is =
    is ∙ ap (λ ns. list_any (λ name. stands_for a (named_at (after_changes cs s).names name)) ns) (same ∙ listed ∙ ap (λ d. names_given s d a) changes) ∙ named_as s cs a order
