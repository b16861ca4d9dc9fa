-- What is left of entities and attachments when several entities go.
use Rattle.std.proofs.Common.{◌≡◌, ℕ, ◌==◌, Bool, true, false, ◌||◌, not, List, [], ◌∷◌, ◌++◌, filter, refl, sym, ◌∙◌, ap, subst, inl, inr, arith, flat_map}
use Rattle.std.specs.List.{list_any}
use Rattle.std.proofs.lemmas.Bool.{cases_Bool, eqb-true, eq-eqb, or_cases}
use Rattle.std.proofs.lemmas.Bool.Decides.{nat_tests}
use Rattle.router_laws.specs.Forest.{IsIn}
use Rattle.router_state.specs.State.{State}
use Rattle.router_state.specs.Changes.{after_changes}
use Rattle.router_state.specs.Contexts.{is_link, without_link}
use Rattle.rows_sorted.specs.Orders.{same_pair}
use Rattle.router_state.specs.Trees.{without_entity}
use Rattle.router_state.specs.declared.change.Change.TheVariants as changes
use Rattle.router_state.specs.declared.rows.Entity.{Entity}
use Rattle.router_state.specs.declared.rows.Link.{Link}
use Rattle.router_steps.specs.Going.{removed, all_removed}
use Rattle.router_steps.specs.Moves.{changes_of_detaching}

-- the number is in the list
abbrev pub in_list : ℕ → List ℕ → Bool
in_list x es = list_any (λ e. e == x) es

pub is_in_list : (x : ℕ) (es : List ℕ) → IsIn x es → in_list x es ≡ true
is_in_list x [] is = elim is [ ]
is_in_list x (e ∷ es) (inl is) = let same : (e == x) ≡ true = eq-eqb e x (sym is) in rw same refl
is_in_list x (e ∷ es) (inr more) = elim (cases_Bool (e == x)) [
  | inl same ↦ rw same refl
  | inr other ↦ rw other (is_in_list x es more)
]

pub from_in_list : (x : ℕ) (es : List ℕ) → in_list x es ≡ true → IsIn x es
from_in_list x [] is = absurd (cc)
from_in_list x (e ∷ es) is = elim (or_cases (e == x) (in_list x es) is) [
  | inl same ↦ inl (sym (eqb-true e x same))
  | inr more ↦ inr (from_in_list x es more)
]

pub filter_true : {X : Type 0} (xs : List X) → filter (λ _. true) xs ≡ xs
filter_true [] = refl
filter_true (x ∷ xs) = ap (λ ys. x ∷ ys) (filter_true xs)

-- what passes neither of two tests is left when those that pass are taken out one test after the other
pub out_twice : {X : Type 0} (p q : X → Bool) (xs : List X) → filter (λ x. not (q x)) (filter (λ x. not (p x)) xs) ≡ filter (λ x. not (p x || q x)) xs
out_twice p q [] = refl
out_twice p q (x ∷ xs) = elim (cases_Bool (p x)) [
  | inl is ↦ rw is (out_twice p q xs)
  | inr isnt ↦ rw isnt (elim (cases_Bool (q x)) [
    | inl too ↦ rw too (out_twice p q xs)
    | inr neither ↦ rw neither (ap (λ ys. x ∷ ys) (out_twice p q xs))
  ])
]

-- two tests that agree on the rows of a list keep the same rows
pub filter_same : {X : Type 0} (p q : X → Bool) (xs : List X) → ((x : X) → IsIn x xs → p x ≡ q x) → filter p xs ≡ filter q xs
filter_same p q [] agree = refl
filter_same p q (x ∷ xs) agree =
    let more : filter p xs ≡ filter q xs = filter_same p q xs (λ y there. agree y (inr there)) in
    rw (agree x (inl refl), more) refl

-- one entity

removed_entities : (links : List Link) (e : ℕ) (s : State)
    → (after_changes (flat_map changes_of_detaching links ++ changes.ForgetFields (record { 0 = e }) ∷ changes.Remove (record { 0 = e }) ∷ []) s).entities ≡ without_entity s.entities e
removed_entities [] e s = refl
removed_entities (l ∷ links) e s = removed_entities links e (after_changes (changes_of_detaching l) s)

abbrev without_links : List Link → List Link → List Link
without_links [] rows = rows
without_links (l ∷ links) rows = without_links links (without_link rows l.entity.0 l.activity.0)

removed_links : (links : List Link) (e : ℕ) (s : State)
    → (after_changes (flat_map changes_of_detaching links ++ changes.ForgetFields (record { 0 = e }) ∷ changes.Remove (record { 0 = e }) ∷ []) s).links ≡ without_links links s.links
removed_links [] e s = refl
removed_links (l ∷ links) e s = removed_links links e (after_changes (changes_of_detaching l) s)

abbrev is_among : List Link → Link → Bool
is_among links k = list_any (λ l. is_link l.entity.0 l.activity.0 k) links

without_is : (links rows : List Link) → without_links links rows ≡ filter (λ k. not (is_among links k)) rows
without_is [] rows = sym (filter_true rows)
without_is (l ∷ links) rows = without_is links (without_link rows l.entity.0 l.activity.0) ∙ out_twice (is_link l.entity.0 l.activity.0) (is_among links) rows

among_own : (e : ℕ) (k : Link) (rows : List Link) → IsIn k rows → is_among (filter (λ l. l.entity.0 == e) rows) k ≡ (k.entity.0 == e)
among_own e k rows there = elim (cases_Bool (k.entity.0 == e)) [
  | inl mine ↦ found rows there mine ∙ sym mine
  | inr other ↦ none rows other ∙ sym other
]
  where
    itself : (a b : ℕ) → same_pair a b a b ≡ true
    itself a b = grind (arith, nat_tests)

    apart : (a b c d e : ℕ) → (c == e) ≡ true → (a == e) ≡ false → same_pair a b c d ≡ false
    apart a b c d e one two = grind (arith, nat_tests)

    found : (rows : List Link) → IsIn k rows → (k.entity.0 == e) ≡ true → is_among (filter (λ l. l.entity.0 == e) rows) k ≡ true
    found [] there mine = elim there [ ]
    found (l ∷ rows) (inl is) mine =
        let own : (l.entity.0 == e) ≡ true = subst (λ (x : Link). (x.entity.0 == e) ≡ true) is mine in
        let same : is_link l.entity.0 l.activity.0 k ≡ true = subst (λ (x : Link). is_link x.entity.0 x.activity.0 k ≡ true) is (itself k.entity.0 k.activity.0) in
        rw (own, same) refl
    found (l ∷ rows) (inr more) mine = elim (cases_Bool (l.entity.0 == e)) [
      | inl own ↦ rw own (elim (cases_Bool (is_link l.entity.0 l.activity.0 k)) [
        | inl same ↦ rw same refl
        | inr isnt ↦ rw isnt (found rows more mine)
      ])
      | inr not_own ↦ rw not_own (found rows more mine)
    ]

    none : (rows : List Link) → (k.entity.0 == e) ≡ false → is_among (filter (λ l. l.entity.0 == e) rows) k ≡ false
    none [] other = refl
    none (l ∷ rows) other = elim (cases_Bool (l.entity.0 == e)) [
      | inl own ↦ (let isnt : is_link l.entity.0 l.activity.0 k ≡ false = apart k.entity.0 k.activity.0 l.entity.0 l.activity.0 e own other in rw (own, isnt) (none rows other))
      | inr not_own ↦ rw not_own (none rows other)
    ]

pub removed_links_are : (e : ℕ) (s : State) → (removed s e).links ≡ filter (λ l. not (l.entity.0 == e)) s.links
removed_links_are e s =
    let own = filter (λ (l : Link). l.entity.0 == e) s.links in
    removed_links own e s ∙ without_is own s.links ∙ filter_same _ _ s.links (λ k there. ap not (among_own e k s.links there))

-- several entities

pub left_entities : (es : List ℕ) (s : State) → (all_removed es s).entities ≡ filter (λ row. not (in_list row.number.0 es)) s.entities
left_entities [] s = sym (filter_true s.entities)
left_entities (e ∷ es) s =
    left_entities es (removed s e)
    ∙ rw (removed_entities (filter (λ l. l.entity.0 == e) s.links) e s)
    (out_twice (λ (row : Entity). row.number.0 == e) (λ row. in_list row.number.0 es) s.entities ∙ filter_same _ _ s.entities (λ row there. turned row.number.0 e (in_list row.number.0 es)))
  where
    turned : (x e : ℕ) (b : Bool) → not ((x == e) || b) ≡ not ((e == x) || b)
    turned x e b = grind (arith, nat_tests)

pub left_links : (es : List ℕ) (s : State) → (all_removed es s).links ≡ filter (λ l. not (in_list l.entity.0 es)) s.links
left_links [] s = sym (filter_true s.links)
left_links (e ∷ es) s =
    let own = filter (λ (l : Link). l.entity.0 == e) s.links in
    let one : (removed s e).links ≡ filter (λ l. not (l.entity.0 == e)) s.links =
    removed_links own e s ∙ without_is own s.links ∙ filter_same _ _ s.links (λ k there. ap not (among_own e k s.links there)) in
    left_links es (removed s e)
    ∙ rw one (out_twice (λ (l : Link). l.entity.0 == e) (λ l. in_list l.entity.0 es) s.links ∙ filter_same _ _ s.links (λ l there. turned l.entity.0 e (in_list l.entity.0 es)))
  where
    turned : (x e : ℕ) (b : Bool) → not ((x == e) || b) ≡ not ((e == x) || b)
    turned x e b = grind (arith, nat_tests)
