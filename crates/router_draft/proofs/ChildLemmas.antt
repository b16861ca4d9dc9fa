-- Children of an entity after changes.
use Rattle.std.proofs.Common.{◌≡◌, ℕ, ◌+◌, ◌==◌, Bool, List, [], ◌∷◌, ◌++◌, refl, ap, ◌∙◌, inl, inr}
use Rattle.std.specs.Prelude.{not, filter, map, if◌then◌else◌}
use Rattle.std.specs.List.{fold}
use Rattle.std.proofs.lemmas.Bool.{cases_Bool}
use Rattle.std.proofs.lemmas.List.{map-append}
use Rattle.std.proofs.lemmas.List.Elements.{filter-append}
use Rattle.router_state.specs.State.{State}
use Rattle.router_state.specs.Trees.{number_of, parent_in, parent_of, with_entity, with_priority, without_entity}
use Rattle.router_state.specs.Changes.{after_change, after_changes}
use Rattle.router_state.specs.declared.change.Change.{Change}
use Rattle.router_state.specs.declared.change.Change.TheVariants as changes
use Rattle.router_state.specs.declared.rows.Entity.{Entity}
use Rattle.router_state.specs.declared.rows.Stem.{Stem}
use Rattle.router_state.specs.declared.rows.Stem.TheVariants as stems
use Rattle.router_draft.proofs.ChangeLemmas.{through}
use Rattle.router_draft.specs.After.{children_after, kids}

made : (e n block : ℕ) (stem : Stem) (priority : _) (rows : List Entity) → kids (with_entity rows n block stem priority) e ≡ (if parent_in stem == e then kids rows e ++ n ∷ [] else kids rows e)
made e n block stem priority rows =
    let new : Entity = record { number = record { 0 = n }; block = block; stem = stem; priority = priority } in
    let mine : Entity → Bool = λ row. parent_of row == e in
    elim (cases_Bool (parent_in stem == e)) [
      | inl own ↦
          let split : filter mine (rows ++ new ∷ []) ≡ filter mine rows ++ new ∷ [] = filter-append mine rows (new ∷ []) ∙ (rw own refl) in
          rw own (ap (map number_of) split ∙ map-append number_of (filter mine rows) (new ∷ []))
      | inr other ↦
          let split : filter mine (rows ++ new ∷ []) ≡ filter mine rows ++ [] = filter-append mine rows (new ∷ []) ∙ (rw other refl) in
          rw other (ap (map number_of) (split ∙ nothing (filter mine rows)))
    ]
  where
    nothing : (xs : List Entity) → xs ++ [] ≡ xs
    nothing [] = refl
    nothing (x ∷ xs) = ap (λ more. x ∷ more) (nothing xs)

removed_kids : (e e' : ℕ) (rows : List Entity) → kids (without_entity rows e') e ≡ filter (λ n. not (n == e')) (kids rows e)
removed_kids e e' [] = refl
removed_kids e e' (x ∷ xs) = elim (cases_Bool (x.number.0 == e')) [
  | inl gone ↦ elim (cases_Bool (parent_of x == e)) [
    | inl own ↦ rw (gone, own, gone) (removed_kids e e' xs)
    | inr other ↦ rw (gone, other) (removed_kids e e' xs)
  ]
  | inr stays ↦ elim (cases_Bool (parent_of x == e)) [
    | inl own ↦ rw (stays, own, stays) (ap (λ more. x.number.0 ∷ more) (removed_kids e e' xs))
    | inr other ↦ rw (stays, other) (removed_kids e e' xs)
  ]
]

moved_kids : (e e' : ℕ) (priority : _) (rows : List Entity) → kids (with_priority rows e' priority) e ≡ kids rows e
moved_kids e e' priority [] = refl
moved_kids e e' priority (x ∷ xs) = elim (cases_Bool (x.number.0 == e')) [
  | inl mine ↦ elim (cases_Bool (parent_of x == e)) [
    | inl own ↦ rw (mine, own) (ap (λ more. x.number.0 ∷ more) (moved_kids e e' priority xs))
    | inr other ↦ rw (mine, other) (moved_kids e e' priority xs)
  ]
  | inr foreign ↦ elim (cases_Bool (parent_of x == e)) [
    | inl own ↦ rw (foreign, own) (ap (λ more. x.number.0 ∷ more) (moved_kids e e' priority xs))
    | inr other ↦ rw (foreign, other) (moved_kids e e' priority xs)
  ]
]

-- the next number, and the children
abbrev pub seen_kids : ℕ → State → ℕ × List ℕ
seen_kids e s = (s.next_entity, kids s.entities e)

kids_is : (e : ℕ) (c : Change) (s : State) → seen_kids e (after_change c s) ≡ children_after c e (seen_kids e s)
kids_is e (changes.CreateRoot block service priority) s = ap (λ all. (s.next_entity + 1, all)) (made e s.next_entity block (stems.Root service) priority s.entities)
kids_is e (changes.CreateChild parent relation block priority) s = ap (λ all. (s.next_entity + 1, all)) (made e s.next_entity block (stems.Child parent relation) priority s.entities)
kids_is e (changes.Remove e') s = ap (λ all. (s.next_entity, all)) (removed_kids e e'.0 s.entities)
kids_is e (changes.SetPriority e' priority) s = ap (λ all. (s.next_entity, all)) (moved_kids e e'.0 priority s.entities)
kids_is e _ s = refl

pub kids_laid : (cs : List Change) (s : State) (e : ℕ) → kids (after_changes cs s).entities e ≡ (fold (λ seen c. children_after c e seen) (s.next_entity, kids s.entities e) cs).1
kids_laid cs s e = ap (λ (x : ℕ × List ℕ). x.1) (through (seen_kids e) (λ seen c. children_after c e seen) (kids_is e) cs s)

pub second_is : (a : ℕ) (xs : List ℕ) (p : ℕ × List ℕ) → (a, xs) ≡ p → xs ≡ p.1
second_is a xs p is = ap (λ (x : ℕ × List ℕ). x.1) is
