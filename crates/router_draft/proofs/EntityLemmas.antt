-- Entities after changes: their blocks and their parents.
use Rattle.std.proofs.Common.{◌≡◌, ℕ, ◌==◌, List, refl, inl, inr, ap}
use Rattle.std.specs.Prelude.{option_map, Option}
use Rattle.std.specs.List.{fold}
use Rattle.std.proofs.lemmas.Bool.{cases_Bool}
use Rattle.router_state.specs.State.{State}
use Rattle.router_state.specs.Trees.{entity_at, has_priority, number_of, parent_of}
use Rattle.router_state.specs.Changes.{after_change, after_changes}
use Rattle.router_state.specs.declared.change.Change.{Change}
use Rattle.router_state.specs.declared.change.Change.TheVariants as changes
use Rattle.router_state.specs.declared.rows.Entity.{Entity}
use Rattle.router_state.specs.declared.rows.Stem.TheVariants as stems
use Rattle.router_draft.proofs.ChangeLemmas.{through}
use Rattle.router_draft.proofs.NumberedLemmas.{at_gone, at_same, new_seen}
use Rattle.router_draft.specs.After.{ahead_of, block_after, parent_after}

-- the block of the entity of this number
abbrev pub block_at : List Entity → ℕ → Option ℕ
block_at rows e = option_map (λ row. row.block) (entity_at rows e)

-- the same with how many numbers are drawn before it
abbrev pub seen_block : ℕ → State → Option ℕ × Option ℕ
seen_block e s = (ahead_of s.next_entity e, block_at s.entities e)

abbrev block_of : Entity → ℕ
block_of row = row.block

same_number : (e : ℕ) (priority : _) (row : Entity) → number_of (has_priority e priority row) ≡ number_of row
same_number e priority row = elim (cases_Bool (row.number.0 == e)) [
  | inl own ↦ rw own refl
  | inr other ↦ rw other refl
]

same_block : (e : ℕ) (priority : _) (row : Entity) → block_of (has_priority e priority row) ≡ block_of row
same_block e priority row = elim (cases_Bool (row.number.0 == e)) [
  | inl own ↦ rw own refl
  | inr other ↦ rw other refl
]

same_parent : (e : ℕ) (priority : _) (row : Entity) → parent_of (has_priority e priority row) ≡ parent_of row
same_parent e priority row = elim (cases_Bool (row.number.0 == e)) [
  | inl own ↦ rw own refl
  | inr other ↦ rw other refl
]

block_is : (e : ℕ) (c : Change) (s : State) → seen_block e (after_change c s) ≡ block_after c e (seen_block e s)
block_is e (changes.CreateRoot block service priority) s =
    new_seen number_of block_of s.next_entity e (record { number = record { 0 = s.next_entity }; block = block; stem = stems.Root service; priority = priority }) s.entities refl
block_is e (changes.CreateChild parent relation block priority) s =
    new_seen number_of block_of s.next_entity e (record { number = record { 0 = s.next_entity }; block = block; stem = stems.Child parent relation; priority = priority }) s.entities refl
block_is e (changes.Remove e') s =
    let gone = at_gone number_of block_of e e'.0 s.entities in
    elim (cases_Bool (e'.0 == e)) [
      | inl same ↦ rw (gone, same) refl
      | inr other ↦ rw (gone, other) refl
    ]
block_is e (changes.SetPriority e' priority) s =
    ap (λ b. (ahead_of s.next_entity e, b)) (at_same number_of block_of (has_priority e'.0 priority) (same_number e'.0 priority) (same_block e'.0 priority) e s.entities)
block_is e _ s = refl

pub block_laid : (cs : List Change) (s : State) (e : ℕ) → block_at (after_changes cs s).entities e ≡ (fold (λ seen c. block_after c e seen) (ahead_of s.next_entity e, block_at s.entities e) cs).1
block_laid cs s e = ap (λ (x : Option ℕ × Option ℕ). x.1) (through (seen_block e) (λ seen c. block_after c e seen) (block_is e) cs s)

-- the parent of the entity of this number
abbrev pub parent_at : List Entity → ℕ → Option ℕ
parent_at rows e = option_map (λ row. parent_of row) (entity_at rows e)

-- the same with how many numbers are drawn before it
abbrev pub seen_parent : ℕ → State → Option ℕ × Option ℕ
seen_parent e s = (ahead_of s.next_entity e, parent_at s.entities e)

parent_is : (e : ℕ) (c : Change) (s : State) → seen_parent e (after_change c s) ≡ parent_after c e (seen_parent e s)
parent_is e (changes.CreateRoot block service priority) s =
    new_seen number_of parent_of s.next_entity e (record { number = record { 0 = s.next_entity }; block = block; stem = stems.Root service; priority = priority }) s.entities refl
parent_is e (changes.CreateChild parent relation block priority) s =
    new_seen number_of parent_of s.next_entity e (record { number = record { 0 = s.next_entity }; block = block; stem = stems.Child parent relation; priority = priority }) s.entities refl
parent_is e (changes.Remove e') s =
    let gone = at_gone number_of parent_of e e'.0 s.entities in
    elim (cases_Bool (e'.0 == e)) [
      | inl same ↦ rw (gone, same) refl
      | inr other ↦ rw (gone, other) refl
    ]
parent_is e (changes.SetPriority e' priority) s =
    ap (λ b. (ahead_of s.next_entity e, b)) (at_same number_of parent_of (has_priority e'.0 priority) (same_number e'.0 priority) (same_parent e'.0 priority) e s.entities)
parent_is e _ s = refl

pub parent_laid : (cs : List Change) (s : State) (e : ℕ) → parent_at (after_changes cs s).entities e ≡ (fold (λ seen c. parent_after c e seen) (ahead_of s.next_entity e, parent_at s.entities e) cs).1
parent_laid cs s e = ap (λ (x : Option ℕ × Option ℕ). x.1) (through (seen_parent e) (λ seen c. parent_after c e seen) (parent_is e) cs s)
