-- A new root is there, and it isn't attached to anything yet.
use Rattle.std.proofs.Common.{◌≡◌, ℕ, ℤ, true, List, [], ◌∷◌, ◌++◌, map, Some, refl, sym, ◌∙◌, ap, subst, IsTrue, is_some, inl, inr, arith, ◌==◌, if◌then◌else◌, append_assoc}
use Rattle.std.proofs.lemmas.Bool.{cases_Bool}
use Rattle.std.proofs.lemmas.Bool.Decides.{nat_tests}
use Rattle.slee_value.specs.declared.convergence.ConvName.{ConvName}
use Rattle.script_types.specs.declared.codes.FieldCode.{FieldCode}
use Rattle.deploy_model.specs.Deployed.{DeployedService, block_fields, service_at}
use Rattle.router_state.specs.State.{State}
use Rattle.router_state.specs.Changes.{after_change, after_changes}
use Rattle.router_state.specs.Contexts.{is_linked}
use Rattle.router_state.specs.Fitting.{has_entity}
use Rattle.router_state.specs.Trees.{entity_at}
use Rattle.router_state.specs.declared.change.Change.{Change}
use Rattle.router_state.specs.declared.change.Change.TheVariants as changes
use Rattle.router_state.specs.declared.rows.Entity.{Entity}
use Rattle.router_state.specs.declared.rows.Stem.TheVariants as stems
use Rattle.router_steps.specs.Creating.{first_fields, with_root}
use Rattle.router_steps.specs.Moves.{lines_of_attached}
use Rattle.router_steps.specs.Values.{unset}
use Rattle.slee_value.specs.declared.ids.ActivityId.{ActivityId}
use Rattle.slee_value.specs.declared.ids.EntityId.{EntityId}
use Rattle.router_steps.specs.Lines.{attached_line}
use Rattle.router_draft.specs.Drafts.{DraftView, laid}
use Rattle.router_subjects.specs.Roots.{CanSelect, heading_of_root, lines_of_root_attached, root_in, rooted}
use Rattle.router_subjects.specs.declared.selecting.Root.{Root as RootInCode}
use Rattle.router_subjects.specs.declared.selecting.Root.TheVariants as roots

-- fields that are set change neither entities nor attachments
fields_apart : (e : ℕ) (fields : List FieldCode) (s : State)
    → ((after_changes (map (λ (field : FieldCode). changes.SetField (record { 0 = e }) field.name (unset field.kind)) fields) s).entities ≡ s.entities)
    × ((after_changes (map (λ (field : FieldCode). changes.SetField (record { 0 = e }) field.name (unset field.kind)) fields) s).links ≡ s.links)
fields_apart e [] s = (refl, refl)
fields_apart e (field ∷ fields) s = fields_apart e fields (after_change (changes.SetField (record { 0 = e }) field.name (unset field.kind)) s)

-- the state with a new root before its fields are set
abbrev begun : State → ℕ → ℕ → ℤ → ConvName → State
begun s service block priority name = after_changes (changes.CreateRoot block service priority ∷ changes.Root (record { 0 = s.next_entity }) name ∷ []) s

last_there : (rows : List Entity) (row : Entity) → is_some (entity_at (rows ++ row ∷ []) row.number.0) ≡ true
last_there [] row = let own : (row.number.0 == row.number.0) ≡ true = grind (arith, nat_tests) in rw own refl
last_there (x ∷ xs) row = elim (cases_Bool (x.number.0 == row.number.0)) [
  | inl own ↦ rw own refl
  | inr other ↦ rw other (last_there xs row)
]

-- the new root is there
pub root_there : (s : State) (service block : ℕ) (priority : ℤ) (name : ConvName) → IsTrue (has_entity (rooted s service block priority name).entities s.next_entity)
root_there s service block priority name =
    let row : Entity = record { number = record { 0 = s.next_entity }; block = block; stem = stems.Root service; priority = priority } in
    subst (λ (rows : List Entity). has_entity rows s.next_entity ≡ true) (sym (fields_apart s.next_entity (block_fields s.deployment block) (begun s service block priority name)).0) (last_there s.entities row)

-- nothing else is attached by it
pub root_linked : (s : State) (service block : ℕ) (priority : ℤ) (name : ConvName) (e a : ℕ) → lines_of_attached (rooted s service block priority name) e a ≡ lines_of_attached s e a
root_linked s service block priority name e a =
    ap (λ links. if is_linked links e a then [] else attached_line e a ∷ []) (fields_apart s.next_entity (block_fields s.deployment block) (begun s service block priority name)).1

-- it is the root that the service declares
pub root_given : (s : State) (service block : ℕ) (priority : ℤ) (name : ConvName) (row : DeployedService) → service_at s.deployment service ≡ Some row → row.root ≡ block → row.priority ≡ priority
    → rooted s service block priority name ≡ with_root s service name
root_given s service block priority name row is root by = rw (is, ← root, ← by) refl

pub lines_given : (s : State) (service block : ℕ) (priority : ℤ) (name : ConvName) (e a : ℕ) (row : DeployedService) → service_at s.deployment service ≡ Some row → row.root ≡ block → row.priority ≡ priority
    → lines_of_attached (with_root s service name) e a ≡ lines_of_attached s e a
lines_given s service block priority name e a row is root by =
    subst (λ (t : State). lines_of_attached t e a ≡ lines_of_attached s e a) (root_given s service block priority name row is root by) (root_linked s service block priority name e a)

-- a service that is marked changes nothing of this
pub can_marked : (a : ActivityId) (service : ℕ) (root : RootInCode) (s t : State) → t ≡ after_change (changes.MarkService a service) s → CanSelect s service root → CanSelect t service root
can_marked a service root s t is can = subst (λ (u : State). CanSelect u service root) (sym is) (by_root root can)
  where
    by_root : (r : RootInCode) → CanSelect s service r → CanSelect (after_change (changes.MarkService a service) s) service r
    by_root roots.NotInitial can = tt
    by_root (roots.Old e) can = can
    by_root (roots.New block priority name) can = can

pub told_so : (a : ActivityId) (service : ℕ) (root : RootInCode) (s t : State) → t ≡ after_change (changes.MarkService a service) s → CanSelect s service root
    → lines_of_root_attached a.0 service (root_in root) t ≡ lines_of_root_attached a.0 service (root_in root) s
told_so a service root s t is can = subst (λ (u : State). lines_of_root_attached a.0 service (root_in root) u ≡ lines_of_root_attached a.0 service (root_in root) s) (sym is) (by_root root can)
  where
    by_root : (r : RootInCode) → CanSelect s service r → lines_of_root_attached a.0 service (root_in r) (after_change (changes.MarkService a service) s) ≡ lines_of_root_attached a.0 service (root_in r) s
    by_root roots.NotInitial can = refl
    by_root (roots.Old e) can = refl
    by_root (roots.New block priority name) can =
        let marked = after_change (changes.MarkService a service) s in
        lines_given marked service block priority name marked.next_entity a.0 can.0 can.1 can.2 can.3
        ∙ sym (lines_given s service block priority name s.next_entity a.0 can.0 can.1 can.2 can.3)

-- the same, as the code comes to it

pub rooted_so : (s t u v : State) (e : EntityId) (service block : ℕ) (priority : ℤ) (name : ConvName) → e.0 ≡ s.next_entity → t ≡ after_change (changes.CreateRoot block service priority) s
    → u ≡ after_change (changes.Root e name) t → v ≡ after_changes (first_fields u block e.0) u → v ≡ rooted s service block priority name
rooted_so s t u v e service block priority name number one two three =
    let own : e ≡ record { 0 = s.next_entity } = ap (λ (n : ℕ). record { 0 = n }) number in
    three
    ∙ ap (λ (w : State). after_changes (first_fields w block e.0) w) (two ∙ ap (after_change (changes.Root e name)) one)
    ∙ ap (λ (f : EntityId). after_changes (first_fields (after_change (changes.Root f name) (after_change (changes.CreateRoot block service priority) s)) block f.0) (after_change (changes.Root f name) (after_change (changes.CreateRoot block service priority) s))) own

pub there_so : (s t : State) (e service block : ℕ) (priority : ℤ) (name : ConvName) → t ≡ rooted s service block priority name → e ≡ s.next_entity → IsTrue (has_entity t.entities e)
there_so s t e service block priority name is number = rw (is, number) (root_there s service block priority name)

pub linked_so : (s t : State) (e a service block : ℕ) (priority : ℤ) (name : ConvName) → t ≡ rooted s service block priority name → e ≡ s.next_entity → lines_of_attached t e a ≡ lines_of_attached s s.next_entity a
linked_so s t e a service block priority name is number = rw (is, number) (root_linked s service block priority name s.next_entity a)

declared : (s : State) (service block : ℕ) (priority : ℤ) (name : ConvName) (root : RootInCode) → root ≡ roots.New block priority name → CanSelect s service root → CanSelect s service (roots.New block priority name)
declared s service block priority name root is can = subst (CanSelect s service) is can

pub given_so : (s : State) (service block : ℕ) (priority : ℤ) (name : ConvName) (root : RootInCode) → root ≡ roots.New block priority name → CanSelect s service root
    → rooted s service block priority name ≡ with_root s service name
given_so s service block priority name root is can =
    let row = declared s service block priority name root is can in root_given s service block priority name row.0 row.1 row.2 row.3

pub lines_so : (s : State) (service block : ℕ) (priority : ℤ) (name : ConvName) (root : RootInCode) (e a : ℕ) → root ≡ roots.New block priority name → CanSelect s service root
    → lines_of_attached (with_root s service name) e a ≡ lines_of_attached s e a
lines_so s service block priority name root e a is can =
    let row = declared s service block priority name root is can in lines_given s service block priority name e a row.0 row.1 row.2 row.3

pub old_there : (s : State) (service : ℕ) (root : RootInCode) (e : EntityId) → root ≡ roots.Old e → CanSelect s service root → IsTrue (has_entity s.entities e.0)
old_there s service root e is can = subst (CanSelect s service) is can

-- the heading is told, the service is marked, and then the root is attached
pub selected_lines : (a : ActivityId) (v service : ℕ) (key : List ℕ) (root : RootInCode) (s : State) (before told marked done : DraftView) (line : List ℕ) → CanSelect (laid s before) service root
    → line ≡ heading_of_root a.0 v key (root_in root) (laid s before) → told.changes ≡ before.changes → told.lines ≡ before.lines ++ line ∷ []
    → laid s marked ≡ after_change (changes.MarkService a service) (laid s told) → marked.lines ≡ told.lines
    → done.lines ≡ marked.lines ++ lines_of_root_attached a.0 service (root_in root) (laid s marked)
    → done.lines ≡ before.lines ++ heading_of_root a.0 v key (root_in root) (laid s before) ∷ lines_of_root_attached a.0 service (root_in root) (laid s before)
selected_lines a v service key root s before told marked done line can is same one mark kept last =
    let head = heading_of_root a.0 v key (root_in root) (laid s before) in
    let rest = lines_of_root_attached a.0 service (root_in root) (laid s before) in
    let by : laid s marked ≡ after_change (changes.MarkService a service) (laid s before) = mark ∙ ap (λ (cs : List Change). after_change (changes.MarkService a service) (after_changes cs s)) same in
    let more : lines_of_root_attached a.0 service (root_in root) (laid s marked) ≡ rest = told_so a service root (laid s before) (laid s marked) by can in
    let first : marked.lines ≡ before.lines ++ head ∷ [] = kept ∙ one ∙ ap (λ (l : List ℕ). before.lines ++ l ∷ []) is in
    last ∙ ap (λ (xs : List (List ℕ)). xs ++ lines_of_root_attached a.0 service (root_in root) (laid s marked)) first
    ∙ ap (λ (xs : List (List ℕ)). (before.lines ++ head ∷ []) ++ xs) more ∙ append_assoc before.lines (head ∷ []) rest
