-- A field that is declared is found by its name.
use Rattle.std.proofs.Common.{◌≡◌, ℕ, List, Bool, false, refl, ap, ◌∙◌, Some, None, Option}
use Rattle.std.specs.Prelude.{option_map, option_and_then}
use Rattle.std.specs.Option.{option_map_or}
use Rattle.slee_effect.specs.declared.value.Val.{Val}
use Rattle.script_types.specs.Codes.{named}
use Rattle.script_types.specs.declared.codes.FieldCode.{FieldCode}
use Rattle.deploy_model.specs.Deployed.{Deployed, block_fields}
use Rattle.router_state.specs.State.{State}
use Rattle.router_state.specs.Trees.{entity_at}
use Rattle.router_state.specs.Changes.{after_changes}
use Rattle.router_state.specs.declared.change.Change.{Change}
use Rattle.router_state.specs.declared.rows.Entity.{Entity}
use Rattle.router_steps.specs.Applying.{declares, suits}
use Rattle.router_effects.proofs.CreatingLemmas.{named_is}
use Rattle.router_moves.proofs.LinkLemmas.{deployment_laid}
use Rattle.router_effects.specs.Doing.{declared_field}

-- the field of a block
abbrev field_in : Deployed → List ℕ → ℕ → Option FieldCode
field_in d name block = named (λ (f : FieldCode). f.name) name (block_fields d block)

by_block : (d : Deployed) (name : List ℕ) (o : Option Entity) (block : Option ℕ) → option_map (λ (row : Entity). row.block) o ≡ block
    → option_and_then (λ (row : Entity). field_in d name row.block) o ≡ option_and_then (field_in d name) block
by_block d name None block is = ap (λ (b : Option ℕ). option_and_then (field_in d name) b) is
by_block d name (Some row) block is = ap (λ (b : Option ℕ). option_and_then (field_in d name) b) is

pub field_found : (cs : List Change) (s : State) (e block : ℕ) (name : List ℕ) → option_map (λ (row : Entity). row.block) (entity_at (after_changes cs s).entities e) ≡ Some block
    → declared_field (after_changes cs s) e name ≡ named (λ (f : FieldCode). f.name) name (block_fields s.deployment block)
field_found cs s e block name is =
    let t = after_changes cs s in
    by_block t.deployment name (entity_at t.entities e) (Some block) is ∙ ap (λ (d : Deployed). field_in d name block) (deployment_laid cs s)

pub field_absent : (cs : List Change) (s : State) (e : ℕ) (name : List ℕ) → option_map (λ (row : Entity). row.block) (entity_at (after_changes cs s).entities e) ≡ None
    → declared_field (after_changes cs s) e name ≡ None
field_absent cs s e name is = let t = after_changes cs s in by_block t.deployment name (entity_at t.entities e) None is

joined : {A B : Type 0} (f : A → Option B) (test : B → Bool) (o : Option A) → option_map_or (λ (x : A). option_map_or test (f x) false) o false ≡ option_map_or test (option_and_then f o) false
joined f test None = refl
joined f test (Some x) = refl

declares_by : (t : State) (e : ℕ) (name : List ℕ) (value : Val) → declares t e name value ≡ option_map_or (λ (f : FieldCode). suits t value f.kind) (declared_field t e name) false
declares_by t e name value = joined (λ (row : Entity). field_in t.deployment name row.block) (λ (f : FieldCode). suits t value f.kind) (entity_at t.entities e)

pub declares_found : (t : State) (e : ℕ) (name : List ℕ) (value : Val) (f : FieldCode) → declared_field t e name ≡ Some f → declares t e name value ≡ suits t value f.kind
declares_found t e name value f is = declares_by t e name value ∙ ap (λ (o : Option FieldCode). option_map_or (λ (f : FieldCode). suits t value f.kind) o false) is

pub declares_absent : (t : State) (e : ℕ) (name : List ℕ) (value : Val) → declared_field t e name ≡ None → declares t e name value ≡ false
declares_absent t e name value is = declares_by t e name value ∙ ap (λ (o : Option FieldCode). option_map_or (λ (f : FieldCode). suits t value f.kind) o false) is

pub name_found : (t : State) (e : ℕ) (name : List ℕ) (f : FieldCode) → declared_field t e name ≡ Some f → f.name ≡ name
name_found t e name f is = by (entity_at t.entities e) is
  where
    by : (o : Option Entity) → option_and_then (λ (row : Entity). field_in t.deployment name row.block) o ≡ Some f → f.name ≡ name
    by None found = absurd (cc)
    by (Some row) found = named_is (λ (f : FieldCode). f.name) name (block_fields t.deployment row.block) f found
