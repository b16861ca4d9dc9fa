-- Services and entities are read again.
use Rattle.std.proofs.Common.{◌≡◌, ℕ, zero, suc, ◌^◌, ◌<◌, ◌≤◌, ℤ, List, [], ◌∷◌, ◌++◌, ap, length, refl, ◌∙◌, append_assoc, arith, FitsSigned}
use Rattle.std.specs.Prelude.{Ok, Option, Some, None, ⊤}
use Rattle.std.specs.Option.{option_map_or}
use Rattle.std.specs.List.{AllByRecursion}
use Rattle.std.specs.Int.{w8}
use Rattle.slee_value.specs.Bytes.{spelled_u64, spelled_i8, spelled_text, FitsText}
use Rattle.slee_value.specs.Reading.{Part, ◌>>=◌, i8_at}
use Rattle.slee_value.specs.declared.convergence.ConvName.{ConvName}
use Rattle.slee_value.specs.declared.ids.EntityId.{EntityId}
use Rattle.slee_value.proofs.PartLemmas.{reads_u64, reads_i8}
use Rattle.slee_value.proofs.TextPartLemmas.{reads_text}
use Rattle.deploy_model.specs.Deployed.{Deployed, block_key, block_named, service_key, service_named}
use Rattle.router_state.specs.State.{State}
use Rattle.router_state.specs.Fields.{fields_of}
use Rattle.router_state.specs.Trees.{root_name_at}
use Rattle.router_state.specs.Parsing.{EntityPart, block_number_at, entity_at, name_at, pairs_at, service_at, state_at, stem_at, u64_at}
use Rattle.router_state.specs.Snapshot.{listed, spelled_conv, spelled_entity, spelled_name_of, spelled_pair, spelled_service, spelled_stem, state_byte}
use Rattle.router_state.specs.declared.rows.Entity.{Entity}
use Rattle.router_state.specs.declared.rows.Service.{Service}
use Rattle.router_state.specs.declared.rows.ServiceState.{ServiceState}
use Rattle.router_state.specs.declared.rows.ServiceState.TheVariants as states
use Rattle.router_state.specs.declared.rows.Stem.{Stem}
use Rattle.router_state.specs.declared.rows.Stem.TheVariants as stems
use Rattle.router_laws_snapshots.proofs.Again.{Again, front, right_short, step}
use Rattle.router_laws_snapshots.proofs.Parts.{FitsConv, FitsPair, HasKey, again_pairs, conv_again, keyed_again}

-- ---- services

abbrev pub FitsService : Service → Type 0
FitsService row = row.activity.0 < 2 ^ 64

state_again : (state : ServiceState) (rest : List ℕ) → state_at (state_byte state ∷ rest) ≡ Ok (state, rest)
state_again states.Inactive rest = refl
state_again states.Active rest = refl
state_again states.Stopping rest = refl

pub again_service : Again spelled_service FitsService (λ row. row) service_at
again_service = record {
  back = λ row rest fit short.
      front state_at _ (state_byte row.state ∷ []) (spelled_u64 row.activity.0 ++ rest) row.state (λ more. state_again row.state more)
      ∙ front u64_at _ (spelled_u64 row.activity.0) rest row.activity.0 (λ more. reads_u64.again row.activity.0 more fit);
  some = λ row. omega arith;
}

-- ---- stems

-- the service has a key; the parent has a number from 1, and the relation is a text
abbrev pub FitsStem : Deployed → Stem → Type 0
FitsStem d (stems.Root service) = HasKey (service_named d) (service_key d service) service
FitsStem d (stems.Child parent relation) = (1 ≤ parent.0) × (parent.0 < 2 ^ 64) × FitsText relation

-- what follows a stem that was read
abbrev stem_then : {B : Type 0} → Deployed → (Stem × List ℕ → Part B) → List ℕ → Part B
stem_then d f bytes = u64_at bytes >>= λ parent. stem_at d parent.0 parent.1 >>= f

root_then : {B : Type 0} (d : Deployed) (f : Stem × List ℕ → Part B) (service : ℕ) (rest : List ℕ) → HasKey (service_named d) (service_key d service) service → stem_then d f (spelled_stem d (stems.Root service) ++ rest) ≡ f (stems.Root service, rest)
root_then d f service rest has =
    step u64_at _ (spelled_u64 0) (spelled_text (service_key d service)) rest 0 (λ more. reads_u64.again 0 more (omega arith))
    ∙ rw (keyed_again (service_named d) (service_key d service) service rest has) refl

child_then : {B : Type 0} (d : Deployed) (f : Stem × List ℕ → Part B) (parent : ℕ) (relation rest : List ℕ) → 1 ≤ parent → parent < 2 ^ 64 → FitsText relation
    → stem_then d f (spelled_stem d (stems.Child (record { 0 = parent }) relation) ++ rest) ≡ f (stems.Child (record { 0 = parent }) relation, rest)
child_then d f zero relation rest from less fits = absurd (omega arith)
child_then d f (suc parent) relation rest from less fits =
    step u64_at _ (spelled_u64 (suc parent)) (spelled_text relation) rest (suc parent) (λ more. reads_u64.again (suc parent) more less)
    ∙ rw (reads_text.again relation rest fits) refl

stem_again : {B : Type 0} (d : Deployed) (f : Stem × List ℕ → Part B) (stem : Stem) (b rest : List ℕ) → FitsStem d stem → stem_then d f ((spelled_stem d stem ++ b) ++ rest) ≡ f (stem, b ++ rest)
stem_again d f (stems.Root service) b rest fit = ap (stem_then d f) (append_assoc (spelled_stem d (stems.Root service)) b rest) ∙ root_then d f service (b ++ rest) fit
stem_again d f (stems.Child parent relation) b rest fit = ap (stem_then d f) (append_assoc (spelled_stem d (stems.Child parent relation)) b rest) ∙ child_then d f parent.0 relation (b ++ rest) fit.0 fit.1 fit.2

-- ---- entities

-- a root has a convergence name that fits, and a child has none
abbrev pub FitsName : Stem → Option ConvName → Type 0
FitsName (stems.Root service) None = ⊥
FitsName (stems.Root service) (Some name) = FitsConv name
FitsName (stems.Child parent relation) None = ⊤
FitsName (stems.Child parent relation) (Some name) = ⊥

root_name_again : (service : ℕ) (o : Option ConvName) (rest : List ℕ) → FitsName (stems.Root service) o → name_at (stems.Root service) (option_map_or spelled_conv o [] ++ rest) ≡ Ok (o, rest)
root_name_again service None rest fit = absurd fit
root_name_again service (Some name) rest fit = rw (conv_again name rest fit) refl

no_name_again : (parent : EntityId) (relation : List ℕ) (o : Option ConvName) (rest : List ℕ) → FitsName (stems.Child parent relation) o → name_at (stems.Child parent relation) rest ≡ Ok (o, rest)
no_name_again parent relation None rest fit = refl
no_name_again parent relation (Some name) rest fit = absurd fit

name_again : (s : State) (row : Entity) (stem : Stem) (rest : List ℕ) → FitsName stem (root_name_at s.root_names row.number.0) → name_at stem (spelled_name_of s row stem ++ rest) ≡ Ok (root_name_at s.root_names row.number.0, rest)
name_again s row (stems.Root service) rest fit = root_name_again service (root_name_at s.root_names row.number.0) rest fit
name_again s row (stems.Child parent relation) rest fit = no_name_again parent relation (root_name_at s.root_names row.number.0) rest fit

pub record FitsEntity (s : State) (row : Entity) : Type 0 where
  pub number : row.number.0 < 2 ^ 64
  pub block : HasKey (block_named s.deployment) (block_key s.deployment row.block) row.block
  pub stem : FitsStem s.deployment row.stem
  pub priority : FitsSigned w8 row.priority
  pub name : FitsName row.stem (root_name_at s.root_names row.number.0)
  pub fields : AllByRecursion FitsPair (fields_of s.fields row.number.0)

-- what an entity is read as
abbrev pub entity_part : State → Entity → EntityPart
entity_part s row = record {
  number = row.number.0;
  block = row.block;
  stem = row.stem;
  priority = row.priority;
  name = root_name_at s.root_names row.number.0;
  fields = fields_of s.fields row.number.0;
}

-- what follows the priority of an entity that is read
abbrev from_priority : State → Entity → ℤ × List ℕ → Part EntityPart
from_priority s row priority =
    name_at row.stem priority.1 >>= λ name. pairs_at name.1 >>= λ fields.
    Ok (record { number = row.number.0; block = row.block; stem = row.stem; priority = priority.0; name = name.0; fields = fields.0 }, fields.1)

entity_back : (s : State) (row : Entity) (rest : List ℕ) → FitsEntity s row → length (spelled_entity s row) < 2 ^ 64 → entity_at s.deployment (spelled_entity s row ++ rest) ≡ Ok (entity_part s row, rest)
entity_back s row rest fit short =
    let d = s.deployment in
    let e5 = listed spelled_pair (fields_of s.fields row.number.0) in
    let e4 = spelled_name_of s row row.stem ++ e5 in
    let e3 = spelled_i8 row.priority ++ e4 in
    let e2 = spelled_stem d row.stem ++ e3 in
    let e1 = spelled_text (block_key d row.block) ++ e2 in
    let short5 : length e5 < 2 ^ 64 = right_short (spelled_name_of s row row.stem) e5 (right_short (spelled_i8 row.priority) e4 (right_short (spelled_stem d row.stem) e3 (right_short (spelled_text (block_key d row.block)) e2 (right_short (spelled_u64 row.number.0) e1 short)))) in
    step u64_at _ (spelled_u64 row.number.0) e1 rest row.number.0 (λ more. reads_u64.again row.number.0 more fit.number)
    ∙ step (block_number_at d) _ (spelled_text (block_key d row.block)) e2 rest row.block (λ more. keyed_again (block_named d) (block_key d row.block) row.block more fit.block)
    ∙ stem_again d _ row.stem e3 rest fit.stem
    ∙ step i8_at (from_priority s row) (spelled_i8 row.priority) e4 rest row.priority (λ more. reads_i8.again row.priority more fit.priority)
    ∙ step (name_at row.stem) _ (spelled_name_of s row row.stem) e5 rest (root_name_at s.root_names row.number.0) (λ more. name_again s row row.stem more fit.name)
    ∙ front pairs_at _ e5 rest (fields_of s.fields row.number.0) (λ more. again_pairs.back (fields_of s.fields row.number.0) more fit.fields short5)

pub again_entity : (s : State) → Again (spelled_entity s) (FitsEntity s) (entity_part s) (entity_at s.deployment)
again_entity s = record { back = entity_back s; some = λ row. omega arith }
