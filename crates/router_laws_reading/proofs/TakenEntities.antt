-- Services and entities that were read stood in the bytes.
use Rattle.std.proofs.Common.{◌≡◌, ℕ, zero, suc, List, [], ◌∷◌, ◌++◌, refl, sym, ap, ◌∙◌, subst}
use Rattle.std.specs.Prelude.{Ok, Err, Option, Some, None}
use Rattle.std.specs.Option.{option_map_or}
use Rattle.slee_value.specs.Bytes.{spelled_u64, spelled_i8, spelled_option, spelled_text}
use Rattle.slee_value.specs.Reading.{Part, ◌>>=◌, i8_at, mapped, option_at, text_at}
use Rattle.slee_value.specs.declared.convergence.ConvName.{ConvName}
use Rattle.slee_value.specs.declared.ids.ActivityId.{ActivityId}
use Rattle.slee_value.specs.declared.ids.EntityId.{EntityId}
use Rattle.slee_value.specs.declared.ids.EventId.{EventId}
use Rattle.slee_value.proofs.ReadLemmas.{AreBytes, Takes, Takes-then, ok_is}
use Rattle.deploy_model.specs.Deployed.{Deployed, block_key, block_named, service_key, service_named}
use Rattle.router_state.specs.Parsing.{EntityPart, activity_of, block_number_at, conv_at, entity_at, event_of, name_at, pairs_at, service_at, service_number_at, state_at, stem_at, u64_at}
use Rattle.router_state.specs.Snapshot.{listed, spelled_conv, spelled_pair, spelled_service, spelled_stem, state_byte}
use Rattle.router_state.specs.declared.rows.Service.{Service}
use Rattle.router_state.specs.declared.rows.ServiceState.{ServiceState}
use Rattle.router_state.specs.declared.rows.ServiceState.TheVariants as states
use Rattle.router_state.specs.declared.rows.Stem.{Stem}
use Rattle.router_state.specs.declared.rows.Stem.TheVariants as stems
use Rattle.router_laws_reading.proofs.Taken.{Spells, first_part, key_there, spells_i8, spells_keyed, spells_mapped, spells_option, spells_pairs, spells_text, spells_u64, takes_as, takes_none}

-- ---- services

state_took : (bytes : List ℕ) (y : ServiceState × List ℕ) → AreBytes bytes → state_at bytes ≡ Ok y → Takes bytes (state_byte y.0 ∷ []) y.1
state_took [] y are is = absurd (cc)
state_took (zero ∷ rest) y are is = subst (λ (z : ServiceState × List ℕ). Takes (0 ∷ rest) (state_byte z.0 ∷ []) z.1) (ok_is (states.Inactive, rest) y is) (record { parts = refl; rest_bytes = are.1 })
state_took (suc zero ∷ rest) y are is = subst (λ (z : ServiceState × List ℕ). Takes (1 ∷ rest) (state_byte z.0 ∷ []) z.1) (ok_is (states.Active, rest) y is) (record { parts = refl; rest_bytes = are.1 })
state_took (suc (suc zero) ∷ rest) y are is = subst (λ (z : ServiceState × List ℕ). Takes (2 ∷ rest) (state_byte z.0 ∷ []) z.1) (ok_is (states.Stopping, rest) y is) (record { parts = refl; rest_bytes = are.1 })
state_took (suc (suc (suc b)) ∷ rest) y are is = absurd (cc)

spells_state : Spells (λ state. state_byte state ∷ []) state_at
spells_state = record { took = state_took }

pub spells_service : Spells spelled_service service_at
spells_service = record {
  took = λ bytes y are is.
      first_part (λ state. state_byte state ∷ []) state_at _ bytes y spells_state are is (λ state t1 e1.
      first_part spelled_u64 u64_at _ state.1 y spells_u64 t1.rest_bytes e1 (λ a t2 e2.
      (let row : Service = record { state = state.0; activity = record { 0 = a.0 } } in
      subst (λ z. Takes bytes (spelled_service z.0) z.1) (ok_is (row, a.1) y e2) (Takes-then bytes (state_byte state.0 ∷ []) state.1 (spelled_u64 a.0) a.1 t1 t2))));
}

-- ---- convergence names

activity_spelled : (o : Option ℕ) → spelled_option spelled_u64 o ≡ spelled_option (λ (a : ActivityId). spelled_u64 a.0) (activity_of o)
activity_spelled None = refl
activity_spelled (Some n) = refl

event_spelled : (o : Option ℕ) → spelled_option spelled_u64 o ≡ spelled_option (λ (v : EventId). spelled_u64 v.0) (event_of o)
event_spelled None = refl
event_spelled (Some n) = refl

pub spells_conv : Spells spelled_conv conv_at
spells_conv = record {
  took = λ bytes y are is.
      first_part (spelled_option spelled_u64) (option_at u64_at) _ bytes y (spells_option spelled_u64 u64_at spells_u64) are is (λ a t1 e1.
      first_part (spelled_option spelled_text) (option_at text_at) _ a.1 y (spells_option spelled_text text_at spells_text) t1.rest_bytes e1 (λ address t2 e2.
      first_part (spelled_option spelled_text) (option_at text_at) _ address.1 y (spells_option spelled_text text_at spells_text) t2.rest_bytes e2 (λ kind t3 e3.
      first_part (spelled_option spelled_u64) (option_at u64_at) _ kind.1 y (spells_option spelled_u64 u64_at spells_u64) t3.rest_bytes e3 (λ v t4 e4.
      first_part (spelled_option spelled_text) (option_at text_at) _ v.1 y (spells_option spelled_text text_at spells_text) t4.rest_bytes e4 (λ custom t5 e5.
      (let name : ConvName = record { activity = activity_of a.0; address = address.0; event_type = kind.0; event = event_of v.0; custom = custom.0 } in
      let b1 = spelled_option (λ (a : ActivityId). spelled_u64 a.0) name.activity in
      let b4 = spelled_option (λ (v : EventId). spelled_u64 v.0) name.event in
      let b5 = spelled_option spelled_text custom.0 in
      let b45 = b4 ++ b5 in
      let b3 = spelled_option spelled_text kind.0 in
      let b2 = spelled_option spelled_text address.0 in
      let j1 = takes_as bytes (spelled_option spelled_u64 a.0) b1 a.1 (activity_spelled a.0) t1 in
      let j4 = takes_as kind.1 (spelled_option spelled_u64 v.0) b4 v.1 (event_spelled v.0) t4 in
      let j45 = Takes-then kind.1 b4 v.1 b5 custom.1 j4 t5 in
      let j345 = Takes-then address.1 b3 kind.1 b45 custom.1 t3 j45 in
      let j2345 = Takes-then a.1 b2 address.1 (b3 ++ b45) custom.1 t2 j345 in
      subst (λ z. Takes bytes (spelled_conv z.0) z.1) (ok_is (name, custom.1) y e5) (Takes-then bytes b1 a.1 (b2 ++ (b3 ++ b45)) custom.1 j1 j2345)))))));
}

-- ---- stems

-- the bytes of a stem behind the parent
abbrev pub stem_tail : Deployed → Stem → List ℕ
stem_tail d (stems.Root service) = spelled_text (service_key d service)
stem_tail d (stems.Child parent relation) = spelled_text relation

pub spells_services : (d : Deployed) → Spells (λ n. spelled_text (service_key d n)) (service_number_at d)
spells_services d = spells_keyed (service_named d) (service_key d) (λ name n is. key_there (λ s. s.key) d.services name n is)

pub spells_blocks : (d : Deployed) → Spells (λ n. spelled_text (block_key d n)) (block_number_at d)
spells_blocks d = spells_keyed (block_named d) (block_key d) (λ name n is. key_there (λ b. b.key) d.blocks name n is)

stem_took : (d : Deployed) (bytes : List ℕ) (parent : ℕ) (y : Stem × List ℕ) → AreBytes bytes → stem_at d parent bytes ≡ Ok y → Takes bytes (stem_tail d y.0) y.1 × (spelled_stem d y.0 ≡ spelled_u64 parent ++ stem_tail d y.0)
stem_took d bytes zero y are is =
    first_part (λ n. spelled_text (service_key d n)) (service_number_at d) _ bytes y (spells_services d) are is (λ n t1 e1.
    (let stem = stems.Root n.0 in
    subst (λ (z : Stem × List ℕ). Takes bytes (stem_tail d z.0) z.1 × (spelled_stem d z.0 ≡ spelled_u64 0 ++ stem_tail d z.0)) (ok_is (stem, n.1) y e1) (t1, refl)))
stem_took d bytes (suc parent) y are is =
    first_part spelled_text text_at _ bytes y spells_text are is (λ relation t1 e1.
    (let stem = stems.Child (record { 0 = suc parent }) relation.0 in
    subst (λ (z : Stem × List ℕ). Takes bytes (stem_tail d z.0) z.1 × (spelled_stem d z.0 ≡ spelled_u64 (suc parent) ++ stem_tail d z.0)) (ok_is (stem, relation.1) y e1) (t1, refl)))

-- what follows a stem that was read
abbrev stem_then : {B : Type 0} → Deployed → (Stem × List ℕ → Part B) → List ℕ → Part B
stem_then d f bytes = u64_at bytes >>= λ parent. stem_at d parent.0 parent.1 >>= f

stem_first : {B : Type 0} {P : Type 0} (d : Deployed) (f : Stem × List ℕ → Part B) (bytes : List ℕ) (y : B × List ℕ) → AreBytes bytes → stem_then d f bytes ≡ Ok y → ((x : Stem × List ℕ) → Takes bytes (spelled_stem d x.0) x.1 → f x ≡ Ok y → P) → P
stem_first {B} {P} d f bytes y are is on =
    first_part spelled_u64 u64_at _ bytes y spells_u64 are is (λ parent t1 e1. by parent t1 (stem_at d parent.0 parent.1) refl e1)
  where
    by : (parent : ℕ × List ℕ) → Takes bytes (spelled_u64 parent.0) parent.1 → (r : Part Stem) → stem_at d parent.0 parent.1 ≡ r → (r >>= f) ≡ Ok y → P
    by parent t1 (Err fault) own e = absurd (cc)
    by parent t1 (Ok x) own e =
        let more = stem_took d parent.1 parent.0 x t1.rest_bytes own in
        on x (takes_as bytes (spelled_u64 parent.0 ++ stem_tail d x.0) (spelled_stem d x.0) x.1 (sym more.1) (Takes-then bytes (spelled_u64 parent.0) parent.1 (stem_tail d x.0) x.1 t1 more.0)) e

-- ---- entities

-- the bytes of a root's convergence name; a child has none
abbrev pub spelled_name_part : Stem → Option ConvName → List ℕ
spelled_name_part (stems.Root service) name = option_map_or spelled_conv name []
spelled_name_part (stems.Child parent relation) name = []

spells_name : (stem : Stem) → Spells (spelled_name_part stem) (name_at stem)
spells_name (stems.Root service) = spells_mapped (λ name. Some name) spelled_conv (spelled_name_part (stems.Root service)) conv_at (λ name. refl) spells_conv
spells_name (stems.Child parent relation) = record {
  took = λ bytes y are is. (let none : Option ConvName = None in subst (λ (z : Option ConvName × List ℕ). Takes bytes [] z.1) (ok_is (none, bytes) y is) (takes_none bytes are));
}

-- the bytes of an entity as it was read
abbrev pub spelled_entity_part : Deployed → EntityPart → List ℕ
spelled_entity_part d x =
    spelled_u64 x.number
    ++ (spelled_text (block_key d x.block)
    ++ (spelled_stem d x.stem
    ++ (spelled_i8 x.priority
    ++ (spelled_name_part x.stem x.name ++ listed spelled_pair x.fields))))

pub spells_entity : (d : Deployed) → Spells (spelled_entity_part d) (entity_at d)
spells_entity d = record {
  took = λ bytes y are is.
      first_part spelled_u64 u64_at _ bytes y spells_u64 are is (λ n t1 e1.
      first_part (λ n. spelled_text (block_key d n)) (block_number_at d) _ n.1 y (spells_blocks d) t1.rest_bytes e1 (λ block t2 e2.
      stem_first d _ block.1 y t2.rest_bytes e2 (λ stem t3 e3.
      first_part spelled_i8 i8_at _ stem.1 y spells_i8 t3.rest_bytes e3 (λ priority t4 e4.
      first_part (spelled_name_part stem.0) (name_at stem.0) _ priority.1 y (spells_name stem.0) t4.rest_bytes e4 (λ name t5 e5.
      first_part (listed spelled_pair) pairs_at _ name.1 y spells_pairs t5.rest_bytes e5 (λ fields t6 e6.
      (let part : EntityPart = record { number = n.0; block = block.0; stem = stem.0; priority = priority.0; name = name.0; fields = fields.0 } in
      let b6 = listed spelled_pair fields.0 in
      let b5 = spelled_name_part stem.0 name.0 ++ b6 in
      let b4 = spelled_i8 priority.0 ++ b5 in
      let b3 = spelled_stem d stem.0 ++ b4 in
      let b2 = spelled_text (block_key d block.0) ++ b3 in
      let j5 = Takes-then priority.1 (spelled_name_part stem.0 name.0) name.1 b6 fields.1 t5 t6 in
      let j4 = Takes-then stem.1 (spelled_i8 priority.0) priority.1 b5 fields.1 t4 j5 in
      let j3 = Takes-then block.1 (spelled_stem d stem.0) stem.1 b4 fields.1 t3 j4 in
      let j2 = Takes-then n.1 (spelled_text (block_key d block.0)) block.1 b3 fields.1 t2 j3 in
      subst (λ z. Takes bytes (spelled_entity_part d z.0) z.1) (ok_is (part, fields.1) y e6) (Takes-then bytes (spelled_u64 n.0) n.1 b2 fields.1 t1 j2))))))));
}
