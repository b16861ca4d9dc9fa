-- Activities that were read stood in the bytes, with all that belongs to them.
use Rattle.std.proofs.Common.{◌≡◌, ℕ, zero, suc, ◌==◌, Bool, true, false, List, [], ◌∷◌, ◌++◌, refl, sym, ap, ◌∙◌, subst, inl, inr}
use Rattle.std.specs.Prelude.{Ok, Option, None, if◌then◌else◌}
use Rattle.std.proofs.lemmas.Bool.{cases_Bool}
use Rattle.slee_value.specs.Bytes.{spelled_u32, spelled_u64, spelled_flag, spelled_option, spelled_text}
use Rattle.slee_value.specs.Reading.{Part, ◌>>=◌, flag_at, mapped, option_at, text_at}
use Rattle.slee_value.proofs.ReadLemmas.{AreBytes, Takes, Takes-then, ok_is}
use Rattle.deploy_model.specs.Deployed.{Deployed, service_key, table_name, table_named}
use Rattle.router_state.specs.Parsing.{ActivityPart, activity_at, event_at, kind_at, list_at, pairs_at, service_number_at, table_number_at, u32_at, u64_at, until_at}
use Rattle.router_state.specs.Snapshot.{listed, spelled_event, spelled_kind, spelled_pair}
use Rattle.router_state.specs.declared.rows.AcKind.{AcKind}
use Rattle.router_state.specs.declared.rows.AcKind.TheVariants as kinds
use Rattle.router_state.specs.declared.rows.Event.{Event}
use Rattle.router_laws_reading.proofs.Taken.{Spells, first_part, key_there, spells_flag, spells_keyed, spells_list, spells_option, spells_pairs, spells_text, spells_u32, spells_u64, takes_none}
use Rattle.router_laws_reading.proofs.TakenEntities.{spells_services}

pub spells_tables : (d : Deployed) → Spells (λ n. spelled_text (table_name d n)) (table_number_at d)
spells_tables d = spells_keyed (table_named d) (table_name d) (λ name n is. key_there (λ t. t.name) d.tables name n is)

-- ---- kinds

-- a byte before what was taken
one_more : (b : ℕ) (rest text more : List ℕ) → Takes rest text more → Takes (b ∷ rest) (b ∷ text) more
one_more b rest text more takes = record { parts = ap (λ bytes. b ∷ bytes) takes.parts; rest_bytes = takes.rest_bytes }

kind_took : (d : Deployed) (bytes : List ℕ) (y : AcKind × List ℕ) → AreBytes bytes → kind_at d bytes ≡ Ok y → Takes bytes (spelled_kind d y.0) y.1
kind_took d [] y are is = absurd (cc)
kind_took d (zero ∷ rest) y are is =
    first_part spelled_text text_at _ rest y spells_text are.1 is (λ name t e.
    subst (λ (z : AcKind × List ℕ). Takes (0 ∷ rest) (spelled_kind d z.0) z.1) (ok_is (kinds.External name.0, name.1) y e) (one_more 0 rest (spelled_text name.0) name.1 t))
kind_took d (suc zero ∷ rest) y are is = subst (λ (z : AcKind × List ℕ). Takes (1 ∷ rest) (spelled_kind d z.0) z.1) (ok_is (kinds.Null, rest) y is) (record { parts = refl; rest_bytes = are.1 })
kind_took d (suc (suc zero) ∷ rest) y are is =
    first_part (λ n. spelled_text (service_key d n)) (service_number_at d) _ rest y (spells_services d) are.1 is (λ n t e.
    subst (λ (z : AcKind × List ℕ). Takes (2 ∷ rest) (spelled_kind d z.0) z.1) (ok_is (kinds.Service n.0, n.1) y e) (one_more 2 rest (spelled_text (service_key d n.0)) n.1 t))
kind_took d (suc (suc (suc zero)) ∷ rest) y are is =
    first_part (λ n. spelled_text (table_name d n)) (table_number_at d) _ rest y (spells_tables d) are.1 is (λ n t e.
    subst (λ (z : AcKind × List ℕ). Takes (3 ∷ rest) (spelled_kind d z.0) z.1) (ok_is (kinds.Table n.0, n.1) y e) (one_more 3 rest (spelled_text (table_name d n.0)) n.1 t))
kind_took d (suc (suc (suc (suc b))) ∷ rest) y are is = absurd (cc)

spells_kind : (d : Deployed) → Spells (spelled_kind d) (kind_at d)
spells_kind d = record { took = kind_took d }

-- ---- events

spells_event : (d : Deployed) → Spells (spelled_event d) (event_at d)
spells_event d = record {
  took = λ bytes y are is.
      first_part spelled_u64 u64_at _ bytes y spells_u64 are is (λ v t1 e1.
      first_part spelled_text text_at _ v.1 y spells_text t1.rest_bytes e1 (λ name t2 e2.
      first_part (spelled_option (λ n. spelled_text (service_key d n))) (option_at (service_number_at d)) _ name.1 y (spells_option (λ n. spelled_text (service_key d n)) (service_number_at d) (spells_services d)) t2.rest_bytes e2 (λ target t3 e3.
      first_part (listed spelled_pair) pairs_at _ target.1 y spells_pairs t3.rest_bytes e3 (λ fields t4 e4.
      (let event : Event = record { id = record { 0 = v.0 }; name = name.0; fields = fields.0; target = target.0 } in
      let b4 = listed spelled_pair fields.0 in
      let b3 = spelled_option (λ n. spelled_text (service_key d n)) target.0 in
      let j3 = Takes-then name.1 b3 target.1 b4 fields.1 t3 t4 in
      let j2 = Takes-then v.1 (spelled_text name.0) name.1 (b3 ++ b4) fields.1 t2 j3 in
      subst (λ z. Takes bytes (spelled_event d z.0) z.1) (ok_is (event, fields.1) y e4) (Takes-then bytes (spelled_u64 v.0) v.1 (spelled_text name.0 ++ (b3 ++ b4)) fields.1 t1 j2))))));
}

-- ---- activities

-- the bytes of an activity's suspension in a format
abbrev pub spelled_until : ℕ → Option ℕ → List ℕ
spelled_until format until = if format == 2 then spelled_option spelled_u64 until else []

spells_until : (format : ℕ) → Spells (spelled_until format) (until_at format)
spells_until format = record { took = λ bytes y are is. by bytes y (format == 2) are is }
  where
    by : (bytes : List ℕ) (y : Option ℕ × List ℕ) (two : Bool) → AreBytes bytes → (let read : Part (Option ℕ) = if two then option_at u64_at bytes else Ok (None, bytes) in read) ≡ Ok y → Takes bytes (if two then spelled_option spelled_u64 y.0 else []) y.1
    by bytes y true are is = (spells_option spelled_u64 u64_at spells_u64).took bytes y are is
    by bytes y false are is = (let none : Option ℕ = None in subst (λ (z : Option ℕ × List ℕ). Takes bytes [] z.1) (ok_is (none, bytes) y is) (takes_none bytes are))

-- the bytes of an activity as it was read, up to its suspension
abbrev pub spelled_activity_row : Deployed → ActivityPart → List ℕ
spelled_activity_row d x =
    spelled_u64 x.number
    ++ (spelled_kind d x.kind
    ++ (spelled_flag x.ending
    ++ (listed spelled_pair x.attributes
    ++ (listed (spelled_event d) x.events
    ++ (listed spelled_u32 x.services_done ++ listed spelled_u64 x.delivered)))))

-- all its bytes
abbrev pub spelled_activity_part : ℕ → Deployed → ActivityPart → List ℕ
spelled_activity_part format d x = spelled_activity_row d x ++ spelled_until format x.until

pub spells_activity : (format : ℕ) (d : Deployed) → Spells (spelled_activity_part format d) (activity_at format d)
spells_activity format d = record {
  took = λ bytes y are is.
      first_part spelled_u64 u64_at _ bytes y spells_u64 are is (λ n t1 e1.
      first_part (spelled_kind d) (kind_at d) _ n.1 y (spells_kind d) t1.rest_bytes e1 (λ kind t2 e2.
      first_part spelled_flag flag_at _ kind.1 y spells_flag t2.rest_bytes e2 (λ ending t3 e3.
      first_part (listed spelled_pair) pairs_at _ ending.1 y spells_pairs t3.rest_bytes e3 (λ attributes t4 e4.
      first_part (listed (spelled_event d)) (list_at (event_at d)) _ attributes.1 y (spells_list (spelled_event d) (event_at d) (spells_event d)) t4.rest_bytes e4 (λ events t5 e5.
      first_part (listed spelled_u32) (list_at u32_at) _ events.1 y (spells_list spelled_u32 u32_at spells_u32) t5.rest_bytes e5 (λ done t6 e6.
      first_part (listed spelled_u64) (list_at u64_at) _ done.1 y (spells_list spelled_u64 u64_at spells_u64) t6.rest_bytes e6 (λ delivered t7 e7.
      first_part (spelled_until format) (until_at format) _ delivered.1 y (spells_until format) t7.rest_bytes e7 (λ until t8 e8.
      (let part : ActivityPart = record { number = n.0; kind = kind.0; ending = ending.0; attributes = attributes.0; events = events.0; services_done = done.0; delivered = delivered.0; until = until.0 } in
      let b7 = listed spelled_u64 delivered.0 in
      let b6 = listed spelled_u32 done.0 ++ b7 in
      let b5 = listed (spelled_event d) events.0 ++ b6 in
      let b4 = listed spelled_pair attributes.0 ++ b5 in
      let b3 = spelled_flag ending.0 ++ b4 in
      let b2 = spelled_kind d kind.0 ++ b3 in
      let b1 = spelled_u64 n.0 ++ b2 in
      let j6 = Takes-then events.1 (listed spelled_u32 done.0) done.1 b7 delivered.1 t6 t7 in
      let j5 = Takes-then attributes.1 (listed (spelled_event d) events.0) events.1 b6 delivered.1 t5 j6 in
      let j4 = Takes-then ending.1 (listed spelled_pair attributes.0) attributes.1 b5 delivered.1 t4 j5 in
      let j3 = Takes-then kind.1 (spelled_flag ending.0) ending.1 b4 delivered.1 t3 j4 in
      let j2 = Takes-then n.1 (spelled_kind d kind.0) kind.1 b3 delivered.1 t2 j3 in
      let j1 = Takes-then bytes (spelled_u64 n.0) n.1 b2 delivered.1 t1 j2 in
      subst (λ z. Takes bytes (spelled_activity_part format d z.0) z.1) (ok_is (part, until.1) y e8) (Takes-then bytes b1 delivered.1 (spelled_until format until.0) until.1 j1 t8))))))))));
}
