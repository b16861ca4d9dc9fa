-- The well-formed state that bytes are is the one that is restored, and no other.
use Rattle.std.proofs.Common.{◌≡◌, ℕ, ◌^◌, ◌<◌, true, ◌&&◌, List, [], length, refl, sym, ap, ◌∙◌, subst, inl, inr}
use Rattle.std.specs.Prelude.{Option, Some, None, Result, Ok, Err}
use Rattle.std.specs.Str.{bytes_eq}
use Rattle.std.proofs.lemmas.Bool.{and_from, and_parts, cases_Bool}
use Rattle.std.proofs.lemmas.Option.{same_Some}
use Rattle.std.proofs.lemmas.Slice.Eq.{bytes_eq-Decides}
use Rattle.slee_value.specs.Reading.{Fault, Part, ◌>>=◌}
use Rattle.script_types.specs.Program.{Program}
use Rattle.deploy_model.specs.Deployed.{Deployed}
use Rattle.router_state.specs.State.{State}
use Rattle.router_state.specs.Parsing.{activity_at, entity_at, link_at, list_at, named_at, row_at, service_at, suspensions_at, timer_at, u64_at}
use Rattle.router_state.specs.Restoring.{IsSnapshot, parsed, restored, tested}
use Rattle.router_state.specs.Snapshot.{spelled_state}
use Rattle.router_state.specs.Well.{IsSound, IsWell, are_contexts_sound, are_counts, are_entities_sound, are_queues_sound, is_closed, is_sound, is_well}
use Rattle.router_laws_snapshots.specs.Named.{IsNamed}
use Rattle.router_laws_snapshots.proofs.Gathered.{sound_gathered}
use Rattle.router_laws_snapshots.proofs.Parsed.{parsed_again}
use Rattle.router_laws_snapshots.proofs.SoundContexts.{sound_readable}

-- ---- the tests in one say what they say one by one

sound_passes : (s : State) → IsSound s → is_sound s ≡ true
sound_passes s p =
    and_from (are_counts s) _
    (and_from _ _ p.clock (and_from _ _ p.inputs (and_from _ _ p.next_entity (and_from _ _ p.next_activity (and_from _ _ p.next_timer p.next_event)))))
    (and_from _ _ p.services
    (and_from (are_entities_sound s) _ (and_from _ _ p.entities (and_from _ _ p.root_names (and_from _ _ p.apart p.fields)))
    (and_from (are_contexts_sound s) _ (and_from _ _ p.activities (and_from _ _ p.attributes (and_from _ _ p.links (and_from _ _ p.masks p.names))))
    (and_from (are_queues_sound s) _ (and_from _ _ p.events (and_from _ _ p.services_done (and_from _ _ p.delivered p.suspensions)))
    (and_from _ _ p.timers p.rows)))))

pub well_passes : (s : State) → IsWell s → is_well s ≡ true
well_passes s well =
    and_from (is_sound s) (is_closed s) (sound_passes s well.sound) (and_from _ _ well.closed.roots (and_from _ _ well.closed.services well.closed.nulls))

passes_sound : (s : State) → is_sound s ≡ true → IsSound s
passes_sound s is =
    let all = and_parts (are_counts s) _ is in
    let c1 = and_parts _ _ all.0 in
    let c2 = and_parts _ _ c1.1 in
    let c3 = and_parts _ _ c2.1 in
    let c4 = and_parts _ _ c3.1 in
    let c5 = and_parts _ _ c4.1 in
    let services = and_parts _ _ all.1 in
    let entities = and_parts (are_entities_sound s) _ services.1 in
    let e1 = and_parts _ _ entities.0 in
    let e2 = and_parts _ _ e1.1 in
    let e3 = and_parts _ _ e2.1 in
    let contexts = and_parts (are_contexts_sound s) _ entities.1 in
    let a1 = and_parts _ _ contexts.0 in
    let a2 = and_parts _ _ a1.1 in
    let a3 = and_parts _ _ a2.1 in
    let a4 = and_parts _ _ a3.1 in
    let queues = and_parts (are_queues_sound s) _ contexts.1 in
    let q1 = and_parts _ _ queues.0 in
    let q2 = and_parts _ _ q1.1 in
    let q3 = and_parts _ _ q2.1 in
    let last = and_parts _ _ queues.1 in
    record {
      clock = c1.0;
      inputs = c2.0;
      next_entity = c3.0;
      next_activity = c4.0;
      next_timer = c5.0;
      next_event = c5.1;
      services = services.0;
      entities = e1.0;
      root_names = e2.0;
      apart = e3.0;
      fields = e3.1;
      activities = a1.0;
      attributes = a2.0;
      links = a3.0;
      masks = a4.0;
      names = a4.1;
      events = q1.0;
      services_done = q2.0;
      delivered = q3.0;
      suspensions = q3.1;
      timers = last.0;
      rows = last.1;
    }

pub passes_well : (s : State) → is_well s ≡ true → IsWell s
passes_well s is =
    let parts = and_parts (is_sound s) (is_closed s) is in
    let one = and_parts _ _ parts.1 in
    let two = and_parts _ _ one.1 in
    record { sound = passes_sound s parts.0; closed = record { roots = one.0; services = two.0; nulls = two.1 } }

-- ---- what was parsed is tested

tested_same : (format : ℕ) (bytes : List ℕ) (s : State) (read : Part State) → read ≡ Ok (s, []) → spelled_state format s ≡ bytes → IsWell s → tested format bytes read ≡ Some s
tested_same format bytes s read is spelled well =
    rw (is, (bytes_eq-Decides (spelled_state format s) bytes).1 spelled, well_passes s well) refl

tested_is : (format : ℕ) (bytes : List ℕ) (read : Part State) (s : State) → tested format bytes read ≡ Some s → (rest : List ℕ) × (read ≡ Ok (s, rest)) × (spelled_state format s ≡ bytes) × (is_well s ≡ true)
tested_is format bytes (Err fault) s is = absurd (cc)
tested_is format bytes (Ok x) s is = elim (cases_Bool (bytes_eq (spelled_state format x.0) bytes && is_well x.0)) [
  | inl passes ↦ (
      let same : x.0 ≡ s = same_Some x.0 s (rw passes at is) in
      let parts = and_parts (bytes_eq (spelled_state format x.0) bytes) (is_well x.0) passes in
      (x.1, ap (λ t. let read : Part State = Ok (t, x.1) in read) same, subst (λ t. spelled_state format t ≡ bytes) same ((bytes_eq-Decides (spelled_state format x.0) bytes).0 parts.0), subst (λ t. is_well t ≡ true) same parts.1))
  | inr fails ↦ absurd (none_some s (rw fails at is))
]
  where
    none_some : (s : State) → (let none : Option State = None in none) ≡ Some s → ⊥
    none_some s is = absurd (cc)

-- a step that gave something went on from what it read
through : {A B : Type 0} {P : Type 0} (read : Result A Fault) (f : A → Result B Fault) (y : B) → (read >>= f) ≡ Ok y → ((x : A) → f x ≡ Ok y → P) → P
through (Ok x) f y is on = on x is
through (Err fault) f y is on = absurd (cc)

-- what is parsed is a state of the deployment and its program
parsed_of : (format : ℕ) (d : Deployed) (p : Program) (bytes : List ℕ) (x : State × List ℕ) → parsed format d p bytes ≡ Ok x → (x.0.deployment ≡ d) × (x.0.program ≡ p)
parsed_of format d p bytes x is =
    through (u64_at bytes) _ x is (λ clock e1. through (u64_at clock.1) _ x e1 (λ inputs e2. through (u64_at inputs.1) _ x e2 (λ entity e3. through (u64_at entity.1) _ x e3 (λ activity e4.
    through (u64_at activity.1) _ x e4 (λ timer e5. through (u64_at timer.1) _ x e5 (λ event e6. through (list_at service_at event.1) _ x e6 (λ services e7. through (list_at (entity_at d) services.1) _ x e7 (λ entities e8.
    through (list_at (activity_at format d) entities.1) _ x e8 (λ activities e9. through (list_at link_at activities.1) _ x e9 (λ links e10. through (list_at named_at links.1) _ x e10 (λ names e11.
    through (list_at timer_at names.1) _ x e11 (λ timers e12. through (list_at (row_at d) timers.1) _ x e12 (λ rows e13. through (suspensions_at format rows.1) _ x e13 (λ suspensions e14.
    (ap (λ (r : Part State). deployment_in d r) (sym e14), ap (λ (r : Part State). program_in p r) (sym e14))))))))))))))))
  where
    deployment_in : Deployed → Part State → Deployed
    deployment_in d (Ok x) = x.0.deployment
    deployment_in d (Err fault) = d

    program_in : Program → Part State → Program
    program_in p (Ok x) = x.0.program
    program_in p (Err fault) = p

-- ---- both directions

pub restored_again : (format : ℕ) (s : State) → IsNamed s.deployment → IsWell s → length (spelled_state format s) < 2 ^ 64 → restored format s.deployment s.program (spelled_state format s) ≡ Some s
restored_again format s named well short =
    tested_same format (spelled_state format s) s (parsed format s.deployment s.program (spelled_state format s)) (parsed_again format s (sound_readable s named well.sound) (sound_gathered s well.sound) short) refl well

pub restored_is : (format : ℕ) (d : Deployed) (p : Program) (bytes : List ℕ) (s : State) → restored format d p bytes ≡ Some s → IsSnapshot format d p bytes s
restored_is format d p bytes s is =
    let found = tested_is format bytes (parsed format d p bytes) s is in
    let own = parsed_of format d p bytes (s, found.0) found.1 in
    record { deployment = own.0; program = own.1; spelled = found.2; well = passes_well s found.3 }

pub snapshot_restored : (format : ℕ) (d : Deployed) (p : Program) (bytes : List ℕ) (s : State) → IsNamed d → length bytes < 2 ^ 64 → IsSnapshot format d p bytes s → restored format d p bytes ≡ Some s
snapshot_restored format d p bytes s named short is =
    rw (← is.deployment, ← is.program, ← is.spelled) (restored_again format s (subst IsNamed (sym is.deployment) named) is.well (subst (λ b. length b < 2 ^ 64) (sym is.spelled) short))

pub snapshots_same : (format : ℕ) (d : Deployed) (p : Program) (bytes : List ℕ) (s t : State) → IsNamed d → length bytes < 2 ^ 64 → IsSnapshot format d p bytes s → IsSnapshot format d p bytes t → s ≡ t
snapshots_same format d p bytes s t named short one two =
    same_Some s t (sym (snapshot_restored format d p bytes s named short one) ∙ snapshot_restored format d p bytes t named short two)
