-- The effects of a delivery of a programmed deployment apply.
use Rattle.std.proofs.Common.{◌≡◌, ℕ, zero, suc, ◌+◌, ◌<◌, ◌==◌, true, false, List, [], ◌∷◌, length, Option, Some, None, refl, sym, ap, subst, inl, inr, arith}
use Rattle.std.specs.Prelude.{find, is_some, nat_lt, option_map, slice_get}
use Rattle.std.specs.List.{list_all}
use Rattle.std.specs.Option.{option_map_or}
use Rattle.std.proofs.lemmas.Bool.{and_parts, cases_Bool, eqb-true, false≢true, ltb-true}
use Rattle.slee_value.specs.declared.ids.ActivityId.{ActivityId}
use Rattle.slee_value.specs.declared.value.Value.{Value}
use Rattle.script_types.specs.Program.{BlockProgram, Steps}
use Rattle.script_meaning.specs.Delivery.{Complete, Delivered, Delivery, NotChecked, Wants, delivered_by, handled, handler_of, with_block}
use Rattle.script_meaning.specs.Meaning.{script_in}
use Rattle.script_meaning.specs.declared.which.Part.TheVariants as part
use Rattle.script_laws.proofs.SafeDeliveries.{handler_place}
use Rattle.script_laws.specs.Told.{HasGiven}
use Rattle.deploy_model.specs.Deployed.{DeployedTable, event_fields}
use Rattle.router_laws_sound.proofs.SoundBase.{found_passes}
use Rattle.router_laws_suiting.proofs.StandingEffects.{handler_args, standing_given}
use Rattle.router_laws_suiting.proofs.ToldByStates.{activity_drawn, values_drawn}
use Rattle.router_laws_suiting.proofs.TypedPrograms.{script_typed}
use Rattle.router_laws_suiting.specs.Declared.{IsProgrammed}
use Rattle.router_laws_suiting.specs.Known.{IsDrawn}
use Rattle.router_laws_suiting.specs.Typed.{AllTyped}
use Rattle.router_state.specs.Contexts.{activity_at, is_of_table}
use Rattle.router_state.specs.Fits.{are_declared, is_drawn, is_value, none_or}
use Rattle.router_state.specs.Initial.{table_activity}
use Rattle.router_state.specs.Queues.{head_event, is_waiting, queued_before}
use Rattle.router_state.specs.State.{State}
use Rattle.router_state.specs.Trees.{entity_at}
use Rattle.router_state.specs.Well.{IsSound}
use Rattle.router_state.specs.WellContexts.{differ_in_kind, is_activity_row, tables_have_activities}
use Rattle.router_state.specs.WellEntities.{all_differ, is_entity_row}
use Rattle.router_state.specs.WellQueues.{differ_in_number, is_event_row}
use Rattle.router_state.specs.WellRows.{is_next_number}
use Rattle.router_state.specs.declared.rows.Activity.{Activity}
use Rattle.router_state.specs.declared.rows.Entity.{Entity}
use Rattle.router_state.specs.declared.rows.Event.{Event}
use Rattle.router_state.specs.declared.rows.Queued.{Queued}
use Rattle.router_steps.specs.Scripts.{answers_in, complete, delivered_in}
use Rattle.rows_sorted.specs.Orders.{rises_by, rises_in}

some_same : {X : Type 0} {x y : X} → Some x ≡ Some y → x ≡ y
some_same same = cc

-- The handler that a delivery ran.
pub record Ran (s : State) (a : ℕ) (v : Event) (row : Entity) (d : Delivered) : Type 0 where
  pub block : BlockProgram
  pub there : slice_get s.program row.block ≡ Some block
  pub steps : Steps
  pub handler : handler_of v.name block ≡ Some steps
  pub first : (place : ℕ) × (script_in block (part.On place) ≡ Some steps)
  pub done : delivered_by (answers_in s) s.program block steps row.number (record { 0 = a }) v.fields ≡ Complete d

pub handler_ran : (s : State) (a : ℕ) (v : Event) (row : Entity) (d : Delivered) → delivered_in s a v row ≡ Some d → Ran s a v row d
handler_ran s a v row d is = by_block (slice_get s.program row.block) refl is
  where
    ended : (r : Delivery) → complete r ≡ Some d → r ≡ Complete d
    ended (Complete x) same = ap Complete (some_same same)
    ended (Wants key) same = absurd (cc)
    ended NotChecked same = absurd (cc)

    by_steps : (block : BlockProgram) → slice_get s.program row.block ≡ Some block → (o : Option Steps) → handler_of v.name block ≡ o → complete (handled o (λ steps. delivered_by (answers_in s) s.program block steps row.number (record { 0 = a }) v.fields)) ≡ Some d → Ran s a v row d
    by_steps block there None found same = absurd (cc)
    by_steps block there (Some steps) found same = record { block = block; there = there; steps = steps; handler = found; first = handler_place v.name block.handlers steps found; done = ended (delivered_by (answers_in s) s.program block steps row.number (record { 0 = a }) v.fields) same }

    by_block : (o : Option BlockProgram) → slice_get s.program row.block ≡ o → complete (with_block o (λ block. handled (handler_of v.name block) (λ steps. delivered_by (answers_in s) s.program block steps row.number (record { 0 = a }) v.fields))) ≡ Some d → Ran s a v row d
    by_block None there same = absurd (cc)
    by_block (Some block) there same = by_steps block there (handler_of v.name block) refl same

-- What is so of the head event of an activity: it waits, its activity was drawn, and its values fit.
pub record IsHead (s : State) (a : ℕ) (v : Event) : Type 0 where
  pub waits : is_waiting s.events a ≡ true
  pub drawn : a < s.next_activity
  pub fields : list_all (λ (f : List ℕ × Value). is_value s.next_activity s.next_timer f.1) v.fields ≡ true

pub head_facts : (s : State) (a : ℕ) (v : Event) → IsSound s → head_event s.events a ≡ Some v → IsHead s a v
head_facts s a v sound is =
    let q = from_row (find (λ (q : Queued). q.activity.0 == a) s.events) is in
    let rows = (and_parts (list_all (is_event_row s.deployment s.activities s.next_activity s.next_timer s.next_event) s.events) _ (and_parts (all_differ differ_in_number s.events) _ (and_parts (rises_by queued_before s.events) _ sound.events).1).1).0 in
    let both = found_passes (is_event_row s.deployment s.activities s.next_activity s.next_timer s.next_event) (λ (q : Queued). q.activity.0 == a) s.events q.0 q.1 rows in
    let row = and_parts (is_some (activity_at s.activities q.0.activity.0)) _ (and_parts (is_drawn s.next_event q.0.event.id.0) _ both.0).1 in
    record {
      waits = some_waits s.events q.0 q.1;
      drawn = activity_drawn s sound a (subst (λ k. is_some (activity_at s.activities k) ≡ true) (eqb-true q.0.activity.0 a both.1) row.0);
      fields = subst (λ (e : Event). list_all (λ (f : List ℕ × Value). is_value s.next_activity s.next_timer f.1) e.fields ≡ true) q.2 (and_parts (option_map_or (λ declared. are_declared declared q.0.event.fields) (event_fields s.deployment q.0.event.name) false) _ (and_parts (none_or (λ service. nat_lt service (length s.deployment.services)) q.0.event.target) _ row.1).1).1;
    }
  where
    from_row : (o : Option Queued) → option_map (λ (q : Queued). q.event) o ≡ Some v → (q : Queued) × (o ≡ Some q) × (q.event ≡ v)
    from_row None is = absurd (cc)
    from_row (Some q) is = (q, refl, some_same is)

    some_waits : (events : List Queued) (q : Queued) → find (λ (q : Queued). q.activity.0 == a) events ≡ Some q → is_waiting events a ≡ true
    some_waits [] q is = absurd (cc)
    some_waits (x ∷ events) q is = elim (cases_Bool (x.activity.0 == a)) [
      | inl mine ↦ rw mine refl
      | inr other ↦ rw other (some_waits events q (rw other at is))
    ]

-- the activities of tables were drawn
tables_drawn : (s : State) → IsSound s → (place : ℕ) → place < length s.deployment.tables → (place + 1) < s.next_activity
tables_drawn s sound place less = activity_drawn s sound (place + 1) (subst (λ k. is_some (activity_at s.activities (k + 1)) ≡ true) (from_first place) (there s.deployment.tables 0 place less (and_parts (all_differ (λ (x y : Activity). differ_in_kind x.kind y.kind) s.activities) _ (and_parts (list_all (is_activity_row s.deployment s.next_activity) s.activities) _ (and_parts (rises_in (λ (r : Activity). r.number.0) s.activities) _ sound.activities).1).1).1))
  where
    from_first : (n : ℕ) → 0 + n ≡ n
    from_first n = omega arith

    some_row : (n : ℕ) (o : Option Activity) → option_map_or (λ (row : Activity). is_of_table n row.kind) o false ≡ true → is_some o ≡ true
    some_row n None is = absurd (false≢true is)
    some_row n (Some row) is = refl

    there : (ts : List DeployedTable) (n place : ℕ) → place < length ts → tables_have_activities s.activities n ts ≡ true → is_some (activity_at s.activities ((n + place) + 1)) ≡ true
    there [] n place less is = absurd (omega (arith, less))
    there (t ∷ ts) n zero less is = subst (λ k. is_some (activity_at s.activities (k + 1)) ≡ true) (none n) (some_row n (activity_at s.activities (table_activity n)) (and_parts (option_map_or (λ (row : Activity). is_of_table n row.kind) (activity_at s.activities (table_activity n)) false) _ is).0)
      where
        none : (n : ℕ) → n ≡ n + 0
        none n = omega arith
    there (t ∷ ts) n (suc place) less is = subst (λ k. is_some (activity_at s.activities (k + 1)) ≡ true) (moved n place) (there ts (n + 1) place (omega (arith, less)) (and_parts (option_map_or (λ (row : Activity). is_of_table n row.kind) (activity_at s.activities (table_activity n)) false) _ is).1)
      where
        moved : (n place : ℕ) → (n + 1) + place ≡ n + suc place
        moved n place = omega arith

-- what a delivery is given was drawn
pub given_drawn : (s : State) (a : ℕ) (v : Event) (row : Entity) (p : IsProgrammed s.deployment s.program) → IsSound s → IsHead s a v → entity_at s.entities row.number.0 ≡ Some row → HasGiven (IsDrawn s) p.codes row.number (handler_args (record { 0 = a }) v.fields)
given_drawn s a v row p sound head found = record {
  entity = below row found;
  activity = head.drawn;
  fields = values_drawn s sound v.fields head.fields;
  no_activity = some s.next_activity sound.next_activity;
  no_timer = some s.next_timer sound.next_timer;
  tables = λ place less. tables_drawn s sound place (subst (λ k. place < k) p.tables less);
}
  where
    some : (n : ℕ) → is_next_number n ≡ true → 0 < n
    some n is = ltb-true 0 n (and_parts (nat_lt 0 n) _ is).0

    below : (row : Entity) → entity_at s.entities row.number.0 ≡ Some row → row.number.0 < s.next_entity
    below row found =
        let rows = (and_parts (rises_in (λ (r : Entity). r.number.0) s.entities) _ sound.entities).1 in
        let both = found_passes (is_entity_row s.deployment s.entities s.next_entity) (λ (r : Entity). r.number.0 == row.number.0) s.entities row found rows in
        ltb-true row.number.0 s.next_entity (and_parts (nat_lt 0 row.number.0) _ (and_parts (is_drawn s.next_entity row.number.0) _ both.0).0).1

-- the effects that stand of a delivery are typed
pub delivery_typed : (s : State) (a : ℕ) (v : Event) (row : Entity) (d : Delivered) → IsSound s → IsProgrammed s.deployment s.program → delivered_in s a v row ≡ Some d → AllTyped s row.number.0 row.block a [] d.effects
delivery_typed s a v row d sound p is =
    let ran = handler_ran s a v row d is in
    elim (standing_given (answers_in s) s.program ran.block v.name ran.steps row.number (record { 0 = a }) v.fields d ran.handler ran.done) [
      | inl none ↦ subst (λ es. AllTyped s row.number.0 row.block a [] es) (sym none) tt
      | inr gives ↦ subst (λ es. AllTyped s row.number.0 row.block a [] es) (sym gives.same)
          (script_typed s row.block a row.number p.codes s.program ran.block gives.which gives.steps gives.arguments gives.flow gives.end sound p.made p.blocks p.declares ran.there gives.script (ap (λ (x : ActivityId). x.0) gives.acting) gives.gave)
    ]
