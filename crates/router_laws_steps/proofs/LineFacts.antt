-- A service stops, and the row of a table changes: each keeps every part sound.
use Rattle.deploy_model.specs.Deployed.{Deployed, DeployedTable}
use Rattle.deploy_model.specs.declared.parts.Table.{Table}
use Rattle.router_laws_sound.proofs.SoundApplied.{not_none}
use Rattle.router_laws_sound.proofs.SoundBase.{found_passes, some_there}
use Rattle.router_laws_sound.proofs.SoundClosing.{inactive_row, sound_service}
use Rattle.router_laws_sound.proofs.SoundMoves.{sound_queued}
use Rattle.router_laws_sound.proofs.SoundRows.{CanHaveRow, sound_row_added, sound_row_removed, sound_row_updated}
use Rattle.router_laws_sound.specs.Moves.{is_table}
use Rattle.router_laws_sound.specs.Rooms.{HasRoom}
use Rattle.router_laws_steps.proofs.LineMoves.{active_is_there, can_end, positive_next, services_of_kind}
use Rattle.router_state.specs.Changes.{after_change}
use Rattle.router_state.specs.Contexts.{activity_at, is_active, is_of_service, is_of_table}
use Rattle.router_state.specs.Fits.{is_drawn, is_text, is_u64}
use Rattle.router_state.specs.Initial.{table_activity}
use Rattle.router_state.specs.Services.{is_active as is_service_active, with_service as with_service_row}
use Rattle.router_state.specs.State.{State}
use Rattle.router_state.specs.Well.{IsSound}
use Rattle.router_state.specs.WellContexts.{are_services_from, differ_in_kind, is_activity_of, is_activity_row, is_kind, is_service_row, tables_have_activities}
use Rattle.router_state.specs.WellEntities.{all_differ}
use Rattle.router_state.specs.WellQueues.{has_event_fields, is_end}
use Rattle.router_state.specs.declared.rows.AcKind.{AcKind}
use Rattle.router_state.specs.declared.rows.Activity.{Activity}
use Rattle.router_state.specs.declared.rows.Service.{Service}
use Rattle.router_state.specs.declared.rows.ServiceState.{ServiceState}
use Rattle.router_steps.specs.Actions.{RowAdded, RowChange, RowRemoved, RowUpdated, change_of_row, event_of_row}
use Rattle.router_steps.specs.Moves.{ended, with_service}
use Rattle.router_steps.specs.Taking.{ended_if, row_changed}
use Rattle.rows_sorted.specs.Orders.{rises_in}
use Rattle.script_meaning.specs.Values.{number}
use Rattle.std.proofs.Common.{Bool, List, None, Option, Some, [], ap, arith, false, inl, inr, length, refl, subst, suc, sym, true, zero, ℕ, ◌+◌, ◌==◌, ◌∙◌, ◌∷◌, ◌≡◌}
use Rattle.std.proofs.lemmas.Bool.{and_from, and_parts, cases_Bool, eqb-true, false≢true, not-true}
use Rattle.std.proofs.lemmas.Bool.Decides.{nat_tests}
use Rattle.std.specs.List.{list_all}
use Rattle.std.specs.Option.{option_map_or}
use Rattle.std.specs.Prelude.{codes, nat_lt, not, slice_get, ◌-◌}
use Rattle.router_state.specs.declared.rows.AcKind.TheVariants as kinds
use Rattle.router_state.specs.declared.rows.ServiceState.TheVariants as states
use Rattle.slee_value.specs.declared.value.Value.TheVariants as values

-- services

pub service_passes : (rows : List Activity) (m n k : ℕ) (services : List Service) (x : Service) → k ≡ m + n → slice_get services n ≡ Some x → are_services_from rows m services ≡ true → is_service_row rows k x ≡ true
service_passes rows m n k [] x place found all = absurd (cc)
service_passes rows m zero k (y ∷ services) x place found all =
    let parts = and_parts (is_service_row rows m y) (are_services_from rows (m + 1) services) all in
    subst (λ z. is_service_row rows k z ≡ true) (some_same found) (subst (λ i. is_service_row rows i y ≡ true) (none m k place) parts.0)
  where
    some_same : {X : Type 0} {x y : X} → Some x ≡ Some y → x ≡ y
    some_same same = cc

    none : (m k : ℕ) → k ≡ m + 0 → m ≡ k
    none m k place = omega (arith, place)
service_passes rows m (suc n) k (y ∷ services) x place found all =
    let parts = and_parts (is_service_row rows m y) (are_services_from rows (m + 1) services) all in
    service_passes rows (m + 1) n k services x (next m n k place) found parts.1
  where
    next : (m n k : ℕ) → k ≡ m + suc n → k ≡ m + 1 + n
    next m n k place = omega (arith, place)

pub service_there : (n : ℕ) (services : List Service) (x : Service) → slice_get services n ≡ Some x → nat_lt n (length services) ≡ true
service_there n [] x found = absurd (cc)
service_there zero (y ∷ services) x found = positive (length services)
  where
    positive : (k : ℕ) → nat_lt 0 (suc k) ≡ true
    positive k = grind (arith, nat_tests)
service_there (suc n) (y ∷ services) x found = more n (length services) (service_there n services x found)
  where
    more : (n k : ℕ) → nat_lt n k ≡ true → nat_lt (suc n) (suc k) ≡ true
    more n k less = grind (arith, nat_tests)

state_set : (n : ℕ) (services : List Service) (state : ServiceState) (a : ℕ) (y : Service) → slice_get (with_service_row services n state a) n ≡ Some y → y.state ≡ state
state_set n [] state a y found = absurd (cc)
state_set zero (x ∷ services) state a y found = ap (λ (z : Service). z.state) (sym (some_same found))
  where
    some_same : {X : Type 0} {x y : X} → Some x ≡ Some y → x ≡ y
    some_same same = cc
state_set (suc n) (x ∷ services) state a y found = state_set n services state a y found

-- an activity of a service is none of a table, and of no other service
no_table : (n : ℕ) (kind : AcKind) → is_of_service n kind ≡ true → not (is_table kind) ≡ true
no_table n (kinds.External name) is = absurd (cc)
no_table n kinds.Null is = absurd (cc)
no_table n (kinds.Service own) is = refl
no_table n (kinds.Table own) is = absurd (cc)

one_service : (n k : ℕ) (kind : AcKind) → is_of_service n kind ≡ true → is_of_service k kind ≡ true → k ≡ n
one_service n k (kinds.External name) one two = absurd (cc)
one_service n k kinds.Null one two = absurd (cc)
one_service n k (kinds.Service own) one two = sym (eqb-true own k two) ∙ eqb-true own n one
one_service n k (kinds.Table own) one two = absurd (cc)

pub sound_stopped : (s : State) (n : ℕ) (x : Service) → IsSound s → slice_get s.services n ≡ Some x → HasRoom (ended_if x.activity.0 (with_service s n states.Stopping x.activity.0)) → IsSound (ended_if x.activity.0 (with_service s n states.Stopping x.activity.0))
sound_stopped s n x sound found room =
    let a = x.activity.0 in
    let t = with_service s n states.Stopping a in
    let own = and_parts (length s.services == length s.deployment.services) (are_services_from s.activities 0 s.services) sound.services in
    let mine = service_passes s.activities 0 n n s.services x (from_none n) found own.1 in
    let one = sound_service s n states.Stopping a sound (inactive_row s.activities n x states.Stopping refl mine) in
    elim (cases_Bool (is_active t.activities a)) [
      | inr idle ↦ rw idle one
      | inl active ↦
          let end : HasRoom (ended t a) = rw active at room in
          let there = active_is_there t a active in
          let row = some_there (activity_at t.activities a) there in
          let some = not_none t a one there in
          let kind : is_of_service n row.0.kind ≡ true = of_kind (x.activity.0 == 0) refl mine some row.0 row.1 in
          let awake : row.0.ending ≡ false = not-true row.0.ending (rw row.1 at active) in
          let services = and_parts (length t.services == length t.deployment.services) (are_services_from t.activities 0 t.services) one.services in
          rw active (can_end t a row.0 one row.1 awake (no_table n row.0.kind kind)
          (services_of_kind t.activities a row.0 0 t.services row.1 some services.1
          (λ k y other there le place. stopping k y (one_service n k row.0.kind kind other) place)) end.event)
    ]
  where
    from_none : (n : ℕ) → n ≡ 0 + n
    from_none n = omega arith

    minus_none : (k : ℕ) → k - 0 ≡ k
    minus_none k = omega arith

    of_kind : (b : Bool) → (x.activity.0 == 0) ≡ b → is_service_row s.activities n x ≡ true → (x.activity.0 == 0) ≡ false → (row : Activity) → activity_at s.activities x.activity.0 ≡ Some row → is_of_service n row.kind ≡ true
    of_kind true none is some row found = absurd (false≢true (sym some ∙ none))
    of_kind false isnt is some row found = (let passes : is_activity_of n x row ≡ true = rw (isnt, found) at is in (and_parts (is_of_service n row.kind) _ passes).0)

    stopping : (k : ℕ) (y : Service) → k ≡ n → slice_get (with_service_row s.services n states.Stopping x.activity.0) (k - 0) ≡ Some y → not (is_service_active y.state) ≡ true
    stopping k y same place =
        let here : slice_get (with_service_row s.services n states.Stopping x.activity.0) n ≡ Some y = subst (λ i. slice_get (with_service_row s.services n states.Stopping x.activity.0) i ≡ Some y) (minus_none k ∙ same) place in
        rw (state_set n s.services states.Stopping x.activity.0 y here) refl

-- rows of tables

-- the activity of a table is Active
pub table_active : (s : State) (n : ℕ) → IsSound s → nat_lt n (length s.deployment.tables) ≡ true → is_active s.activities (table_activity n) ≡ true
table_active s n sound there =
    let acts = and_parts (rises_in (λ (r : Activity). r.number.0) s.activities) _ sound.activities in
    let tests = and_parts (list_all (is_activity_row s.deployment s.next_activity) s.activities) _ acts.1 in
    let tables = (and_parts (all_differ (λ (x y : Activity). differ_in_kind x.kind y.kind) s.activities) (tables_have_activities s.activities 0 s.deployment.tables) tests.1).1 in
    let own : option_map_or (λ (row : Activity). is_of_table n row.kind) (activity_at s.activities (table_activity n)) false ≡ true = each s.deployment.tables 0 n n (from_none n) there tables in
    by (activity_at s.activities (table_activity n)) refl own tests.0
  where
    from_none : (n : ℕ) → n ≡ 0 + n
    from_none n = omega arith

    next : (m n k : ℕ) → k ≡ m + suc n → k ≡ m + 1 + n
    next m n k place = omega (arith, place)

    none : (m k : ℕ) → k ≡ m + 0 → m ≡ k
    none m k place = omega (arith, place)

    never : (n : ℕ) → nat_lt n 0 ≡ false
    never n = grind (arith, nat_tests)

    fewer : (n k : ℕ) → nat_lt (suc n) (suc k) ≡ true → nat_lt n k ≡ true
    fewer n k less = grind (arith, nat_tests)

    each : (tables : List DeployedTable) (m i k : ℕ) → k ≡ m + i → nat_lt i (length tables) ≡ true → tables_have_activities s.activities m tables ≡ true → option_map_or (λ (row : Activity). is_of_table k row.kind) (activity_at s.activities (table_activity k)) false ≡ true
    each [] m i k place less all = absurd (false≢true (sym (never i) ∙ less))
    each (t ∷ tables) m zero k place less all =
        subst (λ j. option_map_or (λ (row : Activity). is_of_table j row.kind) (activity_at s.activities (table_activity j)) false ≡ true) (none m k place)
        (and_parts (option_map_or (λ (row : Activity). is_of_table m row.kind) (activity_at s.activities (table_activity m)) false) (tables_have_activities s.activities (m + 1) tables) all).0
    each (t ∷ tables) m (suc i) k place less all =
        each tables (m + 1) i k (next m i k place) (fewer i (length tables) less) (and_parts (option_map_or (λ (row : Activity). is_of_table m row.kind) (activity_at s.activities (table_activity m)) false) (tables_have_activities s.activities (m + 1) tables) all).1

    awake : (row : Activity) (kind : AcKind) → is_of_table n kind ≡ true → is_kind s.deployment row kind ≡ true → not row.ending ≡ true
    awake row (kinds.External name) is fits = absurd (cc)
    awake row kinds.Null is fits = absurd (cc)
    awake row (kinds.Service own) is fits = absurd (cc)
    awake row (kinds.Table own) is fits = (and_parts (row.number.0 == table_activity own) (not row.ending) (and_parts (nat_lt own (length s.deployment.tables)) _ fits).1).1

    by : (o : Option Activity) → activity_at s.activities (table_activity n) ≡ o → option_map_or (λ (row : Activity). is_of_table n row.kind) o false ≡ true → list_all (is_activity_row s.deployment s.next_activity) s.activities ≡ true → option_map_or (λ (row : Activity). not row.ending) (activity_at s.activities (table_activity n)) false ≡ true
    by None found is all = absurd (cc)
    by (Some row) found is all =
        let passes = (found_passes (is_activity_row s.deployment s.next_activity) (λ (r : Activity). r.number.0 == table_activity n) s.activities row found all).0 in
        rw found (awake row row.kind is (and_parts (is_drawn s.next_activity row.number.0) _ passes).1)

-- a change of a row, where the row may be so
abbrev pub CanChange : State → ℕ → List ℕ → RowChange → Type 0
CanChange s table row (RowAdded attributes) = CanHaveRow s table row attributes
CanChange s table row (RowUpdated attributes) = CanHaveRow s table row attributes
CanChange s table row RowRemoved = Unit {0}

changed : (s : State) (table : ℕ) (row : List ℕ) (change : RowChange) → IsSound s → CanChange s table row change → IsSound (after_change (change_of_row table row change) s)
changed s table row (RowAdded attributes) sound can = sound_row_added s table row attributes sound can
changed s table row (RowUpdated attributes) sound can = sound_row_updated s table row attributes sound can
changed s table row RowRemoved sound can = sound_row_removed s table row sound

row_fields : (d : Deployed) (n m : ℕ) (row : List ℕ) (change : RowChange) (v : ℕ) → is_text row ≡ true → has_event_fields d n m (record { id = record { 0 = v }; name = event_of_row change; fields = (codes "row", values.Text row) ∷ []; target = None }) ≡ true
row_fields d n m row (RowAdded attributes) v text = and_from (is_text row) _ text refl
row_fields d n m row (RowUpdated attributes) v text = and_from (is_text row) _ text refl
row_fields d n m row RowRemoved v text = and_from (is_text row) _ text refl

no_end : (change : RowChange) (v : ℕ) (row : List ℕ) → is_end (record { id = record { 0 = v }; name = event_of_row change; fields = (codes "row", values.Text row) ∷ []; target = None }) ≡ false
no_end (RowAdded attributes) v row = refl
no_end (RowUpdated attributes) v row = refl
no_end RowRemoved v row = refl

same_activities : (s : State) (table : ℕ) (row : List ℕ) (change : RowChange) → ((after_change (change_of_row table row change) s).activities ≡ s.activities) × ((after_change (change_of_row table row change) s).next_event ≡ s.next_event)
same_activities s table row (RowAdded attributes) = (refl, refl)
same_activities s table row (RowUpdated attributes) = (refl, refl)
same_activities s table row RowRemoved = (refl, refl)

pub sound_row_changed : (s : State) (table : ℕ) (row : List ℕ) (change : RowChange) → IsSound s → nat_lt table (length s.deployment.tables) ≡ true → is_text row ≡ true → CanChange s table row change → is_u64 (s.next_event + 1) ≡ true → IsSound (row_changed table row change s)
sound_row_changed s table row change sound there text can room =
    let t = after_change (change_of_row table row change) s in
    let one = changed s table row change sound can in
    let same = same_activities s table row change in
    let active : is_active t.activities (table_activity table) ≡ true = subst (λ rows. is_active rows (table_activity table) ≡ true) (sym same.0) (table_active s table sound there) in
    let more : is_u64 (t.next_event + 1) ≡ true = subst (λ n. is_u64 (n + 1) ≡ true) (sym same.1) room in
    sound_queued t (table_activity table) (event_of_row change) ((codes "row", values.Text row) ∷ []) None one
    (record { number = refl; some = positive_next t one; there = active_is_there t (table_activity table) active; target = refl; fields = row_fields t.deployment t.next_activity t.next_timer row change t.next_event text }) active (no_end change t.next_event row) more
