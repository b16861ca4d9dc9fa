-- The snapshot text of a well-formed state stands for it, be it the first state of its deployment or not.
use Rattle.std.proofs.Common.{◌≡◌, ℕ, suc, ◌+◌, ◌==◌, ◌^◌, ◌<◌, ◌≤◌, Bool, true, false, List, [], ◌∷◌, length, map, refl, sym, ap, ◌∙◌, subst, ◌⊎◌, inl, inr, arith}
use Rattle.std.specs.Prelude.{Some, flat_map, if◌then◌else◌}
use Rattle.std.specs.Option.{option_map_or}
use Rattle.std.specs.List.{AllByRecursion, list_all}
use Rattle.std.specs.Str.{bytes_eq}
use Rattle.std.proofs.lemmas.Bool.{and_parts, cases_Bool, eqb-true}
use Rattle.std.proofs.lemmas.Option.{same_Some}
use Rattle.std.proofs.lemmas.Slice.Eq.{bytes_eq-Decides}
use Rattle.slee_value.proofs.ReadLemmas.{ok_is}
use Rattle.script_types.specs.Program.{Program}
use Rattle.rows_sorted.specs.Orders.{rises_in}
use Rattle.deploy_model.specs.Deployed.{Deployed, DeployedService, DeployedTable, table_name, table_named}
use Rattle.router_state.specs.State.{State}
use Rattle.router_state.specs.Contexts.{activity_at, is_of_table}
use Rattle.router_state.specs.Fits.{is_drawn}
use Rattle.router_state.specs.Initial.{initial, service_deployed, table_activities, table_activity}
use Rattle.router_state.specs.Restoring.{IsSnapshot, parsed, restored, snapshot_text, state_of_snapshot}
use Rattle.router_state.specs.Snapshot.{spelled_state, spelled_state_1, spelled_state_2}
use Rattle.router_state.specs.Well.{IsSound, IsWell}
use Rattle.router_state.specs.WellContexts.{differ_in_kind, is_activity_row, is_kind, tables_have_activities}
use Rattle.router_state.specs.WellEntities.{all_differ}
use Rattle.router_state.specs.declared.rows.Activity.{Activity}
use Rattle.router_laws_snapshots.specs.Named.{IsNamed}
use Rattle.router_laws_snapshots.proofs.Fitting.{drawn_parts, found_holds, has_key, option_test}
use Rattle.router_laws_snapshots.proofs.Entities.{FitsService}
use Rattle.router_laws_snapshots.proofs.Activities.{FitsActivity}
use Rattle.router_laws_snapshots.proofs.Parsed.{IsGathered, IsReadable, parsed_again, spelled_1, spelled_2}
use Rattle.router_laws_snapshots.proofs.Sound.{activity_tests, next_fits}
use Rattle.router_laws_snapshots.proofs.SoundContexts.{sound_readable}
use Rattle.router_laws_snapshots.proofs.Gathered.{sound_gathered}
use Rattle.router_laws_snapshots.proofs.Restored.{restored_again, restored_is}

-- ---- the first state is read again

first_services : (services : List DeployedService) → AllByRecursion FitsService (map service_deployed services)
first_services [] = tt
first_services (x ∷ services) = (omega arith, first_services services)

first_activities : (d : Deployed) (p : Program) (n : ℕ) (tables : List DeployedTable) → IsNamed d → n + length tables ≡ length d.tables → length d.tables + 1 < 2 ^ 64 → AllByRecursion (FitsActivity (initial d p)) (table_activities n tables)
first_activities d p n [] named all few = tt
first_activities d p n (t ∷ tables) named all few = (
  record {
    number = small n (length tables) (length d.tables) all few;
    kind = has_key (table_named d) (table_name d n) n (named.tables n (below n (length tables) (length d.tables) all));
    attributes = tt;
    events = tt;
    services_done = tt;
    delivered = tt;
    until = tt;
  },
  first_activities d p (n + 1) tables named (next n (length tables) (length d.tables) all) few,
)
  where
    small : (n k l : ℕ) → n + suc k ≡ l → l + 1 < 2 ^ 64 → n + 1 < 2 ^ 64
    small n k l is few = omega (arith, is, few)

    below : (n k l : ℕ) → n + suc k ≡ l → n < l
    below n k l is = omega (arith, is)

    next : (n k l : ℕ) → n + suc k ≡ l → n + 1 + k ≡ l
    next n k l is = omega (arith, is)

first_readable : (d : Deployed) (p : Program) → IsNamed d → length d.tables + 1 < 2 ^ 64 → IsReadable (initial d p)
first_readable d p named few = record {
  clock = omega arith;
  inputs = omega arith;
  next_entity = omega arith;
  next_activity = few;
  next_timer = omega arith;
  next_event = omega arith;
  services = first_services d.services;
  entities = tt;
  activities = first_activities d p 0 d.tables named (from_none (length d.tables)) few;
  links = tt;
  names = tt;
  timers = tt;
  rows = tt;
  suspensions = tt;
}
  where
    from_none : (n : ℕ) → 0 + n ≡ n
    from_none n = omega arith

nothing_gathered : {K A : Type 0} (ks : List K) → flat_map (λ (k : K). let none : List A = [] in none) ks ≡ []
nothing_gathered [] = refl
nothing_gathered {A = A} (k ∷ ks) = nothing_gathered {A = A} ks

first_gathered : (d : Deployed) (p : Program) → IsGathered (initial d p)
first_gathered d p =
    let numbers : List ℕ = map (λ (row : Activity). row.number.0) (table_activities 0 d.tables) in
    record {
      fields = refl;
      root_names = refl;
      one_name = λ k. refl;
      attributes = nothing_gathered numbers;
      events = nothing_gathered numbers;
      services_done = nothing_gathered numbers;
      delivered = nothing_gathered numbers;
      suspensions = nothing_gathered numbers;
      one_suspension = λ k. refl;
      masks = refl;
    }

-- each table has its activity, so there are fewer than numbers
activity_below : (s : State) (a : ℕ) (row : Activity) → IsSound s → activity_at s.activities a ≡ Some row → a < s.next_activity
activity_below s a row sound found =
    let held = found_holds (λ (row : Activity). is_activity_row s.deployment s.next_activity row ≡ true) (λ (row : Activity). row.number.0 == a) s.activities row found (activity_tests s sound) in
    subst (λ n. n < s.next_activity) (eqb-true row.number.0 a held.1) (drawn_parts s.next_activity row.number.0 (and_parts (is_drawn s.next_activity row.number.0) (is_kind s.deployment row row.kind) held.0).0).1

tables_few : (s : State) (n : ℕ) (tables : List DeployedTable) → IsSound s → n + 1 < 2 ^ 64 → tables_have_activities s.activities n tables ≡ true → n + length tables + 1 < 2 ^ 64
tables_few s n [] sound room have = none n room
  where
    none : (n : ℕ) → n + 1 < 2 ^ 64 → n + 0 + 1 < 2 ^ 64
    none n room = omega (arith, room)
tables_few s n (t ∷ tables) sound room have =
    let parts = and_parts (option_map_or (λ (row : Activity). is_of_table n row.kind) (activity_at s.activities (table_activity n)) false) (tables_have_activities s.activities (n + 1) tables) have in
    let found = option_test (λ (row : Activity). is_of_table n row.kind) (activity_at s.activities (table_activity n)) parts.0 in
    let more = tables_few s (n + 1) tables sound (next n s.next_activity (activity_below s (table_activity n) found.0 sound found.1) (next_fits s.next_activity sound.next_activity)) parts.1 in
    same n (length tables) more
  where
    next : (n k : ℕ) → n + 1 < k → k < 2 ^ 64 → n + 1 + 1 < 2 ^ 64
    next n k less room = omega (arith, less, room)

    same : (n k : ℕ) → n + 1 + k + 1 < 2 ^ 64 → n + suc k + 1 < 2 ^ 64
    same n k less = omega (arith, less)

few_tables : (s : State) → IsSound s → length s.deployment.tables + 1 < 2 ^ 64
few_tables s sound =
    let rows = s.activities in
    let one = and_parts (rises_in (λ (row : Activity). row.number.0) rows) _ sound.activities in
    let two = and_parts (list_all (is_activity_row s.deployment s.next_activity) rows) _ one.1 in
    let more = and_parts (all_differ (λ (x y : Activity). differ_in_kind x.kind y.kind) rows) (tables_have_activities rows 0 s.deployment.tables) two.1 in
    from_none (length s.deployment.tables) (tables_few s 0 s.deployment.tables sound (omega arith) more.1)
  where
    from_none : (n : ℕ) → 0 + n + 1 < 2 ^ 64 → n + 1 < 2 ^ 64
    from_none n less = omega (arith, less)

-- a state with the bytes of the first one is the first one
first_same : (format : ℕ) (s : State) → IsNamed s.deployment → IsWell s → length (spelled_state format s) < 2 ^ 64 → spelled_state format s ≡ spelled_state format (initial s.deployment s.program) → initial s.deployment s.program ≡ s
first_same format s named well short same =
    let d = s.deployment in
    let p = s.program in
    let first = parsed_again format (initial d p) (first_readable d p named (few_tables s well.sound)) (first_gathered d p) (subst (λ bytes. length bytes < 2 ^ 64) same short) in
    let own = parsed_again format s (sound_readable s named well.sound) (sound_gathered s well.sound) short in
    ap (λ (x : State × List ℕ). x.0) (ok_is (initial d p, []) (s, []) (sym first ∙ ap (parsed format d p) (sym same) ∙ own))

-- ---- texts

state_of_bytes : (format : ℕ) (d : Deployed) (p : Program) (bytes : List ℕ) → 1 ≤ length bytes → state_of_snapshot format d p bytes ≡ restored format d p bytes
state_of_bytes format d p [] some = absurd (omega (arith, some))
state_of_bytes format d p (b ∷ bytes) some = refl

spelled_some : (format : ℕ) (s : State) → 1 ≤ length (spelled_state format s)
spelled_some format s = elim (cases_Bool (format == 2)) [
  | inl two ↦ subst (λ bytes. 1 ≤ length bytes) (sym (spelled_2 format s two)) (some_2 s)
  | inr one ↦ subst (λ bytes. 1 ≤ length bytes) (sym (spelled_1 format s one)) (some_1 s)
]
  where
    some_1 : (s : State) → 1 ≤ length (spelled_state_1 s)
    some_1 s = omega arith

    some_2 : (s : State) → 1 ≤ length (spelled_state_2 s)
    some_2 s = omega arith

pub text_again : (format : ℕ) (s : State) → IsNamed s.deployment → IsWell s → length (spelled_state format s) < 2 ^ 64 → state_of_snapshot format s.deployment s.program (snapshot_text format s) ≡ Some s
text_again format s named well short =
    let d = s.deployment in
    let p = s.program in
    let bytes = spelled_state format s in
    by (bytes_eq bytes (spelled_state format (initial d p))) refl
  where
    by : (b : Bool) → bytes_eq (spelled_state format s) (spelled_state format (initial s.deployment s.program)) ≡ b → state_of_snapshot format s.deployment s.program (if b then [] else spelled_state format s) ≡ Some s
    by true is = ap (λ t. Some t) (first_same format s named well short ((bytes_eq-Decides (spelled_state format s) (spelled_state format (initial s.deployment s.program))).0 is))
    by false is = state_of_bytes format s.deployment s.program (spelled_state format s) (spelled_some format s) ∙ restored_again format s named well short

pub texts_same : (format : ℕ) (s t : State) → s.deployment ≡ t.deployment → s.program ≡ t.program → IsNamed s.deployment → IsWell s → IsWell t → length (spelled_state format s) < 2 ^ 64 → length (spelled_state format t) < 2 ^ 64
    → snapshot_text format s ≡ snapshot_text format t → s ≡ t
texts_same format s t d p named one two short other same =
    same_Some s t (sym (text_again format s named one short) ∙ both s.deployment t.deployment s.program t.program (snapshot_text format s) (snapshot_text format t) d p same ∙ text_again format t (subst IsNamed d named) two other)
  where
    both : (d e : Deployed) (p q : Program) (x y : List ℕ) → d ≡ e → p ≡ q → x ≡ y → state_of_snapshot format d p x ≡ state_of_snapshot format e q y
    both d e p q x y one two three = rw (one, two, three) refl

pub text_is : (format : ℕ) (d : Deployed) (p : Program) (bytes : List ℕ) (s : State) → state_of_snapshot format d p bytes ≡ Some s → ((bytes ≡ []) × (s ≡ initial d p)) ⊎ IsSnapshot format d p bytes s
text_is format d p [] s is = inl (refl, sym (same_Some (initial d p) s is))
text_is format d p (b ∷ bytes) s is = inr (restored_is format d p (b ∷ bytes) s is)
