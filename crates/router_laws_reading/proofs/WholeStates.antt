-- A sound state that was read has the bytes of which it was read, and what is read and well formed is restored.
use Rattle.std.proofs.Common.{◌≡◌, ℕ, ◌<◌, ◌==◌, Bool, true, false, ◌&&◌, List, [], ◌∷◌, ◌++◌, map, refl, sym, ap, ◌∙◌, subst, append_assoc, get_or, inl, inr, nat_lt}
use Rattle.std.specs.Prelude.{Option, Some, None, Result, Ok, Err, filter_map, if◌then◌else◌}
use Rattle.std.specs.Str.{bytes_eq}
use Rattle.std.proofs.lemmas.Bool.{and_from, and_parts, cases_Bool, ltb-true}
use Rattle.std.proofs.lemmas.List.{append-nil, append_cancel_left}
use Rattle.std.proofs.lemmas.Option.{same_Some}
use Rattle.std.proofs.lemmas.Slice.Eq.{bytes_eq-Decides}
use Rattle.slee_value.specs.Reading.{Fault, Part, ◌>>=◌}
use Rattle.slee_value.proofs.ReadLemmas.{AreBytes, Takes, bytes_from, ok_is}
use Rattle.script_types.specs.Program.{Program}
use Rattle.rows_sorted.specs.Orders.{pair_before, rises_by, rises_in}
use Rattle.deploy_model.specs.Deployed.{Deployed}
use Rattle.router_state.specs.State.{State}
use Rattle.router_state.specs.Contexts.{link_before}
use Rattle.router_state.specs.Parsing.{ActivityPart, EntityPart, LinkPart}
use Rattle.router_state.specs.Restoring.{activity_of, entity_of, link_of, parsed, restored, suspension_of, tested}
use Rattle.router_state.specs.Snapshot.{listed, spelled_activity, spelled_activity_2, spelled_before, spelled_behind, spelled_entity, spelled_link, spelled_name, spelled_row, spelled_service, spelled_state, spelled_state_1, spelled_state_2, spelled_suspensions, spelled_timer}
use Rattle.router_state.specs.Well.{IsSound, IsWell, is_well}
use Rattle.router_state.specs.declared.rows.Activity.{Activity}
use Rattle.router_state.specs.declared.rows.Entity.{Entity}
use Rattle.router_state.specs.declared.rows.Link.{Link}
use Rattle.router_state.specs.declared.rows.Suspension.{Suspension}
use Rattle.router_laws_snapshots.proofs.Gathering.{InPairs, pairs_from_rises}
use Rattle.router_laws_snapshots.proofs.Keys.{pair_on, rows_apart}
use Rattle.router_laws_snapshots.proofs.Parsed.{spelled_1, spelled_2}
use Rattle.router_laws_snapshots.proofs.Restored.{passes_well, restored_is, well_passes}
use Rattle.router_laws_reading.proofs.OwnRows.{pairs_of_parts}
use Rattle.router_laws_reading.proofs.TakenEntities.{spelled_entity_part}
use Rattle.router_laws_reading.proofs.TakenActivities.{spelled_activity_part}
use Rattle.router_laws_reading.proofs.TakenOthers.{spelled_end, spelled_link_part}
use Rattle.router_laws_reading.proofs.TakenStates.{IsMadeOf, StateParts, behind_spelled, before_spelled, counts_spelled, parsed_took, parts_spelled, state_made}
use Rattle.router_laws_reading.proofs.Spelling.{ArePartsApart, activities_1, activities_2, entities_same, links_same}

-- ---- the parts of a sound state stand apart

parts_apart : (format : ℕ) (d : Deployed) (p : Program) (x : StateParts) → IsSound (state_made format d p x) → ArePartsApart x
parts_apart format d p x sound =
    let s = state_made format d p x in
    record {
      entities = pairs_of_parts entity_of (λ (a b : Entity). a.number.0 < b.number.0) x.entities
          (rows_apart (λ (row : Entity). row.number.0) (λ (a b : Entity). nat_lt a.number.0 b.number.0) (λ a b is. ltb-true a.number.0 b.number.0 is) s.entities (and_parts (rises_in (λ (row : Entity). row.number.0) s.entities) _ sound.entities).0);
      activities = pairs_of_parts activity_of (λ (a b : Activity). a.number.0 < b.number.0) x.activities
          (rows_apart (λ (row : Activity). row.number.0) (λ (a b : Activity). nat_lt a.number.0 b.number.0) (λ a b is. ltb-true a.number.0 b.number.0 is) s.activities (and_parts (rises_in (λ (row : Activity). row.number.0) s.activities) _ sound.activities).0);
      links = pairs_of_parts link_of (λ (a b : Link). link_before a b ≡ true) x.links
          (pairs_from_rises link_before (λ (a b : Link). link_before a b ≡ true) (λ a b is. is) (λ a b c is later. pair_on a.activity.0 a.entity.0 b.activity.0 b.entity.0 c.activity.0 c.entity.0 is later) s.links (and_parts (rises_by link_before s.links) _ sound.links).0);
    }

-- ---- the bytes of the parts are those of the state

-- the bytes of all lists, one behind another
abbrev whole : List ℕ → List ℕ → List ℕ → List ℕ → List ℕ → List ℕ → List ℕ → List ℕ
whole counts services others entities activities links last = (counts ++ (services ++ entities)) ++ (activities ++ ((links ++ others) ++ last))

whole_same : (counts services others e e' a a' l l' last last' : List ℕ) → e ≡ e' → a ≡ a' → l ≡ l' → last ≡ last' → whole counts services others e a l last ≡ whole counts services others e' a' l' last'
whole_same counts services others e e' a a' l l' last last' one two three four =
    ap (λ e. whole counts services others e a l last) one ∙ ap (λ a. whole counts services others e' a l last) two ∙ ap (λ l. whole counts services others e' a' l last) three ∙ ap (λ last. whole counts services others e' a' l' last) four

-- names, timers and rows
abbrev others_spelled : Deployed → StateParts → List ℕ
others_spelled d x = listed spelled_name x.names ++ (listed spelled_timer x.timers ++ listed (spelled_row d) x.rows)

last_1 : (two : Bool) (inner rows : List Suspension) → two ≡ false → spelled_suspensions (if two then inner else rows) ≡ (if two then [] else spelled_suspensions rows)
last_1 true inner rows is = absurd (cc)
last_1 false inner rows is = refl

last_2 : (two : Bool) (rows : List Suspension) → two ≡ true → [] ≡ (if two then [] else spelled_suspensions rows)
last_2 true rows is = refl
last_2 false rows is = absurd (cc)

made_1 : (format : ℕ) (d : Deployed) (p : Program) (x : StateParts) → (format == 2) ≡ false → ArePartsApart x → spelled_state_1 (state_made format d p x) ≡ parts_spelled format d x
made_1 format d p x one apart =
    let s = state_made format d p x in
    whole_same (counts_spelled x) (listed spelled_service x.services) (others_spelled d x) (listed (spelled_entity s) s.entities) (listed (spelled_entity_part d) x.entities) (listed (spelled_activity s) s.activities) (listed (spelled_activity_part format d) x.activities)
    (listed (spelled_link s) s.links) (listed spelled_link_part x.links) (spelled_suspensions s.suspensions) (spelled_end format x.suspensions)
    (entities_same format d p x apart) (activities_1 format d p x one apart) (links_same format d p x apart) (last_1 (format == 2) (filter_map suspension_of x.activities) x.suspensions one)

made_2 : (format : ℕ) (d : Deployed) (p : Program) (x : StateParts) → (format == 2) ≡ true → ArePartsApart x → spelled_state_2 (state_made format d p x) ≡ parts_spelled format d x
made_2 format d p x two apart =
    let s = state_made format d p x in
    let behind = spelled_behind s in
    ap (λ b. spelled_before s ++ (listed (spelled_activity_2 s) s.activities ++ b)) (sym (append-nil behind))
    ∙ whole_same (counts_spelled x) (listed spelled_service x.services) (others_spelled d x) (listed (spelled_entity s) s.entities) (listed (spelled_entity_part d) x.entities) (listed (spelled_activity_2 s) s.activities) (listed (spelled_activity_part format d) x.activities)
    (listed (spelled_link s) s.links) (listed spelled_link_part x.links) [] (spelled_end format x.suspensions)
    (entities_same format d p x apart) (activities_2 format d p x two apart) (links_same format d p x apart) (last_2 (format == 2) x.suspensions two)

made_spelled : (format : ℕ) (d : Deployed) (p : Program) (x : StateParts) → ArePartsApart x → spelled_state format (state_made format d p x) ≡ parts_spelled format d x
made_spelled format d p x apart = elim (cases_Bool (format == 2)) [
  | inl two ↦ spelled_2 format (state_made format d p x) two ∙ made_2 format d p x two apart
  | inr one ↦ spelled_1 format (state_made format d p x) one ∙ made_1 format d p x one apart
]

-- ---- what was read

-- a state that was read, where it is sound, is spelled by the bytes that it was read of
pub read_spelled : (format : ℕ) (d : Deployed) (p : Program) (bytes : List ℕ) (s : State) (rest : List ℕ) → AreBytes bytes → parsed format d p bytes ≡ Ok (s, rest) → IsSound s → spelled_state format s ++ rest ≡ bytes
read_spelled format d p bytes s rest are is sound =
    let made = parsed_took format d p bytes (s, rest) are is in
    let apart = parts_apart format d p made.parts (subst IsSound (sym made.state) sound) in
    ap (λ text. text ++ rest) (ap (spelled_state format) (sym made.state) ∙ made_spelled format d p made.parts apart) ∙ sym made.takes.parts

pub well_spelled : (format : ℕ) (d : Deployed) (p : Program) (bytes : List ℕ) (s : State) (rest : List ℕ) → ((i : ℕ) → get_or bytes i 0 < 256) → parsed format d p bytes ≡ Ok (s, rest) → is_well s ≡ true → spelled_state format s ++ rest ≡ bytes
well_spelled format d p bytes s rest are is well = read_spelled format d p bytes s rest (bytes_from bytes are) is (passes_well s well).sound

pub all_spelled : (format : ℕ) (d : Deployed) (p : Program) (bytes : List ℕ) (s : State) → ((i : ℕ) → get_or bytes i 0 < 256) → parsed format d p bytes ≡ Ok (s, []) → is_well s ≡ true → spelled_state format s ≡ bytes
all_spelled format d p bytes s are is well = sym (append-nil (spelled_state format s)) ∙ well_spelled format d p bytes s [] are is well

-- it is restored
pub well_restored : (format : ℕ) (d : Deployed) (p : Program) (bytes : List ℕ) (s : State) → ((i : ℕ) → get_or bytes i 0 < 256) → parsed format d p bytes ≡ Ok (s, []) → is_well s ≡ true → restored format d p bytes ≡ Some s
well_restored format d p bytes s are is well =
    let spelled = (bytes_eq-Decides (spelled_state format s) bytes).1 (all_spelled format d p bytes s are is well) in
    rw (is, spelled, well) refl

-- nothing else is: what is restored was read to its end, and is well formed
abbrev pub IsRead : ℕ → Deployed → Program → List ℕ → State → Type 0
IsRead format d p bytes s = (parsed format d p bytes ≡ Ok (s, [])) × (is_well s ≡ true)

of_test : (b : Bool) (t s : State) → (if b then Some t else None) ≡ Some s → t ≡ s
of_test true t s is = same_Some t s is
of_test false t s is = absurd (cc)

pub nothing_left : (text rest : List ℕ) → text ++ rest ≡ text → rest ≡ []
nothing_left text rest same = append_cancel_left text rest [] (same ∙ sym (append-nil text))

pub restored_read : (format : ℕ) (d : Deployed) (p : Program) (bytes : List ℕ) (s : State) → ((i : ℕ) → get_or bytes i 0 < 256) → restored format d p bytes ≡ Some s → (parsed format d p bytes ≡ Ok (s, [])) × (is_well s ≡ true)
restored_read format d p bytes s are is = by (parsed format d p bytes) refl is
  where
    by : (r : Part State) → parsed format d p bytes ≡ r → tested format bytes r ≡ Some s → IsRead format d p bytes s
    by (Err fault) own tests = absurd (cc)
    by (Ok x) own tests =
        let snapshot = restored_is format d p bytes s is in
        let well = well_passes s snapshot.well in
        let read : parsed format d p bytes ≡ Ok (s, x.1) = own ∙ ap (λ t. let read : Part State = Ok (t, x.1) in read) (of_test (bytes_eq (spelled_state format x.0) bytes && is_well x.0) x.0 s tests) in
        let none : x.1 ≡ [] = nothing_left (spelled_state format s) x.1 (well_spelled format d p bytes s x.1 are read well ∙ sym snapshot.spelled) in
        (read ∙ ap (λ rest. let read : Part State = Ok (s, rest) in read) none, well)

-- what isn't well formed isn't restored
pub ill_restored : (format : ℕ) (d : Deployed) (p : Program) (bytes : List ℕ) (s : State) (rest : List ℕ) → parsed format d p bytes ≡ Ok (s, rest) → is_well s ≡ false → restored format d p bytes ≡ None
ill_restored format d p bytes s rest is ill = rw (is, ill) (by (bytes_eq (spelled_state format s) bytes))
  where
    by : (b : Bool) → (if b && false then Some s else None) ≡ None
    by true = refl
    by false = refl
