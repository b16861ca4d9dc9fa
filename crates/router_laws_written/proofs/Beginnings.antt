-- Where the effects of a delivery begin, a run reads what is there; and so it does after them, of each key.
use Rattle.std.proofs.Common.{◌≡◌, ℕ, ◌+◌, ◌<◌, ◌≤◌, ◌==◌, List, [], ◌∷◌, refl, sym, ◌∙◌, ap, subst, inl, arith, true, false, Some, None, Option}
use Rattle.std.specs.Prelude.{find, is_some, nat_lt, not, option_map, pos}
use Rattle.std.specs.Option.{option_map_or}
use Rattle.std.specs.List.{AllByRecursion, list_all}
use Rattle.std.proofs.lemmas.Bool.{and_parts, eqb-true, false_from_ne_true, ltb-true}
use Rattle.slee_value.specs.declared.kind.Kind.{Kind}
use Rattle.slee_value.specs.declared.kind.Kind.TheVariants as kinds
use Rattle.slee_value.specs.declared.value.Value.{Value}
use Rattle.slee_effect.specs.Resolving.{resolved_ref, resolved_val}
use Rattle.slee_effect.specs.declared.effect.Effect.{Effect}
use Rattle.slee_effect.specs.declared.next.Next.{Next}
use Rattle.slee_effect.specs.declared.reference.Ref.{Ref}
use Rattle.slee_effect.specs.declared.reference.Ref.TheVariants.{Known, Fresh}
use Rattle.script_types.specs.Codes.{named}
use Rattle.script_types.specs.declared.codes.FieldCode.{FieldCode}
use Rattle.script_meaning.specs.Answers.{known_activity}
use Rattle.script_meaning.specs.Overlay.{activities_after, activities_by, entities_by, field_after, masks_after, overlay, priority_after, timer_after, timers_by}
use Rattle.deploy_model.specs.Deployed.{block_fields}
use Rattle.rows_sorted.specs.Orders.{are_below, rises_in}
use Rattle.router_laws_applying.proofs.Beginning.{delivery_behind}
use Rattle.router_laws_applying.proofs.Present.{present, there_of}
use Rattle.router_laws_applying.specs.Behind.{IsBehind, attached_told}
use Rattle.router_laws_applying.specs.Seen.{linked_in, numbered}
use Rattle.router_laws_applying.specs.Suited.{LivesAtAll, LivesSomewhere}
use Rattle.router_laws_effects.specs.Runs.{IsOld}
use Rattle.router_laws_sound.proofs.SoundBase.{activities_drawn, entities_drawn, found_passes, passes_there, there_below}
use Rattle.router_laws_sound.proofs.SoundNumbers.{grown_effects, room_before}
use Rattle.router_laws_written.proofs.ActivityLemmas.{activities_read, told_olds}
use Rattle.router_laws_written.proofs.Blocks.{OfBlock}
use Rattle.router_laws_written.proofs.Fields.{AreOfKind, kinds_of_block, none_new}
use Rattle.router_laws_written.proofs.MaskRows.{mask_is_seen, mask_seen}
use Rattle.router_laws_written.proofs.Priorities.{entities_below}
use Rattle.router_laws_written.proofs.Readings.{IsRead, all_read}
use Rattle.router_laws_written.proofs.TimerLemmas.{StandsOld, timers_below}
use Rattle.router_laws_written.specs.Held.{BeginsWith, activities_held, activities_told, activity_numbers, field_held, field_told, has_mask, held, masks_held, masks_told, priority_held, priority_told, timer_held, timer_told}
use Rattle.router_laws_written.specs.Made.{AreMade, after_made}
use Rattle.router_state.specs.Contexts.{activity_at, is_active}
use Rattle.router_state.specs.Fields.{field_at}
use Rattle.router_state.specs.Fits.{is_drawn}
use Rattle.router_state.specs.State.{State}
use Rattle.router_state.specs.Timers.{timer_at}
use Rattle.router_state.specs.Trees.{entity_at}
use Rattle.router_state.specs.Well.{IsSound}
use Rattle.router_state.specs.WellRows.{is_timer_row}
use Rattle.router_state.specs.declared.rows.Activity.{Activity}
use Rattle.router_state.specs.declared.rows.Entity.{Entity}
use Rattle.router_state.specs.declared.rows.Timer.{Timer}
use Rattle.router_steps.specs.Effects.{next_in, number_in, resolved_in}
use Rattle.router_steps.specs.Steps.{Receipt, marked_entity}

pub plain_first : (next : Next) (kind : Kind) (o : Option Value) → held kind o ≡ resolved_val next (held kind o)
plain_first next kind (Some value) = refl
plain_first next kinds.Int None = refl
plain_first next kinds.Text None = refl
plain_first next kinds.Bool None = refl
plain_first next kinds.Activity None = refl
plain_first next kinds.Timer None = refl

pub none_found : {Row : Type 0} (number : Row → ℕ) (n k : ℕ) (rows : List Row) → AllByRecursion (λ row. number row < n) rows → n ≤ k → find (λ row. number row == k) rows ≡ None
none_found number n k [] below le = refl
none_found number n k (row ∷ rows) below le = let other : (number row == k) ≡ false = false_from_ne_true (number row == k) (λ is. clash below.0 (eqb-true (number row) k is)) in rw other (none_found number n k rows below.1 le)
  where
    clash : number row < n → number row ≡ k → ⊥
    clash less same = absurd (omega (arith, le, less, same))

begin_field : (s : State) (e : Ref) (name : List ℕ) (kind : Kind) → IsSound s → field_held (next_in s) kind s e name ≡ resolved_val (next_in s) (field_told s kind e name)
begin_field s (Known m) name kind sound = plain_first (next_in s) kind (field_at s.fields m name)
begin_field s (Fresh place) name kind sound = ap (held kind) (none_new s (s.next_entity + place) name sound (omega arith)) ∙ plain_first (next_in s) kind None

begin_priority : (s : State) (e : Ref) → IsSound s → priority_held (next_in s) s e ≡ priority_told s e
begin_priority s (Known m) sound = refl
begin_priority s (Fresh place) sound = ap (λ o. option_map_or (λ (row : Entity). row.priority) o (pos 0)) (none_found (λ (row : Entity). row.number.0) s.next_entity (s.next_entity + place) s.entities (entities_below s sound) (omega arith))

begin_mask : (s t : State) (e b : Ref) (event : List ℕ) → t.links ≡ s.links → t.masks ≡ s.masks → linked_in (next_in s) t e b ≡ attached_told s e b
    → mask_seen t (number_in (resolved_ref s.next_entity e)) (number_in (resolved_ref s.next_activity b)) event ≡ has_mask event (masks_told s e b)
begin_mask s t (Known m) (Known n) event one two told = rw (one, two) (sym (mask_is_seen s m n event))
begin_mask s t (Known m) (Fresh place) event one two told = rw told refl
begin_mask s t (Fresh place) (Known n) event one two told = rw told refl
begin_mask s t (Fresh place) (Fresh other) event one two told = rw told refl

begin_timer : (s : State) (r : Ref) → IsSound s → timer_held (next_in s) s r ≡ numbered (next_in s) (timer_told s r)
begin_timer s (Known m) sound = by (timer_at s.timers m)
  where
    by : (o : Option Timer) → option_map (λ (row : Timer). row.activity.0) o ≡ numbered (next_in s) (known_activity (option_map (λ (row : Timer). row.activity) o))
    by None = refl
    by (Some row) = refl
begin_timer s (Fresh place) sound = ap (option_map (λ (row : Timer). row.activity.0)) (none_found (λ (row : Timer). row.number.0) s.next_timer (s.next_timer + place) s.timers (timers_below s sound) (omega arith))

begin_stands : (s : State) (r : Ref) → IsSound s → StandsOld s.next_activity (timer_told s r)
begin_stands s (Known m) sound = by (timer_at s.timers m) refl
  where
    by : (o : Option Timer) → timer_at s.timers m ≡ o → StandsOld s.next_activity (known_activity (option_map (λ (row : Timer). row.activity) o))
    by None found = tt
    by (Some row) found =
        let tests = and_parts (rises_in (λ (r : Timer). r.number.0) s.timers) (list_all (is_timer_row s.activities s.next_timer) s.timers) sound.timers in
        let mine = found_passes (is_timer_row s.activities s.next_timer) (λ (r : Timer). r.number.0 == m) s.timers row found tests.1 in
        let active = (and_parts (is_active s.activities row.activity.0) _ (and_parts (is_drawn s.next_timer row.number.0) _ mine.0).1).0 in
        ltb-true row.activity.0 s.next_activity (there_below (λ (r : Activity). r.number.0) s.next_activity row.activity.0 s.activities
        (passes_there (λ (r : Activity). not r.ending) (activity_at s.activities row.activity.0) active) (activities_drawn s.deployment s.activities s.next_activity sound.activities))
begin_stands s (Fresh place) sound = tt

-- where the entity is marked a run reads what is there
begin_read : (s : State) (x : Receipt) → IsSound s → IsBehind s x.entity.number.0 x.entity.block x.activity [] (marked_entity x s) → IsRead s [] (marked_entity x s)
begin_read s x sound was = record {
  fields = λ e name kind mine here kinds. begin_field s e name kind sound;
  priorities = λ e mine here. begin_priority s e sound;
  masks = λ e b event first mine on here begins. begin_mask s (marked_entity x s) e b event refl refl (was.links e b mine on here);
  timers = λ r mine. begin_timer s r sound;
  stands = λ r. begin_stands s r sound;
  olds = λ e. told_olds s e sound;
}

pub all_below : {Row : Type 0} (number : Row → ℕ) (n : ℕ) (rows : List Row) → are_below number n rows ≡ true → AllByRecursion (λ row. number row < n) rows
all_below number n [] all = tt
all_below number n (row ∷ rows) all = let parts = and_parts (nat_lt (number row) n) (are_below number n rows) all in (ltb-true (number row) n parts.0, all_below number n rows parts.1)

pub received_drawn : (s : State) (x : Receipt) → IsSound s → entity_at s.entities x.entity.number.0 ≡ Some x.entity → x.entity.number.0 < s.next_entity
received_drawn s x sound found = ltb-true x.entity.number.0 s.next_entity (there_below (λ (r : Entity). r.number.0) s.next_entity x.entity.number.0 s.entities (ap is_some found) (entities_drawn s.deployment s.entities s.next_entity sound.entities))

-- after the effects of a delivery
pub made_read : (s : State) (x : Receipt) (es : List Effect) → AreMade s x es → IsBehind s x.entity.number.0 x.entity.block x.activity es (after_made s x es) × IsRead s es (after_made s x es)
made_read s x es made =
    let start = delivery_behind s x [] made.sound made.deployed made.waits made.received tt tt (room_before (marked_entity x s) (after_made s x es) (grown_effects (resolved_in s es) (marked_entity x s)) made.room) in
    all_read s x.entity.number.0 x.entity.block x.activity [] es (marked_entity x s) made.sound made.deployed start (received_drawn s x made.sound made.received)
    (all_below (λ (r : Activity). r.number.0) s.next_activity s.activities (activities_drawn s.deployment s.activities s.next_activity made.sound.activities)) made.suit made.guarded made.cancels made.room (begin_read s x made.sound start)

-- an entity that the run may read is there

of_row : (P : ℕ → Type 0) (t : State) (k block : ℕ) (row : Entity) → entity_at t.entities k ≡ Some row → row.block ≡ block → P block → OfBlock P t k
of_row P t k block row found same is other too = subst P (sym same ∙ ap (λ (r : Entity). r.block) (some_same (sym found ∙ too))) is
  where
    some_same : {x y : Entity} → Some x ≡ Some y → x ≡ y
    some_same same = cc

pub fields_read : (s : State) (x : Receipt) (es : List Effect) → AreMade s x es → (block : ℕ) (e : Ref) → LivesSomewhere s x.entity.number.0 x.entity.block es block e → (name : List ℕ) (f : FieldCode) → named (λ (f : FieldCode). f.name) name (block_fields s.deployment block) ≡ Some f
    → field_held (next_in s) f.kind (after_made s x es) e name ≡ resolved_val (next_in s) (overlay entities_by (field_after e name) es (field_told s f.kind e name))
fields_read s x es made block e lives name f found =
    let done = made_read s x es made in
    let t = after_made s x es in
    let k = number_in (resolved_ref s.next_entity e) in
    let here = present s x.entity.number.0 x.entity.block x.activity es t made.sound done.0 (received_drawn s x made.sound made.received) lives.0 block e lives.1 in
    done.1.fields e name f.kind here.old (inl (there_of (entity_at t.entities k) here.row here.found))
    (of_row (λ block. AreOfKind name f.kind (block_fields s.deployment block)) t k block here.row here.found here.same (kinds_of_block s.deployment block name f (made.deployed.fields block) found))

pub priorities_read : (s : State) (x : Receipt) (es : List Effect) → AreMade s x es → (e : Ref) → LivesAtAll s x.entity.number.0 x.entity.block es e
    → priority_held (next_in s) (after_made s x es) e ≡ overlay entities_by (priority_after e) es (priority_told s e)
priorities_read s x es made e lives =
    let done = made_read s x es made in
    let t = after_made s x es in
    let here = present s x.entity.number.0 x.entity.block x.activity es t made.sound done.0 (received_drawn s x made.sound made.received) lives.1.0 lives.0 e lives.1.1 in
    done.1.priorities e here.old (inl (there_of (entity_at t.entities (number_in (resolved_ref s.next_entity e))) here.row here.found))

pub masks_read : (s : State) (x : Receipt) (es : List Effect) → AreMade s x es → (block : ℕ) (e : Ref) → LivesSomewhere s x.entity.number.0 x.entity.block es block e → (a : Ref) → IsOld s.next_activity a → (event : List ℕ) (first : List (List ℕ)) → BeginsWith s.deployment event first block
    → has_mask event (masks_held (next_in s) (after_made s x es) e a) ≡ has_mask event (overlay activities_by (masks_after first e a) es (masks_told s e a))
masks_read s x es made block e lives a on event first begins =
    let done = made_read s x es made in
    let t = after_made s x es in
    let k = number_in (resolved_ref s.next_entity e) in
    let here = present s x.entity.number.0 x.entity.block x.activity es t made.sound done.0 (received_drawn s x made.sound made.received) lives.0 block e lives.1 in
    mask_is_seen t k (number_in (resolved_ref s.next_activity a)) event
    ∙ done.1.masks e a event first here.old on (inl (there_of (entity_at t.entities k) here.row here.found)) (of_row (BeginsWith s.deployment event first) t k block here.row here.found here.same begins)

pub timers_read : (s : State) (x : Receipt) (es : List Effect) → AreMade s x es → (r : Ref) → IsOld s.next_timer r → timer_held (next_in s) (after_made s x es) r ≡ numbered (next_in s) (overlay timers_by (timer_after r) es (timer_told s r))
timers_read s x es made r old = (made_read s x es made).1.timers r old

pub entity_activities_read : (s : State) (x : Receipt) (es : List Effect) → AreMade s x es → (e : Ref) → LivesAtAll s x.entity.number.0 x.entity.block es e
    → activities_held (next_in s) (after_made s x es) e ≡ activity_numbers (next_in s) (overlay activities_by (activities_after e) es (activities_told s e))
entity_activities_read s x es made e lives =
    let done = made_read s x es made in
    let t = after_made s x es in
    let here = present s x.entity.number.0 x.entity.block x.activity es t made.sound done.0 (received_drawn s x made.sound made.received) lives.1.0 lives.0 e lives.1.1 in
    activities_read s t e es made.sound done.0.sound (done.1.olds e) (λ r on. done.0.links e r here.old on (inl (there_of (entity_at t.entities (number_in (resolved_ref s.next_entity e))) here.row here.found)))
