-- Parts that are written one after another are the whole.
use Rattle.std.proofs.Common.{Bor, ◌≡◌, ◌==◌, ℕ, List, [], ◌∷◌, ◌++◌, length, map, refl, sym, ap, ◌∙◌}
use Rattle.std.specs.Prelude.{Option, filter, flat_map, if◌then◌else◌}
use Rattle.std.specs.Str.{bytes_eq}
use Rattle.std.proofs.lemmas.List.{append-nil, append_assoc}
use Rattle.slee_value.specs.Bytes.{spelled_flag, spelled_i8, spelled_option, spelled_text, spelled_u32, spelled_u64}
use Rattle.slee_value.specs.declared.ids.ActivityId.{ActivityId}
use Rattle.slee_value.specs.declared.ids.EntityId.{EntityId}
use Rattle.slee_value.specs.declared.value.Value.{Value}
use Rattle.slee_effect.specs.Bytes.{spelled_keep}
use Rattle.script_types.specs.Program.{Program}
use Rattle.deploy_model.specs.Deployed.{Deployed, block_key, service_key}
use Rattle.activity_context.specs.Views.{parts_of_name}
use Rattle.router_state.specs.Contexts.{attributes_of}
use Rattle.router_state.specs.Fields.{fields_of}
use Rattle.router_state.specs.Initial.{initial}
use Rattle.router_state.specs.Masks.{is_mask_of}
use Rattle.router_state.specs.Queues.{queue, done_on, delivered_on, suspended_until}
use Rattle.router_state.specs.Restoring.{snapshot_text}
use Rattle.router_state.specs.Snapshot.{listed, spelled_activity_2, spelled_before, spelled_behind, spelled_counts, spelled_entity, spelled_event, spelled_kind, spelled_link, spelled_name, spelled_name_of, spelled_pair, spelled_row, spelled_service, spelled_state, spelled_stem, spelled_timer}
use Rattle.router_state.specs.State.{State}
use Rattle.router_state.specs.declared.rows.Activity.{Activity}
use Rattle.router_state.specs.declared.rows.Attribute.{Attribute}
use Rattle.router_state.specs.declared.rows.Entity.{Entity}
use Rattle.router_state.specs.declared.rows.EntityMark.{EntityMark}
use Rattle.router_state.specs.declared.rows.Event.{Event}
use Rattle.router_state.specs.declared.rows.Field.{Field}
use Rattle.router_state.specs.declared.rows.Mask.{Mask}
use Rattle.router_state.specs.declared.rows.ProfileRow.{ProfileRow}
use Rattle.router_state.specs.declared.rows.Queued.{Queued}
use Rattle.router_state.specs.declared.rows.ServiceMark.{ServiceMark}
use Rattle.router_state.specs.declared.rows.Service.{Service}
use Rattle.router_state.specs.declared.rows.Stem.{Stem}
use Rattle.router_state.specs.declared.rows.Stem.TheVariants as stems
use Rattle.router_state.specs.declared.rows.Timer.{Timer}
use Rattle.router_show.specs.Names.{name_seen, names_seen}
use Rattle.snapshot_write.specs.Parts.{spelled_activity_row, spelled_entity_row, spelled_waiting}
use Rattle.snapshot_write.proofs.ListLemmas.{four_put, listed_seen, six_put, three_put, two_put}

-- the stem of a root
pub root_put : (d : Deployed) (stem : Stem) (service : ℕ) (text start a b : List ℕ) → stem ≡ stems.Root service → text ≡ service_key d service
    → a ≡ start ++ spelled_u64 0 → b ≡ a ++ spelled_text text → b ≡ start ++ spelled_stem d stem
root_put d stem service text start a b is key one two =
    two_put start (spelled_u64 0) (spelled_text text) a b one two
    ∙ ap (λ x. start ++ (spelled_u64 0 ++ spelled_text x)) key
    ∙ ap (λ x. start ++ spelled_stem d x) (sym is)

-- the stem of a child
pub child_put : (d : Deployed) (stem : Stem) (parent : EntityId) (relation text start a b : List ℕ) → stem ≡ stems.Child parent relation → text ≡ relation
    → a ≡ start ++ spelled_u64 parent.0 → b ≡ a ++ spelled_text text → b ≡ start ++ spelled_stem d stem
child_put d stem parent relation text start a b is same one two =
    two_put start (spelled_u64 parent.0) (spelled_text text) a b one two
    ∙ ap (λ x. start ++ (spelled_u64 parent.0 ++ spelled_text x)) same
    ∙ ap (λ x. start ++ spelled_stem d x) (sym is)

-- an entity up to its priority
pub entity_row_put : (d : Deployed) (row : Entity) (text start w x y z : List ℕ) → text ≡ block_key d row.block
    → w ≡ start ++ spelled_u64 row.number.0 → x ≡ w ++ spelled_text text → y ≡ x ++ spelled_stem d row.stem → z ≡ y ++ spelled_i8 row.priority → z ≡ start ++ spelled_entity_row d row
entity_row_put d row text start w x y z key one two three four =
    four_put start (spelled_u64 row.number.0) (spelled_text text) (spelled_stem d row.stem) (spelled_i8 row.priority) w x y z one two three four
    ∙ ap (λ t. start ++ (spelled_u64 row.number.0 ++ (spelled_text t ++ (spelled_stem d row.stem ++ spelled_i8 row.priority)))) key

-- an attachment, and then its masks
pub link_put : (s : State) (entity : EntityId) (activity : ActivityId) (own : List Mask) (start a b c : List ℕ) → own ≡ filter (is_mask_of entity.0 activity.0) s.masks
    → a ≡ start ++ spelled_u64 activity.0 → b ≡ a ++ spelled_u64 entity.0 → c ≡ b ++ listed (λ m. spelled_text m.event) own → c ≡ start ++ spelled_link s (record { entity = entity; activity = activity })
link_put s entity activity own start a b c is one two three =
    three_put start (spelled_u64 activity.0) (spelled_u64 entity.0) (listed (λ (m : Mask). spelled_text m.event) own) a b c one two three
    ∙ ap (λ x. start ++ (spelled_u64 activity.0 ++ (spelled_u64 entity.0 ++ x)))
    (ap (λ (ms : List Mask). listed (λ (m : Mask). spelled_text m.event) ms) is ∙ listed_seen spelled_text (λ (m : Mask). m.event) (filter (is_mask_of entity.0 activity.0) s.masks))

-- an event up to its fields
pub event_put : (d : Deployed) (event : Event) (text : List ℕ) (fields : List (List ℕ × Value)) (start w x y z : List ℕ) → text ≡ event.name → fields ≡ event.fields
    → w ≡ start ++ spelled_u64 event.id.0 → x ≡ w ++ spelled_text text → y ≡ x ++ spelled_option (λ service. spelled_text (service_key d service)) event.target → z ≡ y ++ listed spelled_pair fields
    → z ≡ start ++ spelled_event d event
event_put d event text fields start w x y z name own one two three four =
    four_put start (spelled_u64 event.id.0) (spelled_text text) (spelled_option (λ service. spelled_text (service_key d service)) event.target) (listed spelled_pair fields) w x y z one two three four
    ∙ ap (λ t. start ++ (spelled_u64 event.id.0 ++ (spelled_text t ++ (spelled_option (λ service. spelled_text (service_key d service)) event.target ++ listed spelled_pair fields)))) name
    ∙ ap (λ (fs : List (List ℕ × Value)). start ++ (spelled_u64 event.id.0 ++ (spelled_text event.name ++ (spelled_option (λ service. spelled_text (service_key d service)) event.target ++ listed spelled_pair fs)))) own

-- a timer with what it keeps
pub timer_put : (row : Timer) (start u v w x y z : List ℕ)
    → u ≡ start ++ spelled_u64 row.number.0 → v ≡ u ++ spelled_u64 row.activity.0 → w ≡ v ++ spelled_u64 row.next → x ≡ w ++ spelled_u64 row.period → y ≡ x ++ spelled_u64 row.left → z ≡ y ++ spelled_keep row.keep
    → z ≡ start ++ spelled_timer row
timer_put row start = six_put start (spelled_u64 row.number.0) (spelled_u64 row.activity.0) (spelled_u64 row.next) (spelled_u64 row.period) (spelled_u64 row.left) (spelled_keep row.keep)

-- the clock, the count of inputs and the next numbers
pub counts_put : (s : State) (start u v w x y z : List ℕ)
    → u ≡ start ++ spelled_u64 s.clock → v ≡ u ++ spelled_u64 s.inputs → w ≡ v ++ spelled_u64 s.next_entity → x ≡ w ++ spelled_u64 s.next_activity → y ≡ x ++ spelled_u64 s.next_timer → z ≡ y ++ spelled_u64 s.next_event
    → z ≡ start ++ spelled_counts s
counts_put s start u v w x y z one two three four five six =
    six_put start (spelled_u64 s.clock) (spelled_u64 s.inputs) (spelled_u64 s.next_entity) (spelled_u64 s.next_activity) (spelled_u64 s.next_timer) (spelled_u64 s.next_event) u v w x y z one two three four five six
    ∙ ap (λ k. start ++ (spelled_u64 s.clock ++ (spelled_u64 s.inputs ++ (spelled_u64 s.next_entity ++ (spelled_u64 s.next_activity ++ (spelled_u64 s.next_timer ++ k)))))) (sym (append-nil (spelled_u64 s.next_event)))

-- counts, services, and then entities
pub before_put : (s : State) (services : List Service) (start a b c : List ℕ) → services ≡ s.services
    → a ≡ start ++ spelled_counts s → b ≡ a ++ listed spelled_service services → c ≡ b ++ listed (spelled_entity s) s.entities → c ≡ start ++ spelled_before s
before_put s services start a b c is one two three =
    three_put start (spelled_counts s) (listed spelled_service services) (listed (spelled_entity s) s.entities) a b c one two three
    ∙ ap (λ (x : List Service). start ++ (spelled_counts s ++ (listed spelled_service x ++ listed (spelled_entity s) s.entities))) is

-- four parts in front of others
four_in_front : (a b c d more : List ℕ) → (a ++ (b ++ (c ++ d))) ++ more ≡ a ++ (b ++ (c ++ (d ++ more)))
four_in_front a b c d more =
    append_assoc a (b ++ (c ++ d)) more ∙ ap (λ x. a ++ x) (append_assoc b (c ++ d) more ∙ ap (λ x. b ++ x) (append_assoc c d more))

-- the fields of an entity are written as the pairs that they are seen as
fields_put : (rows own : List Field) (e : ℕ) → own ≡ filter (λ f. f.entity.0 == e) rows → listed (λ (f : Field). spelled_pair (f.name, f.value)) own ≡ listed spelled_pair (fields_of rows e)
fields_put rows own e is =
    ap (λ (fs : List Field). listed (λ (f : Field). spelled_pair (f.name, f.value)) fs) is
    ∙ listed_seen {Y = List ℕ × Value} spelled_pair (λ (f : Field). (f.name, f.value)) (filter (λ f. f.entity.0 == e) rows)

-- an entity, its convergence name, and then its fields
pub entity_put : (s : State) (d : Deployed) (row : Entity) (own : List Field) (start a b c : List ℕ) → d ≡ s.deployment → own ≡ filter (λ f. f.entity.0 == row.number.0) s.fields
    → a ≡ start ++ spelled_entity_row d row → b ≡ a ++ spelled_name_of s row row.stem → c ≡ b ++ listed (λ f. spelled_pair (f.name, f.value)) own → c ≡ start ++ spelled_entity s row
entity_put s d row own start a b c is fields one two three =
    three_put start (spelled_entity_row d row) (spelled_name_of s row row.stem) (listed (λ (f : Field). spelled_pair (f.name, f.value)) own) a b c one two three
    ∙ ap (λ bytes. start ++ (spelled_entity_row d row ++ (spelled_name_of s row row.stem ++ bytes))) (fields_put s.fields own row.number.0 fields)
    ∙ ap (λ (x : Deployed). start ++ (spelled_entity_row x row ++ (spelled_name_of s row row.stem ++ listed spelled_pair (fields_of s.fields row.number.0)))) is
    ∙ ap (λ bytes. start ++ bytes) (four_in_front (spelled_u64 row.number.0) (spelled_text (block_key s.deployment row.block)) (spelled_stem s.deployment row.stem) (spelled_i8 row.priority) _)

-- the queue of an activity, its marks, and then its suspension
pub waiting_put : (s : State) (d : Deployed) (activity : ℕ) (events : List Queued) (done : List ServiceMark) (delivered : List EntityMark) (until : Option ℕ) (start a b c e : List ℕ) → d ≡ s.deployment
    → events ≡ filter (λ q. q.activity.0 == activity) s.events → done ≡ filter (λ m. m.activity.0 == activity) s.services_done → delivered ≡ filter (λ m. m.activity.0 == activity) s.delivered → until ≡ suspended_until s.suspensions activity
    → a ≡ start ++ listed (λ q. spelled_event d q.event) events → b ≡ a ++ listed (λ m. spelled_u32 m.service) done → c ≡ b ++ listed (λ m. spelled_u64 m.entity.0) delivered → e ≡ c ++ spelled_option spelled_u64 until
    → e ≡ start ++ spelled_waiting s activity
waiting_put s d activity events done delivered until start a b c e is own_events own_done own_delivered own_until one two three four =
    four_put start (listed (λ (q : Queued). spelled_event d q.event) events) (listed (λ (m : ServiceMark). spelled_u32 m.service) done) (listed (λ (m : EntityMark). spelled_u64 m.entity.0) delivered) (spelled_option spelled_u64 until) a b c e one two three four
    ∙ ap (λ x. start ++ (x ++ (listed (λ (m : ServiceMark). spelled_u32 m.service) done ++ (listed (λ (m : EntityMark). spelled_u64 m.entity.0) delivered ++ spelled_option spelled_u64 until)))) waits
    ∙ ap (λ x. start ++ (listed (spelled_event s.deployment) (queue s.events activity) ++ (x ++ (listed (λ (m : EntityMark). spelled_u64 m.entity.0) delivered ++ spelled_option spelled_u64 until)))) marked
    ∙ ap (λ x. start ++ (listed (spelled_event s.deployment) (queue s.events activity) ++ (listed spelled_u32 (done_on s.services_done activity) ++ (x ++ spelled_option spelled_u64 until)))) received
    ∙ ap (λ x. start ++ (listed (spelled_event s.deployment) (queue s.events activity) ++ (listed spelled_u32 (done_on s.services_done activity) ++ (listed spelled_u64 (delivered_on s.delivered activity) ++ spelled_option spelled_u64 x)))) own_until
  where
    waits : listed (λ (q : Queued). spelled_event d q.event) events ≡ listed (spelled_event s.deployment) (queue s.events activity)
    waits =
        ap (λ (x : Deployed). listed (λ (q : Queued). spelled_event x q.event) events) is
        ∙ ap (λ (qs : List Queued). listed (λ (q : Queued). spelled_event s.deployment q.event) qs) own_events
        ∙ listed_seen {Y = Event} (spelled_event s.deployment) (λ (q : Queued). q.event) (filter (λ q. q.activity.0 == activity) s.events)

    marked : listed (λ (m : ServiceMark). spelled_u32 m.service) done ≡ listed spelled_u32 (done_on s.services_done activity)
    marked =
        ap (λ (ms : List ServiceMark). listed (λ (m : ServiceMark). spelled_u32 m.service) ms) own_done
        ∙ listed_seen spelled_u32 (λ (m : ServiceMark). m.service) (filter (λ m. m.activity.0 == activity) s.services_done)

    received : listed (λ (m : EntityMark). spelled_u64 m.entity.0) delivered ≡ listed spelled_u64 (delivered_on s.delivered activity)
    received =
        ap (λ (ms : List EntityMark). listed (λ (m : EntityMark). spelled_u64 m.entity.0) ms) own_delivered
        ∙ listed_seen spelled_u64 (λ (m : EntityMark). m.entity.0) (filter (λ m. m.activity.0 == activity) s.delivered)

-- the attributes of an activity are written as the pairs that they are seen as
attributes_put : (rows own : List Attribute) (a : ℕ) → own ≡ filter (λ r. r.activity.0 == a) rows → listed (λ (r : Attribute). spelled_pair (r.key, r.value)) own ≡ listed spelled_pair (attributes_of rows a)
attributes_put rows own a is =
    ap (λ (rs : List Attribute). listed (λ (r : Attribute). spelled_pair (r.key, r.value)) rs) is
    ∙ listed_seen {Y = List ℕ × Value} spelled_pair (λ (r : Attribute). (r.key, r.value)) (filter (λ r. r.activity.0 == a) rows)

-- the parts of an activity that are written, as the definition has them
activity_whole : (s : State) (row : Activity) → spelled_activity_row s.deployment row ++ (listed spelled_pair (attributes_of s.attributes row.number.0) ++ spelled_waiting s row.number.0) ≡ spelled_activity_2 s row
activity_whole s row =
    three_in_front number kind ending (attributes ++ (events ++ (done ++ (delivered ++ until))))
    ∙ sym (append_assoc number (kind ++ (ending ++ (attributes ++ (events ++ (done ++ delivered))))) until
    ∙ ap (λ x. number ++ x) (append_assoc kind (ending ++ (attributes ++ (events ++ (done ++ delivered)))) until
    ∙ ap (λ x. kind ++ x) (append_assoc ending (attributes ++ (events ++ (done ++ delivered))) until
    ∙ ap (λ x. ending ++ x) (append_assoc attributes (events ++ (done ++ delivered)) until
    ∙ ap (λ x. attributes ++ x) (append_assoc events (done ++ delivered) until
    ∙ ap (λ x. events ++ x) (append_assoc done delivered until))))))
  where
    number : List ℕ
    number = spelled_u64 row.number.0

    kind : List ℕ
    kind = spelled_kind s.deployment row.kind

    ending : List ℕ
    ending = spelled_flag row.ending

    attributes : List ℕ
    attributes = listed spelled_pair (attributes_of s.attributes row.number.0)

    events : List ℕ
    events = listed (spelled_event s.deployment) (queue s.events row.number.0)

    done : List ℕ
    done = listed spelled_u32 (done_on s.services_done row.number.0)

    delivered : List ℕ
    delivered = listed spelled_u64 (delivered_on s.delivered row.number.0)

    until : List ℕ
    until = spelled_option spelled_u64 (suspended_until s.suspensions row.number.0)

    three_in_front : (a b c more : List ℕ) → (a ++ (b ++ c)) ++ more ≡ a ++ (b ++ (c ++ more))
    three_in_front a b c more = append_assoc a (b ++ c) more ∙ ap (λ x. a ++ x) (append_assoc b c more)

-- an activity, its attributes, and then what waits on it
pub activity_put : (s : State) (d : Deployed) (row : Activity) (own : List Attribute) (start a b c : List ℕ) → d ≡ s.deployment → own ≡ filter (λ r. r.activity.0 == row.number.0) s.attributes
    → a ≡ start ++ spelled_activity_row d row → b ≡ a ++ listed (λ r. spelled_pair (r.key, r.value)) own → c ≡ b ++ spelled_waiting s row.number.0 → c ≡ start ++ spelled_activity_2 s row
activity_put s d row own start a b c is attributes one two three =
    three_put start (spelled_activity_row d row) (listed (λ (r : Attribute). spelled_pair (r.key, r.value)) own) (spelled_waiting s row.number.0) a b c one two three
    ∙ ap (λ bytes. start ++ (spelled_activity_row d row ++ (bytes ++ spelled_waiting s row.number.0))) (attributes_put s.attributes own row.number.0 attributes)
    ∙ ap (λ (x : Deployed). start ++ (spelled_activity_row x row ++ (listed spelled_pair (attributes_of s.attributes row.number.0) ++ spelled_waiting s row.number.0))) is
    ∙ ap (λ bytes. start ++ bytes) (activity_whole s row)

-- a borrowed name that is written with its activity, and a borrowed row
abbrev spelled_seen : Bor (List ℕ) × ActivityId → List ℕ
spelled_seen parts = spelled_name (record { name = parts.0.now; activity = parts.1 })

-- attachments, names, timers, and then rows
pub behind_put : (s : State) (d : Deployed) (names : List (Bor (List ℕ) × ActivityId)) (timers : List Timer) (rows : List (Bor ProfileRow)) (start a b c e : List ℕ) → d ≡ s.deployment → names_seen names ≡ map parts_of_name s.names → timers ≡ s.timers → map (λ row. row.now) rows ≡ s.rows
    → a ≡ start ++ listed (spelled_link s) s.links → b ≡ a ++ listed (λ parts. spelled_name (record { name = parts.0.now; activity = parts.1 })) names → c ≡ b ++ listed spelled_timer timers → e ≡ c ++ listed (λ row. spelled_row d row.now) rows
    → e ≡ start ++ spelled_behind s
behind_put s d names timers rows start a b c e is own_names own_timers own_rows one two three four =
    four_put start (listed (spelled_link s) s.links) (listed spelled_seen names) (listed spelled_timer timers) (listed (λ (row : Bor ProfileRow). spelled_row d row.now) rows) a b c e one two three four
    ∙ ap (λ x. start ++ (listed (spelled_link s) s.links ++ (x ++ (listed spelled_timer timers ++ listed (λ (row : Bor ProfileRow). spelled_row d row.now) rows)))) named
    ∙ ap (λ (x : List Timer). start ++ (listed (spelled_link s) s.links ++ (listed spelled_name s.names ++ (listed spelled_timer x ++ listed (λ (row : Bor ProfileRow). spelled_row d row.now) rows)))) own_timers
    ∙ ap (λ x. start ++ (listed (spelled_link s) s.links ++ (listed spelled_name s.names ++ (listed spelled_timer s.timers ++ x)))) kept
  where
    named : listed spelled_seen names ≡ listed spelled_name s.names
    named =
        listed_seen {Y = List ℕ × ActivityId} (λ parts. spelled_name (record { name = parts.0; activity = parts.1 })) name_seen names
        ∙ ap (λ (ns : List (List ℕ × ActivityId)). listed (λ (parts : List ℕ × ActivityId). spelled_name (record { name = parts.0; activity = parts.1 })) ns) own_names
        ∙ sym (listed_seen {Y = List ℕ × ActivityId} (λ parts. spelled_name (record { name = parts.0; activity = parts.1 })) parts_of_name s.names)

    kept : listed (λ (row : Bor ProfileRow). spelled_row d row.now) rows ≡ listed (spelled_row s.deployment) s.rows
    kept =
        listed_seen {Y = ProfileRow} (spelled_row d) (λ (row : Bor ProfileRow). row.now) rows
        ∙ ap (λ (rs : List ProfileRow). listed (spelled_row d) rs) own_rows
        ∙ ap (λ (x : Deployed). listed (spelled_row x) s.rows) is

-- activities are written alike, whatever the scripts of the first state are
each_alike : (d : Deployed) (p q : Program) (rows : List Activity) → flat_map (spelled_activity_2 (initial d p)) rows ≡ flat_map (spelled_activity_2 (initial d q)) rows
each_alike d p q [] = refl
each_alike d p q (row ∷ rows) = ap (λ more. spelled_activity_2 (initial d q) row ++ more) (each_alike d p q rows)

-- so are the bytes of the first state of a deployment
first_alike : (d : Deployed) (p q : Program) → spelled_state 2 (initial d p) ≡ spelled_state 2 (initial d q)
first_alike d p q =
    ap (λ more. spelled_before (initial d q) ++ ((spelled_u64 (length (initial d q).activities) ++ more) ++ spelled_behind (initial d q))) (each_alike d p q (initial d q).activities)

-- what stands for a state in a journal, by its bytes and those of the first state
pub snapshot_is : (s : State) (d : Deployed) (p : Program) (bytes initials : List ℕ) → d ≡ s.deployment → bytes ≡ spelled_state 2 s → initials ≡ spelled_state 2 (initial d p)
    → (if bytes_eq bytes initials then [] else bytes) ≡ snapshot_text 2 s
snapshot_is s d p bytes initials is own others =
    ap (λ (x : List ℕ). if bytes_eq bytes x then [] else bytes) (others ∙ first_alike d p s.program ∙ ap (λ (x : Deployed). spelled_state 2 (initial x s.program)) is)
    ∙ ap (λ (x : List ℕ). if bytes_eq x (spelled_state 2 (initial s.deployment s.program)) then [] else x) own
