-- Deployments that were read are as the router asks: own names, events that are masked, and priorities.
use Rattle.std.proofs.Common.{◌≡◌, ℕ, zero, suc, ◌+◌, Bool, true, false, not, List, [], ◌∷◌, filter, map, Option, Some, None, refl, sym, ap, ◌∙◌, subst, inl, inr, arith}
use Rattle.std.specs.Prelude.{Ok, ℤ, pos, negsuc, codes, is_some, slice_get}
use Rattle.std.specs.List.{AllByRecursion, list_all, position_from}
use Rattle.std.specs.Option.{option_map_or, option_or}
use Rattle.std.specs.Str.{bytes_eq}
use Rattle.std.proofs.lemmas.Bool.{and_from, and_parts, cases_Bool, cond_both, false_from_ne_true, false≢true, or_cases}
use Rattle.std.proofs.lemmas.Bool.Decides.{nat_tests}
use Rattle.std.proofs.lemmas.List.Folds.{find-append}
use Rattle.std.proofs.lemmas.Slice.Eq.{bytes_eq-Decides}
use Rattle.serde_json.specs.Data.{Data, Items, no_items, item}
use Rattle.slee_value.specs.Name.{is_name}
use Rattle.slee_value.specs.Order.{is_below}
use Rattle.script_types.specs.Codes.{built_in, named}
use Rattle.script_types.specs.declared.codes.EventCode.{EventCode}
use Rattle.deploy_model.proofs.Faultless.{blocks_none, each_item, each_rule, event_is_own, events_none, under_none, unless_none}
use Rattle.deploy_model.specs.Deployed.{Deployed, DeployedBlock, DeployedService, Handling, in_order, is_event, with_text}
use Rattle.deploy_model.specs.Faults.{unless}
use Rattle.deploy_model.specs.Resolving as resolving
use Rattle.deploy_model.specs.Resolving.{deployed_of}
use Rattle.deploy_model.specs.Rules.{Numbering, items, member}
use Rattle.deploy_model.specs.Tables as walk
use Rattle.deploy_model.specs.Tables.{block, block_event, component, event_type, id_number, is_built_in, is_taken, key_number, known_in, parts_fault, profile_spec, service, tables}
use Rattle.deploy_model.specs.declared.fault.DeployBad.TheVariants as bad
use Rattle.deploy_model.specs.declared.parts.Block.{Block}
use Rattle.deploy_model.specs.declared.parts.BlockEvent.{BlockEvent}
use Rattle.deploy_model.specs.declared.parts.EventType.{EventType}
use Rattle.deploy_model.specs.declared.parts.Parts.{Parts}
use Rattle.deploy_model.specs.declared.parts.Service.{Service}
use Rattle.deploy_schema.specs.Numbers.{items_at}
use Rattle.deploy_json.proofs.NoFault.{sound}
use Rattle.deploy_json.proofs.Shaped.{shaped}
use Rattle.deploy_json.specs.Reading.{parts_of}
use Rattle.deploy_json.specs.Rows.{PartsRow, parts_row}
use Rattle.deploy_json.specs.Shapes.{EachItem, IsEventType, IsService, is_priority as is_written}
use Rattle.deploy_json.specs.Values.{event_type_of, listed, service_of}
use Rattle.router_laws_deployed.proofs.Declared.{block_fields_rise, read_document}
use Rattle.router_laws_sound.specs.Rooms.{IsDeployed}
use Rattle.router_state.specs.Fits.{is_priority}

pub all_each : {A : Type 0} (P : Data → Type 0) (of_item : Data → A) (p : A → Bool) (ds : Items) → ((d : Data) → P d → p (of_item d) ≡ true) → EachItem P ds → list_all p (listed of_item ds) ≡ true
all_each P of_item p no_items each all = refl
all_each P of_item p (item d ds) each all = and_from (p (of_item d)) _ (each d all.0) (all_each P of_item p ds each all.1)

-- names

text_same : (x y : List ℕ) → bytes_eq x y ≡ true → x ≡ y
text_same x y is = (bytes_eq-Decides x y).0 is

no_name : (word name : List ℕ) → is_name word ≡ false → is_name name ≡ true → bytes_eq word name ≡ false
no_name word name isnt is = false_from_ne_true (bytes_eq word name) (λ same. false≢true (sym isnt ∙ ap is_name (text_same word name same) ∙ is))

turned : (x y : List ℕ) → not (bytes_eq x y) ≡ true → bytes_eq y x ≡ false
turned x y other = false_from_ne_true (bytes_eq y x) (λ same. clash (bytes_eq x y) other ((bytes_eq-Decides x y).1 (sym (text_same y x same))))
  where
    clash : (b : Bool) → not b ≡ true → b ≡ true → ⊥
    clash true one two = absurd (cc)
    clash false one two = absurd (cc)

-- a key that isn't taken is no built-in event's name
own_name : (key : List ℕ) → is_name key ≡ true → not (is_taken key) ≡ true → named (λ (e : EventCode). e.name) key built_in ≡ None
own_name key good free =
    rw (
      no_name (codes "activity-end") key refl good,
      turned key (codes "timer") free,
      no_name (codes "service-started") key refl good,
      no_name (codes "profile-added") key refl good,
      no_name (codes "profile-updated") key refl good,
      no_name (codes "profile-removed") key refl good,
    ) refl

own_by : (events : List EventType) → list_all (λ (e : EventType). is_name e.key) events ≡ true → AllByRecursion (λ (e : EventType). not (is_taken e.key) ≡ true) events
    → (name : List ℕ) → is_some (named (λ (e : EventCode). e.name) name (map resolving.event_of events)) ≡ true → named (λ (e : EventCode). e.name) name built_in ≡ None
own_by [] good free name there = absurd (cc)
own_by (e ∷ events) good free name there =
    let parts = and_parts (is_name e.key) (list_all (λ (e : EventType). is_name e.key) events) good in
    elim (cases_Bool (bytes_eq e.key name)) [
      | inl is ↦ subst (λ k. named (λ (e : EventCode). e.name) k built_in ≡ None) (text_same e.key name is) (own_name e.key parts.0 free.0)
      | inr isnt ↦ own_by events parts.1 free.1 name (rw isnt at there)
    ]

untaken : (p : Parts) → parts_fault p ≡ None → AllByRecursion (λ (e : EventType). not (is_taken e.key) ≡ true) p.events
untaken p h =
    let all = known_in p in
    let found = each_rule
    (member (codes "events") (λ x. x.events) (items (event_type all.events (id_number (λ e. e.id) p.events)))
    ∷ member (codes "profiles") (λ x. x.profiles) (items (profile_spec all.profiles (id_number (λ q. q.id) p.profiles)))
    ∷ member (codes "tables") (λ x. x.tables) (tables all)
    ∷ member (codes "blocks") (λ x. x.blocks) (items (block all (id_number (λ b. b.id) p.blocks)))
    ∷ member (codes "services") (λ x. x.services) (items (service all (key_number (λ s. s.key) p.services) (id_number (λ s. s.id) p.services)))
    ∷ []) p h in
    each_item (event_type all.events (id_number (λ e. e.id) p.events)) (λ (e : EventType). not (is_taken e.key) ≡ true)
    (λ n e none. let members = each_rule (member (codes "key") (λ x. x.key) (λ k. unless (not (is_taken k)) bad.Repeated) ∷ component (λ x. x.key) (λ x. x.id) all.events (id_number (λ x. x.id) p.events) n ∷ []) e none in
    unless_none (not (is_taken e.key)) bad.Repeated (under_none (codes "key") (unless (not (is_taken e.key)) bad.Repeated) members.0))
    0 p.events (under_none (codes "events") (items (event_type all.events (id_number (λ e. e.id) p.events)) p.events) found.0)

-- events

key_there : (q : List ℕ) (n : ℕ) (events : List EventType) → is_some (position_from (λ (x : EventType). bytes_eq q x.key) n events) ≡ true → is_some (named (λ (e : EventCode). e.name) q (map resolving.event_of events)) ≡ true
key_there q n [] there = absurd (cc)
key_there q n (e ∷ events) there = elim (cases_Bool (bytes_eq q e.key)) [
  | inl is ↦ (let back : bytes_eq e.key q ≡ true = (bytes_eq-Decides e.key q).1 (sym (text_same q e.key is)) in rw back refl)
  | inr isnt ↦ cond_both (bytes_eq e.key q) (Some (resolving.event_of e)) (named (λ (e : EventCode). e.name) q (map resolving.event_of events)) (λ o. is_some o ≡ true) (λ _. refl) (λ _. key_there q (n + 1) events (rw isnt at there))
]

some_first : {A : Type 0} (o p : Option A) → is_some o ≡ true → is_some (option_or o p) ≡ true
some_first None p is = absurd (cc)
some_first (Some x) p is = refl

some_second : {A : Type 0} (o p : Option A) → is_some p ≡ true → is_some (option_or o p) ≡ true
some_second None p is = is
some_second (Some x) p is = refl

event_there : (p : Parts) (q : List ℕ) → walk.is_event (known_in p) q ≡ true → is_event (deployed_of p) q ≡ true
event_there p q is =
    ap is_some (find-append (λ (e : EventCode). bytes_eq e.name q) built_in (map resolving.event_of p.events))
    ∙ elim (or_cases (is_some (key_number (λ (e : EventType). e.key) p.events q)) (is_built_in q) is) [
      | inl declared ↦ some_second (named (λ (e : EventCode). e.name) q built_in) (named (λ (e : EventCode). e.name) q (map resolving.event_of p.events)) (key_there q 0 p.events declared)
      | inr own ↦ some_first (named (λ (e : EventCode). e.name) q built_in) (named (λ (e : EventCode). e.name) q (map resolving.event_of p.events)) own
    ]

-- masks

all_with : (p : List ℕ → Bool) (text : List ℕ) (texts : List (List ℕ)) → p text ≡ true → list_all p texts ≡ true → list_all p (with_text text texts) ≡ true
all_with p text [] one all = and_from (p text) _ one refl
all_with p text (other ∷ texts) one all =
    let parts = and_parts (p other) (list_all p texts) all in
    cond_both (is_below text other) (text ∷ other ∷ texts) (other ∷ with_text text texts) (λ xs. list_all p xs ≡ true) (λ _. and_from (p text) _ one all) (λ _. and_from (p other) _ parts.0 (all_with p text texts one parts.1))

all_ordered : (p : List ℕ → Bool) (texts : List (List ℕ)) → list_all p texts ≡ true → list_all p (in_order texts) ≡ true
all_ordered p [] all = refl
all_ordered p (text ∷ texts) all = let parts = and_parts (p text) (list_all p texts) all in all_with p text (in_order texts) parts.0 (all_ordered p texts parts.1)

handled : (d : Deployed) (events : List BlockEvent) → AllByRecursion (λ (h : BlockEvent). is_event d h.event ≡ true) events → list_all (is_event d) (map (λ (h : Handling). h.event) (filter (λ (h : Handling). h.mask) (map resolving.handling_of events))) ≡ true
handled d [] all = refl
handled d (h ∷ events) all =
    cond_both h.mask (resolving.handling_of h ∷ filter (λ (x : Handling). x.mask) (map resolving.handling_of events)) (filter (λ (x : Handling). x.mask) (map resolving.handling_of events)) (λ xs. list_all (is_event d) (map (λ (x : Handling). x.event) xs) ≡ true)
    (λ _. and_from (is_event d h.event) _ all.0 (handled d events all.1)) (λ _. handled d events all.1)

masked_by : (d : Deployed) (blocks : Numbering) (rows : List Block) (n : ℕ) → AllByRecursion (λ (b : Block). AllByRecursion (λ (h : BlockEvent). is_event d h.event ≡ true) b.events) rows
    → list_all (is_event d) (option_map_or (λ (b : DeployedBlock). in_order (map (λ (h : Handling). h.event) (filter (λ (h : Handling). h.mask) b.events))) (slice_get (map (resolving.block_of blocks) rows) n) []) ≡ true
masked_by d blocks [] n all = refl
masked_by d blocks (b ∷ rows) zero all = all_ordered (is_event d) (map (λ (h : Handling). h.event) (filter (λ (h : Handling). h.mask) (map resolving.handling_of b.events))) (handled d b.events all.0)
masked_by d blocks (b ∷ rows) (suc n) all = masked_by d blocks rows n all.1

all_weaker : {X : Type 0} (P Q : X → Type 0) (xs : List X) → ((x : X) → P x → Q x) → AllByRecursion P xs → AllByRecursion Q xs
all_weaker P Q [] follows all = tt
all_weaker P Q (x ∷ xs) follows all = (follows x all.0, all_weaker P Q xs follows all.1)

known_events : (p : Parts) → parts_fault p ≡ None → AllByRecursion (λ (b : Block). AllByRecursion (λ (h : BlockEvent). is_event (deployed_of p) h.event ≡ true) b.events) p.blocks
known_events p h =
    let all = known_in p in
    let ids = id_number (λ (b : Block). b.id) p.blocks in
    each_item (block all ids) (λ (b : Block). AllByRecursion (λ (h : BlockEvent). is_event (deployed_of p) h.event ≡ true) b.events)
    (λ n b none. each_item (block_event all (key_number (λ (x : BlockEvent). x.event) b.events)) (λ (h : BlockEvent). is_event (deployed_of p) h.event ≡ true)
    (λ m x fine. event_there p x.event (event_is_own all (key_number (λ (y : BlockEvent). y.event) b.events) m x fine).0) 0 b.events (events_none all ids n b none))
    0 p.blocks (blocks_none p h)

-- priorities

pub written_fits : (z : ℤ) → is_written z ≡ true → is_priority z ≡ true
written_fits (pos n) is = grind (arith, nat_tests, is)
written_fits (negsuc n) is = grind (arith, nat_tests, is)

rank_by : (blocks : Numbering) (rows : List Service) (n : ℕ) (row : DeployedService) → list_all (λ (s : Service). is_priority s.priority) rows ≡ true → slice_get (map (resolving.service_of blocks) rows) n ≡ Some row → is_priority row.priority ≡ true
rank_by blocks [] n row all is = absurd (cc)
rank_by blocks (s ∷ rows) zero row all is =
    let same : resolving.service_of blocks s ≡ row = cc in
    subst (λ (r : DeployedService). is_priority r.priority ≡ true) same (and_parts (is_priority s.priority) (list_all (λ (s : Service). is_priority s.priority) rows) all).0
rank_by blocks (s ∷ rows) (suc n) row all is = rank_by blocks rows n row (and_parts (is_priority s.priority) (list_all (λ (s : Service). is_priority s.priority) rows) all).1 is

-- a deployment that was read is as the router asks
pub read_is_deployed : (bytes : List ℕ) (parts : Parts) → parts_of bytes ≡ Ok (parts_row parts) → IsDeployed (deployed_of parts)
read_is_deployed bytes parts is =
    let read = read_document bytes (parts_row parts) is in
    let document = shaped read.0 read.3 in
    let fine : parts_fault parts ≡ None = sound read.0 parts read.3 (sym read.2) in
    let keys : list_all (λ (e : EventType). is_name e.key) parts.events ≡ true =
    subst (λ es. list_all (λ (e : EventType). is_name e.key) es ≡ true) (ap (λ (p : PartsRow). p.events) read.2) (all_each IsEventType event_type_of (λ (e : EventType). is_name e.key) (items_at (codes "events") read.0) (λ d event. event.key) document.events) in
    let ranks : list_all (λ (s : Service). is_priority s.priority) parts.services ≡ true =
    subst (λ xs. list_all (λ (s : Service). is_priority s.priority) xs ≡ true) (ap (λ (p : PartsRow). p.services) read.2) (all_each IsService service_of (λ (s : Service). is_priority s.priority) (items_at (codes "services") read.0) (λ d x. written_fits (service_of d).priority x.priority) document.services) in
    record {
      own = own_by parts.events keys (untaken parts fine);
      masked = λ n. masked_by (deployed_of parts) (key_number (λ (b : Block). b.key) parts.blocks) parts.blocks n (known_events parts fine);
      fields = block_fields_rise bytes parts is;
      ranks = λ n row. rank_by (key_number (λ (b : Block). b.key) parts.blocks) parts.services n row ranks;
    }
