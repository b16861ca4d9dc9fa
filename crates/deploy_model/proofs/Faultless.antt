-- Parts without fault: no member of theirs has one, and no item of an array.
use Rattle.std.proofs.Common.{◌≡◌, ℕ, ◌+◌, ◌&&◌, Bool, true, false, List, [], ◌∷◌, Option, Some, None, refl, IsTrue, inl, inr}
use Rattle.std.specs.Prelude.{codes, decimal, if◌then◌else◌}
use Rattle.std.specs.List.{AllByRecursion}
use Rattle.std.proofs.lemmas.Bool.{cases_Bool}
use Rattle.script_tree.specs.Tree.{Bytes}
use Rattle.deploy_model.specs.declared.fault.DeployBad.{DeployBad}
use Rattle.deploy_model.specs.declared.fault.DeployBad.TheVariants as bad
use Rattle.deploy_model.specs.declared.parts.Block.{Block}
use Rattle.deploy_model.specs.declared.parts.BlockEvent.{BlockEvent}
use Rattle.deploy_model.specs.declared.parts.Parts.{Parts}
use Rattle.deploy_model.specs.Faults.{Fault, here, unless, under, and_then}
use Rattle.deploy_model.specs.Rules.{Rule, Numbering, alias, entries, fresh, is_number, items, items_from, member, table}
use Rattle.deploy_model.specs.Tables.{IdNumbering, Known, block, block_event, block_members, component, custom, event_name, event_type, fault_by, id_number, initial, is_event, key_number, kind_of, known_in, method, parts_fault, profile_spec, relation, service, tables, wants_custom}

pub first_none : (a b : Option Fault) → and_then a b ≡ None → a ≡ None
first_none None b h = refl
first_none (Some f) b h = cc

pub later_none : (a b : Option Fault) → and_then a b ≡ None → b ≡ None
later_none None b h = h
later_none (Some f) b h = cc

pub under_none : (step : Bytes) (a : Option Fault) → under step a ≡ None → a ≡ None
under_none step None h = refl
under_none step (Some f) h = cc

pub unless_none : (b : Bool) (k : DeployBad) → unless b k ≡ None → IsTrue b
unless_none true k h = refl
unless_none false k h = cc

-- none of these rules finds a fault
abbrev pub EachRule : {A : Type 0} → List (Rule A) → A → Type 0
EachRule [] x = Unit {0}
EachRule (rule ∷ rules) x = (rule x ≡ None) × EachRule rules x

pub each_rule : {A : Type 0} (rules : List (Rule A)) (x : A) → table rules x ≡ None → EachRule rules x
each_rule [] x h = tt
each_rule (rule ∷ rules) x h = (first_none (rule x) (table rules x) h, each_rule rules x (later_none (rule x) (table rules x) h))

-- what follows from the rule for items holds of each
pub each_item : {A : Type 0} (rule : ℕ → Rule A) (P : A → Type 0) → ((n : ℕ) (x : A) → rule n x ≡ None → P x) → (n : ℕ) (xs : List A) → items_from rule n xs ≡ None → AllByRecursion P xs
each_item rule P each n [] h = tt
each_item rule P each n (x ∷ xs) h = (
  each n x (under_none (decimal n) (rule n x) (first_none (under (decimal n) (rule n x)) (items_from rule (n + 1) xs) h)),
  each_item rule P each (n + 1) xs (later_none (under (decimal n) (rule n x)) (items_from rule (n + 1) xs) h),
)

-- the blocks of parts without fault have none
pub blocks_none : (p : Parts) → parts_fault p ≡ None → items (block (known_in p) (id_number (λ b. b.id) p.blocks)) p.blocks ≡ None
blocks_none p h =
    let all = known_in p in
    let found = each_rule
    (member (codes "events") (λ x. x.events) (items (event_type all.events (id_number (λ e. e.id) p.events)))
    ∷ member (codes "profiles") (λ x. x.profiles) (items (profile_spec all.profiles (id_number (λ q. q.id) p.profiles)))
    ∷ member (codes "tables") (λ x. x.tables) (tables all)
    ∷ member (codes "blocks") (λ x. x.blocks) (items (block all (id_number (λ b. b.id) p.blocks)))
    ∷ member (codes "services") (λ x. x.services) (items (service all (key_number (λ s. s.key) p.services) (id_number (λ s. s.id) p.services)))
    ∷ []) p h in
    under_none (codes "blocks") (items (block all (id_number (λ b. b.id) p.blocks)) p.blocks) found.1.1.1.0

-- the handled events of a block without fault have none
pub events_none : (all : Known) (ids : IdNumbering) (n : ℕ) (b : Block) → block all ids n b ≡ None → items (block_event all (key_number (λ h. h.event) b.events)) b.events ≡ None
events_none all ids n b h =
    let parts = each_rule (component (λ x. x.key) (λ x. x.id) all.blocks ids n ∷ block_members all ∷ []) b h in
    let members = each_rule
    (member (codes "aliases") (λ x. x.aliases) (entries (λ a. a.0) (λ a. alias (kind_of b.attributes a.0) (all.alias_kind a.1)))
    ∷ member (codes "relations") (λ x. x.relations) (entries (λ r. r.name) (relation all))
    ∷ member (codes "events") (λ x. x.events) (items (block_event all (key_number (λ h. h.event) b.events)))
    ∷ member (codes "methods") (λ x. x.methods) (entries (λ m. m.name) method)
    ∷ []) b parts.1.0 in
    under_none (codes "events") (items (block_event all (key_number (λ h. h.event) b.events)) b.events) members.1.1.0

-- the event of a handler without fault is an event, and the handler is the first for it
pub named_none : (all : Known) (handlers : Numbering) (n : ℕ) (h : BlockEvent) → block_event all handlers n h ≡ None → event_name all handlers n h.event ≡ None
named_none all handlers n h e =
    let members = each_rule
    (member (codes "event") (λ x. x.event) (event_name all handlers n)
    ∷ member (codes "initial") (λ x. x.initial) (initial h.event)
    ∷ member (codes "custom") (λ x. x.custom) (custom all h.event (wants_custom h.initial))
    ∷ []) h e in
    under_none (codes "event") (event_name all handlers n h.event) members.0

by_event : (b : Bool) (named : Option ℕ) (n : ℕ) → (if b then fresh named n else here bad.UnknownName) ≡ None → (b ≡ true) × (is_number n named ≡ true)
by_event true named n e = (refl, unless_none (is_number n named) bad.Repeated e)
by_event false named n e = cc

pub event_is_own : (all : Known) (handlers : Numbering) (n : ℕ) (h : BlockEvent) → block_event all handlers n h ≡ None → (is_event all h.event ≡ true) × (is_number n (handlers h.event) ≡ true)
event_is_own all handlers n h e = by_event (is_event all h.event) (handlers h.event) n (named_none all handlers n h e)

-- each handler stands at the place of its event, counted from n
abbrev pub stand_at : Numbering → ℕ → List BlockEvent → Bool
stand_at places n [] = true
stand_at places n (h ∷ events) = is_number n (places h.event) && stand_at places (n + 1) events

stand : (all : Known) (handlers : Numbering) (n : ℕ) (events : List BlockEvent) → items_from (block_event all handlers) n events ≡ None → stand_at handlers n events ≡ true
stand all handlers n [] h = refl
stand all handlers n (e ∷ events) h =
    let rule = block_event all handlers in
    let here_none = under_none (decimal n) (rule n e) (first_none (under (decimal n) (rule n e)) (items_from rule (n + 1) events) h) in
    let own = (event_is_own all handlers n e here_none).1 in
    let rest = stand all handlers (n + 1) events (later_none (under (decimal n) (rule n e)) (items_from rule (n + 1) events) h) in
    rw (own, rest) refl

-- in parts without fault no block handles an event twice
pub each_handled_once : (p : Parts) → parts_fault p ≡ None → AllByRecursion (λ b. stand_at (key_number (λ h. h.event) b.events) 0 b.events ≡ true) p.blocks
each_handled_once p h =
    let all = known_in p in
    let ids = id_number (λ b. b.id) p.blocks in
    each_item (block all ids) (λ b. stand_at (key_number (λ x. x.event) b.events) 0 b.events ≡ true)
    (λ n b none. stand all (key_number (λ x. x.event) b.events) 0 b.events (events_none all ids n b none))
    0 p.blocks (blocks_none p h)
