-- Lines that say nothing of suspensions, and changes that leave these and the count of inputs as they are.
use Rattle.std.proofs.Common.{◌≡◌, ℕ, ℤ, ◌+◌, ◌==◌, Bool, true, false, not, List, [], ◌∷◌, ◌++◌, filter, map, refl, ◌∙◌, ap, if◌then◌else◌, Option, Some, None, flat_map, Ok, Err, Result}
use Rattle.std.specs.Prelude.{codes, filter_map}
use Rattle.std.specs.List.{AllByRecursion}
use Rattle.std.specs.Option.{option_map_or}
use Rattle.std.proofs.lemmas.Bool.{cond_both}
use Rattle.built_in_events.specs.declared.built_in.BuiltInEvent.TheVariants as built_in_events
use Rattle.built_in_events.specs.BuiltIn.{name_of as built_in_name}
use Rattle.slee_value.specs.declared.convergence.ConvName.{ConvName}
use Rattle.slee_value.specs.declared.ids.EntityId.{EntityId}
use Rattle.slee_value.specs.declared.value.Value.TheVariants as values
use Rattle.script_types.specs.declared.codes.FieldCode.{FieldCode}
use Rattle.script_types.specs.declared.codes.RelationCode.{RelationCode}
use Rattle.script_types.specs.Program.{Steps, BlockProgram}
use Rattle.script_meaning.specs.Removal.{said, text_in, lines_of, lines_by, lines_in, lines_with, removal_lines, no_args}
use Rattle.script_meaning.specs.Meaning.{Meaning, Done, Need, Unchecked, meaning_in, nothing_before}
use Rattle.script_meaning.specs.declared.outcome.Outcome.{Outcome}
use Rattle.script_meaning.specs.declared.outcome.Outcome.TheVariants as outcomes
use Rattle.deploy_model.specs.Deployed.{DeployedService, service_at, service_key, block_fields}
use Rattle.slee_effect.specs.declared.effect.Effect.{Effect}
use Rattle.router_laws.proofs.ListRules.{all_append}
use Rattle.router_laws_histories.proofs.Suspending.{plain_verb}
use Rattle.router_laws_histories.specs.Suspended.{told_by, told_suspended}
use Rattle.router_state.specs.State.{State}
use Rattle.router_state.specs.Changes.{after_change, after_changes}
use Rattle.router_state.specs.Closed.{is_loose, is_stopped}
use Rattle.router_state.specs.Contexts.{is_linked, links_on}
use Rattle.router_state.specs.Queues.{activity_end}
use Rattle.router_state.specs.Timing.{Occurrence}
use Rattle.router_state.specs.Trees.{roots, tree_of, entity_at}
use Rattle.router_state.specs.declared.change.Change.{Change}
use Rattle.router_state.specs.declared.change.Change.TheVariants as changes
use Rattle.router_state.specs.declared.rows.Link.{Link}
use Rattle.router_state.specs.declared.rows.Service.{Service}
use Rattle.router_state.specs.declared.rows.ServiceState.TheVariants as states
use Rattle.router_steps.specs.declared.refusal.Refusal.{Refusal}
use Rattle.router_steps.specs.Closing.{activity_numbers, close_null, close_nulls, close_root, close_roots, close_service, close_services, closing, is_idle_at, lines_of_closing, lines_of_null, lines_of_nulls, lines_of_root, lines_of_roots, lines_of_services, without_loose, without_stopped}
use Rattle.router_steps.specs.Creating.{with_root, root_of, with_child, first_fields}
use Rattle.router_steps.specs.Going.{removed, all_removed, tree_removed, changes_of_removal, lines_of_removed, lines_of_all_removed, lines_of_tree_removed, lines_of_parting}
use Rattle.router_steps.specs.Lines.{queued_line, refused_line, ending_line, removed_line, attached_line, detached_line, created_line, started_line, timer_line, usage_line, service_line, exception_line, rolled_back_line, gone_line}
use Rattle.router_steps.specs.Moves.{queued, lines_of_queued, ended, lines_of_ended, attached, lines_of_attached, detached, lines_of_detached, changes_of_detaching, changes_of_dropping, changes_of_services, dropped}
use Rattle.router_steps.specs.Scripts.{last_words, answers_in}
use Rattle.router_steps.specs.Steps.{line_of_callback}
use Rattle.router_steps.specs.Taking.{all_occurred, lines_of_all_occurred, occurred}
use Rattle.router_steps.specs.Values.{unset}
use Rattle.trace_history.specs.Words.{words_in}

-- the line says nothing of suspensions
abbrev pub IsPlain : List ℕ → Type 0
IsPlain line = (a : ℕ) (was : Bool) → told_by a was (words_in line) ≡ was

-- so it is with each of these
abbrev pub ArePlain : List (List ℕ) → Type 0
ArePlain lines = AllByRecursion IsPlain lines

pub plain_told : (lines : List (List ℕ)) → ArePlain lines → (a : ℕ) (was : Bool) → told_suspended a was lines ≡ was
plain_told [] plain a was = refl
plain_told (line ∷ lines) plain a was = ap (λ w. told_suspended a w lines) (plain.0 a was) ∙ plain_told lines plain.1 a was

-- the state has the suspensions that were there, and as many inputs
abbrev pub IsKept : State → State → Type 0
IsKept s t = (t.suspensions ≡ s.suspensions) × (t.inputs ≡ s.inputs)

pub kept_then : (s t u : State) → IsKept s t → IsKept t u → IsKept s u
kept_then s t u one two = (two.0 ∙ one.0, two.1 ∙ one.1)

-- so it is, and the lines say nothing of suspensions
abbrev pub Leaves : State → State → List (List ℕ) → Type 0
Leaves s t lines = IsKept s t × ArePlain lines

pub leaves_then : (s t u : State) (l k : List (List ℕ)) → Leaves s t l → Leaves t u k → Leaves s u (l ++ k)
leaves_then s t u l k one two = (kept_then s t u one.0 two.0, all_append IsPlain l k one.1 two.1)

pub leaves_if : (b : Bool) (s t : State) (lines : List (List ℕ)) → Leaves s t lines → Leaves s (if b then t else s) (if b then lines else [])
leaves_if true s t lines leaves = leaves
leaves_if false s t lines leaves = ((refl, refl), tt)

plain_if : (b : Bool) (lines : List (List ℕ)) → ArePlain lines → ArePlain (if b then lines else [])
plain_if true lines plain = plain
plain_if false lines plain = tt

plain_option : {B : Type 0} (f : B → List (List ℕ)) → ((x : B) → ArePlain (f x)) → (o : Option B) → ArePlain (option_map_or f o [])
plain_option f each None = tt
plain_option f each (Some x) = each x

-- lines of verbs of their own

plain_removed : (e : ℕ) → IsPlain (removed_line e)
plain_removed e a was = plain_verb a was (codes "removed") _ refl refl

plain_said : (e : EntityId) (text : List ℕ) → IsPlain (said e text)
plain_said e text a was = plain_verb a was (codes "say") _ refl refl

pub plain_emitted : (e : EntityId) (text : List ℕ) → ArePlain (said e text ∷ [])
plain_emitted e text = (plain_said e text, tt)

plain_queued : (v : ℕ) (event : List ℕ) (b : ℕ) → IsPlain (queued_line v event b)
plain_queued v event b a was = plain_verb a was (codes "queued") _ refl refl

plain_ending : (b : ℕ) → IsPlain (ending_line b)
plain_ending b a was = plain_verb a was (codes "ending") _ refl refl

plain_attached : (e b : ℕ) → IsPlain (attached_line e b)
plain_attached e b a was = plain_verb a was (codes "attached") _ refl refl

plain_detached : (e b : ℕ) → IsPlain (detached_line e b)
plain_detached e b a was = plain_verb a was (codes "detached") _ refl refl

pub plain_created : (e parent : ℕ) (relation : List ℕ) → IsPlain (created_line e parent relation)
plain_created e parent relation a was = plain_verb a was (codes "created") _ refl refl

pub plain_started : (b : ℕ) (what : List ℕ) → IsPlain (started_line b what)
plain_started b what a was = plain_verb a was (codes "started") _ refl refl

pub plain_timer : (t b : ℕ) → IsPlain (timer_line t b)
plain_timer t b a was = plain_verb a was (codes "timer") _ refl refl

pub plain_usage : (e : ℕ) (name : List ℕ) (amount : ℤ) → IsPlain (usage_line e name amount)
plain_usage e name amount a was = plain_verb a was (codes "usage") _ refl refl

pub plain_service : (key word : List ℕ) → IsPlain (service_line key word)
plain_service key word a was = plain_verb a was (codes "service") _ refl refl

pub plain_refused : (why : Refusal) → IsPlain (refused_line why)
plain_refused why a was = plain_verb a was (codes "refused") _ refl refl

plain_exception : (o : Outcome) → IsPlain (exception_line o)
plain_exception o a was = plain_verb a was (codes "exception") _ refl refl

plain_rolled_back : (o : Outcome) → IsPlain (rolled_back_line o)
plain_rolled_back o a was = plain_verb a was (codes "rolled-back") _ refl refl

pub plain_gone : (b : ℕ) → IsPlain (gone_line b)
plain_gone b a was = plain_verb a was (codes "gone") _ refl refl

pub plain_exceptions : (o : Option Outcome) → ArePlain (line_of_callback exception_line o)
plain_exceptions None = tt
plain_exceptions (Some outcome) = (plain_exception outcome, tt)

pub plain_rollbacks : (o : Option Outcome) → ArePlain (line_of_callback rolled_back_line o)
plain_rollbacks None = tt
plain_rollbacks (Some outcome) = (plain_rolled_back outcome, tt)

-- changes of anything else

abbrev leaves_holds : Change → Bool
leaves_holds (changes.Hold a until) = false
leaves_holds (changes.Release a) = false
leaves_holds changes.Taken = false
leaves_holds _ = true

kept_change : (c : Change) (s : State) → leaves_holds c ≡ true → IsKept s (after_change c s)
kept_change (changes.Hold a until) s leaves = absurd (cc)
kept_change (changes.Release a) s leaves = absurd (cc)
kept_change changes.Taken s leaves = absurd (cc)
kept_change _ s leaves = (refl, refl)

abbrev AreAside : List Change → Type 0
AreAside cs = AllByRecursion (λ c. leaves_holds c ≡ true) cs

kept_changes : (cs : List Change) (s : State) → AreAside cs → IsKept s (after_changes cs s)
kept_changes [] s aside = (refl, refl)
kept_changes (c ∷ cs) s aside = kept_then s (after_change c s) (after_changes cs (after_change c s)) (kept_change c s aside.0) (kept_changes cs (after_change c s) aside.1)

pub kept_if : (b : Bool) (s t u : State) → IsKept s t → IsKept s u → IsKept s (if b then t else u)
kept_if b s t u one two = cond_both b t u (IsKept s) (λ _. one) (λ _. two)

kept_option : {B : Type 0} (f : B → State) (s : State) → ((x : B) → IsKept s (f x)) → (o : Option B) → IsKept s (option_map_or f o s)
kept_option f s each None = (refl, refl)
kept_option f s each (Some x) = each x

-- trees that go

plain_texts : (e : EntityId) (texts : List (List ℕ)) → ArePlain (map (said e) texts)
plain_texts e [] = tt
plain_texts e (text ∷ texts) = (plain_said e text, plain_texts e texts)

plain_by : (e : EntityId) (outcome : Outcome) (es : List Effect) → ArePlain (lines_by e outcome es)
plain_by e outcomes.Fine es = plain_if _ (lines_of e es) (plain_texts e (filter_map text_in es))
plain_by e outcomes.Asked es = tt
plain_by e (outcomes.Broken kind) es = tt

plain_meaning : (e : EntityId) (m : Meaning) → ArePlain (lines_in e m)
plain_meaning e (Done report) = plain_by e report.outcome report.effects
plain_meaning e (Need key) = tt
plain_meaning e Unchecked = tt

plain_steps : (s : State) (block : BlockProgram) (e : EntityId) (steps : Option Steps) → ArePlain (lines_with (answers_in s) s.program block e steps)
plain_steps s block e None = tt
plain_steps s block e (Some steps) = plain_meaning e (meaning_in (answers_in s) s.program block steps e no_args nothing_before)

plain_parting : (s : State) (e : ℕ) → ArePlain (lines_of_parting s e)
plain_parting s e =
    plain_option (last_words s) (λ row. plain_option (λ block. removal_lines (answers_in s) s.program block row.number) (λ block. plain_steps s block row.number block.remove) _) (entity_at s.entities e)

aside_detaching : (links : List Link) → AreAside (flat_map changes_of_detaching links)
aside_detaching [] = tt
aside_detaching (l ∷ links) = (refl, (refl, aside_detaching links))

removed_leaves : (e : ℕ) (s : State) → Leaves s (removed s e) (lines_of_removed s e)
removed_leaves e s = (
  kept_changes (changes_of_removal s e) s
      (all_append (λ c. leaves_holds c ≡ true) (flat_map changes_of_detaching (filter (λ l. l.entity.0 == e) s.links)) _ (aside_detaching (filter (λ l. l.entity.0 == e) s.links)) (refl, (refl, tt))),
  all_append IsPlain (lines_of_parting s e) (removed_line e ∷ []) (plain_parting s e) (plain_removed e, tt),
)

all_removed_leaves : (es : List ℕ) (s : State) → Leaves s (all_removed es s) (lines_of_all_removed es s)
all_removed_leaves [] s = ((refl, refl), tt)
all_removed_leaves (e ∷ es) s =
    leaves_then s (removed s e) (all_removed es (removed s e)) (lines_of_removed s e) (lines_of_all_removed es (removed s e)) (removed_leaves e s) (all_removed_leaves es (removed s e))

pub tree_leaves : (s : State) (e : ℕ) → Leaves s (tree_removed s e) (lines_of_tree_removed s e)
tree_leaves s e = all_removed_leaves (tree_of s.entities e) s

-- moves

pub queued_leaves : (s : State) (a : ℕ) (event : List ℕ) (fields : _) (target : Option ℕ) → Leaves s (queued s a event fields target) (lines_of_queued s a event)
queued_leaves s a event fields target = ((refl, refl), (plain_queued s.next_event event a, tt))

pub ended_leaves : (s : State) (a : ℕ) → Leaves s (ended s a) (lines_of_ended s a)
ended_leaves s a = ((refl, refl), (plain_ending a, (plain_queued s.next_event activity_end a, tt)))

pub attached_leaves : (s : State) (e a : ℕ) → Leaves s (attached s e a) (lines_of_attached s e a)
attached_leaves s e a = (
  kept_if (is_linked s.links e a) s s _ (refl, refl) (refl, refl),
  cond_both (is_linked s.links e a) [] (attached_line e a ∷ []) ArePlain (λ _. tt) (λ _. (plain_attached e a, tt)),
)

pub detached_leaves : (s : State) (e a : ℕ) → Leaves s (detached s e a) (lines_of_detached s e a)
detached_leaves s e a = ((refl, refl), plain_if (is_linked s.links e a) (detached_line e a ∷ []) (plain_detached e a, tt))

aside_fields : (e : ℕ) (fields : List FieldCode) → AreAside (map (λ (field : FieldCode). changes.SetField (record { 0 = e }) field.name (unset field.kind)) fields)
aside_fields e [] = tt
aside_fields e (f ∷ fields) = (refl, aside_fields e fields)

kept_root_of : (service : ℕ) (name : ConvName) (s : State) (row : DeployedService) → IsKept s (root_of row s service name)
kept_root_of service name s row =
    kept_changes (changes.CreateRoot row.root service row.priority ∷ changes.Root (record { 0 = s.next_entity }) name ∷ first_fields s row.root s.next_entity) s
    (refl, (refl, aside_fields s.next_entity (block_fields s.deployment row.root)))

pub kept_root : (service : ℕ) (name : ConvName) (s : State) → IsKept s (with_root s service name)
kept_root service name s = kept_option (λ row. root_of row s service name) s (kept_root_of service name s) (service_at s.deployment service)

kept_child_of : (parent : ℕ) (relation : List ℕ) (priority : ℤ) (s : State) (r : RelationCode) → IsKept s (with_child s parent relation r.block priority)
kept_child_of parent relation priority s r =
    kept_changes (changes.CreateChild (record { 0 = parent }) relation r.block priority ∷ first_fields s r.block s.next_entity) s
    (refl, aside_fields s.next_entity (block_fields s.deployment r.block))

pub kept_child : (parent : ℕ) (relation : List ℕ) (priority : ℤ) (s : State) (o : Option RelationCode) → IsKept s (option_map_or (λ (r : RelationCode). with_child s parent relation r.block priority) o s)
kept_child parent relation priority s o = kept_option (λ (r : RelationCode). with_child s parent relation r.block priority) s (kept_child_of parent relation priority s) o

pub occurred_leave : (xs : List Occurrence) (s : State) → Leaves s (all_occurred xs s) (lines_of_all_occurred xs s)
occurred_leave [] s = ((refl, refl), tt)
occurred_leave (x ∷ xs) s =
    leaves_then s (occurred x s) (all_occurred xs (occurred x s)) (lines_of_queued s x.activity (built_in_name built_in_events.Timer)) (lines_of_all_occurred xs (occurred x s)) (queued_leaves s x.activity (built_in_name built_in_events.Timer) ((codes "which", values.Timer (record { 0 = x.timer })) ∷ []) None) (occurred_leave xs (occurred x s))

-- an activity that goes

aside_masks : (links : List Link) → AreAside (map (λ l. changes.ForgetMasks l.entity l.activity) links)
aside_masks [] = tt
aside_masks (l ∷ links) = (refl, aside_masks links)

aside_services : (a n : ℕ) (rows : List Service) → AreAside (changes_of_services a n rows)
aside_services a n [] = tt
aside_services a n (row ∷ rows) =
    all_append (λ c. leaves_holds c ≡ true) _ (changes_of_services a (n + 1) rows)
    (cond_both (row.activity.0 == a) (changes.Service n row.state (record { 0 = 0 }) ∷ []) [] AreAside (λ _. (refl, tt)) (λ _. tt)) (aside_services a (n + 1) rows)

pub kept_dropped : (a : ℕ) (s : State) → IsKept s (dropped s a)
kept_dropped a s =
    kept_changes (changes_of_dropping s a) s
    (all_append (λ c. leaves_holds c ≡ true) (map (λ l. changes.ForgetMasks l.entity l.activity) (links_on s.links a)) _ (aside_masks (links_on s.links a)) (refl, aside_services a 0 s.services))

-- closing

roots_leave : (es : List ℕ) (s : State) → Leaves s (close_roots es s) (lines_of_roots es s)
roots_leave [] s = ((refl, refl), tt)
roots_leave (e ∷ es) s =
    leaves_then s (close_root e s) (close_roots es (close_root e s)) (lines_of_root e s) (lines_of_roots es (close_root e s))
    (leaves_if (is_loose s.entities s.links e) s (tree_removed s e) (lines_of_tree_removed s e) (tree_leaves s e)) (roots_leave es (close_root e s))

services_keep : (n : ℕ) (rows : List Service) (s : State) → IsKept s (close_services n rows s)
services_keep n [] s = (refl, refl)
services_keep n (row ∷ rows) s =
    kept_then s (close_service n row s) (close_services (n + 1) rows (close_service n row s))
    (kept_if (is_stopped s.entities n row) s (after_change (changes.Service n states.Inactive row.activity) s) s (refl, refl) (refl, refl)) (services_keep (n + 1) rows (close_service n row s))

services_plain : (n : ℕ) (rows : List Service) (s : State) → ArePlain (lines_of_services n rows s)
services_plain n [] s = tt
services_plain n (row ∷ rows) s =
    all_append IsPlain (if is_stopped s.entities n row then service_line (service_key s.deployment n) (codes "inactive") ∷ [] else []) (lines_of_services (n + 1) rows s)
    (plain_if (is_stopped s.entities n row) (service_line (service_key s.deployment n) (codes "inactive") ∷ []) (plain_service (service_key s.deployment n) (codes "inactive"), tt)) (services_plain (n + 1) rows s)

nulls_leave : (all : List ℕ) (s : State) → Leaves s (close_nulls all s) (lines_of_nulls all s)
nulls_leave [] s = ((refl, refl), tt)
nulls_leave (a ∷ rest) s =
    leaves_then s (close_null a s) (close_nulls rest (close_null a s)) (lines_of_null a s) (lines_of_nulls rest (close_null a s))
    (leaves_if (is_idle_at s a) s (ended s a) (lines_of_ended s a) (ended_leaves s a)) (nulls_leave rest (close_null a s))

nulls_plain : (all : List ℕ) (s : State) → ArePlain (lines_of_nulls all s)
nulls_plain all s = (nulls_leave all s).1

pub closing_leaves : (s : State) → Leaves s (closing s) (lines_of_closing s)
closing_leaves s =
    let t = without_loose s in
    let u = without_stopped t in
    let loose = roots_leave (roots s.entities) s in
    let nulls = nulls_leave (activity_numbers u) u in (
      kept_then s t (closing s) loose.0 (kept_then t u (closing s) (services_keep 0 t.services t) nulls.0),
      all_append IsPlain (lines_of_roots (roots s.entities) s) (lines_of_services 0 t.services t ++ lines_of_nulls (activity_numbers t) u) loose.1
          (all_append IsPlain (lines_of_services 0 t.services t) (lines_of_nulls (activity_numbers t) u) (services_plain 0 t.services t) (nulls_plain (activity_numbers t) u)),
    )
