-- Lines one after another.
use Rattle.std.proofs.Common.{◌≡◌, ◌==◌, ℕ, Bool, List, [], ◌∷◌, ◌++◌, refl, sym, ap, ◌∙◌}
use Rattle.std.specs.Prelude.{filter, flat_map, if◌then◌else◌, is_some, map, codes, decimal, slice_get}
use Rattle.std.proofs.lemmas.List.{append_assoc}
use Rattle.router_state.specs.Show.{activity_line, by_number, entity_line, entity_lines, field_line, link_line, mask_words, name_line, pending_line, row_line, service_lines, show_text, spaced, timer_line}
use Rattle.deploy_model.specs.Deployed.{Deployed}
use Rattle.router_state.specs.Fields.{fields_of}
use Rattle.router_state.specs.State.{State}
use Rattle.slee_value.specs.declared.value.Value.{Value}
use Rattle.slee_value.specs.declared.ids.ActivityId.{ActivityId}
use Rattle.router_state.specs.declared.rows.Activity.{Activity}
use Rattle.router_state.specs.declared.rows.ProfileRow.{ProfileRow}
use Rattle.router_state.specs.declared.rows.Service.{Service}
use Rattle.router_state.specs.declared.rows.Timer.{Timer}
use Rattle.router_state.specs.declared.rows.Entity.{Entity}
use Rattle.router_state.specs.declared.rows.Field.{Field}
use Rattle.router_state.specs.declared.rows.Mask.{Mask}
use Rattle.router_state.specs.declared.rows.Named.{Named}
use Rattle.activity_context.specs.Views.{parts_of_name}
use Rattle.router_show.specs.Names.{name_parts_line}
use Rattle.trace_history.specs.Lines.{line_text, line_texts}

pub joined : (xs ys : List (List ℕ)) → line_texts (xs ++ ys) ≡ line_texts xs ++ line_texts ys
joined [] ys = refl
joined (x ∷ xs) ys = ap (λ more. line_text x ++ more) (joined xs ys) ∙ sym (append_assoc (line_text x) (line_texts xs) (line_texts ys))

-- the lines of the parts of a state, one after another
all_lines : (s : State) → show_text s ≡ line_texts ((codes "clock " ++ decimal s.clock) ∷ (codes "inputs " ++ decimal s.inputs) ∷ [])
    ++ (line_texts (service_lines s.deployment 0 s.services)
    ++ (line_texts (map (activity_line s.deployment) s.activities)
    ++ (line_texts (flat_map (entity_lines s) s.entities)
    ++ (line_texts (map (link_line s) s.links)
    ++ (line_texts (map (pending_line s) (by_number s.events))
    ++ (line_texts (map name_line s.names)
    ++ (line_texts (map timer_line s.timers)
    ++ line_texts (map (row_line s.deployment) s.rows))))))))
all_lines s =
    joined ((codes "clock " ++ decimal s.clock) ∷ (codes "inputs " ++ decimal s.inputs) ∷ []) _
    ∙ ap (λ more. line_texts ((codes "clock " ++ decimal s.clock) ∷ (codes "inputs " ++ decimal s.inputs) ∷ []) ++ more) (joined (service_lines s.deployment 0 s.services) _
    ∙ ap (λ more. line_texts (service_lines s.deployment 0 s.services) ++ more) (joined (map (activity_line s.deployment) s.activities) _
    ∙ ap (λ more. line_texts (map (activity_line s.deployment) s.activities) ++ more) (joined (flat_map (entity_lines s) s.entities) _
    ∙ ap (λ more. line_texts (flat_map (entity_lines s) s.entities) ++ more) (joined (map (link_line s) s.links) _
    ∙ ap (λ more. line_texts (map (link_line s) s.links) ++ more) (joined (map (pending_line s) (by_number s.events)) _
    ∙ ap (λ more. line_texts (map (pending_line s) (by_number s.events)) ++ more) (joined (map name_line s.names) _
    ∙ ap (λ more. line_texts (map name_line s.names) ++ more) (joined (map timer_line s.timers) _)))))))

-- the lines of names in parts are those of the names
pub names_lined : (names : List Named) → map name_parts_line (map parts_of_name names) ≡ map name_line names
names_lined [] = refl
names_lined (row ∷ names) = ap (λ more. name_line row ∷ more) (names_lined names)

nine_parts : (start a b c d e f g h i : List ℕ) → ((((((((start ++ a) ++ b) ++ c) ++ d) ++ e) ++ f) ++ g) ++ h) ++ i ≡ start ++ (a ++ (b ++ (c ++ (d ++ (e ++ (f ++ (g ++ (h ++ i))))))))
nine_parts start a b c d e f g h i =
    append_assoc (((((((start ++ a) ++ b) ++ c) ++ d) ++ e) ++ f) ++ g) h i
    ∙ append_assoc ((((((start ++ a) ++ b) ++ c) ++ d) ++ e) ++ f) g (h ++ i)
    ∙ append_assoc (((((start ++ a) ++ b) ++ c) ++ d) ++ e) f (g ++ (h ++ i))
    ∙ append_assoc ((((start ++ a) ++ b) ++ c) ++ d) e (f ++ (g ++ (h ++ i)))
    ∙ append_assoc (((start ++ a) ++ b) ++ c) d (e ++ (f ++ (g ++ (h ++ i))))
    ∙ append_assoc ((start ++ a) ++ b) c (d ++ (e ++ (f ++ (g ++ (h ++ i)))))
    ∙ append_assoc (start ++ a) b (c ++ (d ++ (e ++ (f ++ (g ++ (h ++ i))))))
    ∙ append_assoc start a (b ++ (c ++ (d ++ (e ++ (f ++ (g ++ (h ++ i)))))))

-- what is put behind one another is the whole text
pub shown : (s : State) (start a b c d e f g h i : List ℕ)
    → a ≡ start ++ line_texts ((codes "clock " ++ decimal s.clock) ∷ (codes "inputs " ++ decimal s.inputs) ∷ [])
    → b ≡ a ++ line_texts (service_lines s.deployment 0 s.services)
    → c ≡ b ++ line_texts (map (activity_line s.deployment) s.activities)
    → d ≡ c ++ line_texts (flat_map (entity_lines s) s.entities)
    → e ≡ d ++ line_texts (map (link_line s) s.links)
    → f ≡ e ++ line_texts (map (pending_line s) (by_number s.events))
    → g ≡ f ++ line_texts (map name_parts_line (map parts_of_name s.names))
    → h ≡ g ++ line_texts (map timer_line s.timers)
    → i ≡ h ++ line_texts (map (row_line s.deployment) s.rows)
    → i ≡ start ++ show_text s
shown s start a b c d e f g h i one two three four five six seven eight nine =
    nine ∙ ap (λ x. x ++ rows) (eight ∙ ap (λ x. x ++ timers) (seven ∙ ap (λ lines. f ++ line_texts lines) (names_lined s.names)
    ∙ ap (λ x. x ++ names) (six ∙ ap (λ x. x ++ events) (five ∙ ap (λ x. x ++ links) (four ∙ ap (λ x. x ++ entities) (three ∙ ap (λ x. x ++ activities) (two ∙ ap (λ x. x ++ services) one)))))))
    ∙ nine_parts start counts services activities entities links events names timers rows ∙ sym (ap (λ text. start ++ text) (all_lines s))
  where
    counts : List ℕ
    counts = line_texts ((codes "clock " ++ decimal s.clock) ∷ (codes "inputs " ++ decimal s.inputs) ∷ [])

    services : List ℕ
    services = line_texts (service_lines s.deployment 0 s.services)

    activities : List ℕ
    activities = line_texts (map (activity_line s.deployment) s.activities)

    entities : List ℕ
    entities = line_texts (flat_map (entity_lines s) s.entities)

    links : List ℕ
    links = line_texts (map (link_line s) s.links)

    events : List ℕ
    events = line_texts (map (pending_line s) (by_number s.events))

    names : List ℕ
    names = line_texts (map name_line s.names)

    timers : List ℕ
    timers = line_texts (map timer_line s.timers)

    rows : List ℕ
    rows = line_texts (map (row_line s.deployment) s.rows)

-- the same where each part is given as it is read
pub shown_of : (s : State) (x : Deployed) (services : List Service) (activities : List Activity) (names : List (List ℕ × ActivityId)) (timers : List Timer) (rows : List ProfileRow) (start a b c d e f g h i : List ℕ)
    → x ≡ s.deployment → services ≡ s.services → activities ≡ s.activities → names ≡ map parts_of_name s.names → timers ≡ s.timers → rows ≡ s.rows
    → a ≡ start ++ line_texts ((codes "clock " ++ decimal s.clock) ∷ (codes "inputs " ++ decimal s.inputs) ∷ [])
    → b ≡ a ++ line_texts (service_lines x 0 services)
    → c ≡ b ++ line_texts (map (activity_line x) activities)
    → d ≡ c ++ line_texts (flat_map (entity_lines s) s.entities)
    → e ≡ d ++ line_texts (map (link_line s) s.links)
    → f ≡ e ++ line_texts (map (pending_line s) (by_number s.events))
    → g ≡ f ++ line_texts (map name_parts_line names)
    → h ≡ g ++ line_texts (map timer_line timers)
    → i ≡ h ++ line_texts (map (row_line x) rows)
    → i ≡ start ++ show_text s
shown_of s x services activities names timers rows start a b c d e f g h i same own_services own_activities own_names own_timers own_rows one two three four five six seven eight nine =
    shown s start a b c d e f g h i one
    (two ∙ ap (λ (more : List Service). a ++ line_texts (service_lines x 0 more)) own_services ∙ ap (λ (y : Deployed). a ++ line_texts (service_lines y 0 s.services)) same)
    (three ∙ ap (λ (more : List Activity). b ++ line_texts (map (activity_line x) more)) own_activities ∙ ap (λ (y : Deployed). b ++ line_texts (map (activity_line y) s.activities)) same)
    four five six
    (seven ∙ ap (λ (more : List (List ℕ × ActivityId)). f ++ line_texts (map name_parts_line more)) own_names)
    (eight ∙ ap (λ (more : List Timer). g ++ line_texts (map timer_line more)) own_timers)
    (nine ∙ ap (λ (more : List ProfileRow). h ++ line_texts (map (row_line x) more)) own_rows ∙ ap (λ (y : Deployed). h ++ line_texts (map (row_line y) s.rows)) same)

-- a word where there are masks, and then their events
masks_spelled : (masks : List Mask) → (if is_some (slice_get masks 0) then codes " masked" else []) ++ spaced (map (λ m. m.event) masks) ≡ mask_words (map (λ m. m.event) masks)
masks_spelled [] = refl
masks_spelled (mask ∷ masks) = refl

pub masks_put : (masks : List Mask) (is : Bool) (start a b : List ℕ) → is ≡ is_some (slice_get masks 0) → a ≡ start ++ (if is then codes " masked" else []) → b ≡ a ++ spaced (map (λ m. m.event) masks) → b ≡ start ++ mask_words (map (λ m. m.event) masks)
masks_put masks is start a b any one two =
    two ∙ ap (λ x. x ++ spaced (map (λ m. m.event) masks)) (one ∙ ap (λ there. start ++ (if there then codes " masked" else [])) any)
    ∙ append_assoc start (if is_some (slice_get masks 0) then codes " masked" else []) (spaced (map (λ m. m.event) masks))
    ∙ ap (λ words. start ++ words) (masks_spelled masks)

-- the lines of fields are those of the pairs that they are seen as
fields_lined : (rows : List Field) → map (λ row. field_line (row.name, row.value)) rows ≡ map field_line (map {B = List ℕ × Value} (λ row. (row.name, row.value)) rows)
fields_lined [] = refl
fields_lined (row ∷ rows) = ap (λ more. field_line (row.name, row.value) ∷ more) (fields_lined rows)

-- the line of an entity, and then those of its fields
pub whole_put : (s : State) (d : Deployed) (row : Entity) (fields : List Field) (start a b : List ℕ) → d ≡ s.deployment → fields ≡ filter (λ f. f.entity.0 == row.number.0) s.fields
    → a ≡ start ++ line_text (entity_line d row) → b ≡ a ++ line_texts (map (λ f. field_line (f.name, f.value)) fields) → b ≡ start ++ line_texts (entity_lines s row)
whole_put s d row fields start a b is own one two =
    two ∙ ap (λ x. x ++ line_texts (map (λ (f : Field). field_line (f.name, f.value)) fields)) one
    ∙ append_assoc start (line_text (entity_line d row)) (line_texts (map (λ (f : Field). field_line (f.name, f.value)) fields))
    ∙ ap (λ lines. start ++ (line_text (entity_line d row) ++ line_texts lines)) (fields_lined fields ∙ ap (λ (fs : List Field). map field_line (map {B = List ℕ × Value} (λ f. (f.name, f.value)) fs)) own)
    ∙ ap (λ (x : Deployed). start ++ (line_text (entity_line x row) ++ line_texts (map field_line (fields_of s.fields row.number.0)))) is
