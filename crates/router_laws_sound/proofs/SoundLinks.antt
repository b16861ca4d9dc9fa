-- Attachments and masks stay sound where an entity is attached.
use Rattle.std.proofs.Common.{◌≡◌, ℕ, true, not, List, [], ◌∷◌, filter, ◌⊎◌, arith}
use Rattle.std.specs.Prelude.{is_some}
use Rattle.std.specs.List.{list_all}
use Rattle.std.proofs.lemmas.Bool.{and_parts, and_from, or_left}
use Rattle.std.proofs.lemmas.Bool.Decides.{nat_tests}
use Rattle.deploy_model.specs.Deployed.{Deployed, is_event}
use Rattle.router_laws.proofs.OrderLemmas.{pair_joins, triple_joins}
use Rattle.router_laws.proofs.RisingLemmas.{Joins, put_rises, filter_rises}
use Rattle.router_laws.proofs.Tests.{tests_put, tests_weaker, tests_filter, any_put, any_right}
use Rattle.router_state.specs.Contexts.{activity_at, link_before, is_link, is_linked, with_link}
use Rattle.router_state.specs.Masks.{mask_before, is_mask_of, with_mask, with_masks, without_masks}
use Rattle.rows_sorted.specs.Orders.{pair_before, same_pair, rises_by}
use Rattle.router_state.specs.Trees.{entity_at}
use Rattle.router_state.specs.WellContexts.{is_link_row, are_links, is_mask_row, are_masks}
use Rattle.router_state.specs.declared.rows.Activity.{Activity}
use Rattle.router_state.specs.declared.rows.Entity.{Entity}
use Rattle.router_state.specs.declared.rows.Link.{Link}
use Rattle.router_state.specs.declared.rows.Mask.{Mask}

pub link_joins : Joins link_before
link_joins x y z one two = pair_joins x.activity.0 x.entity.0 y.activity.0 y.entity.0 z.activity.0 z.entity.0 one two

pub mask_joins : Joins mask_before
mask_joins x y z one two = triple_joins x.activity.0 x.entity.0 x.event y.activity.0 y.entity.0 y.event z.activity.0 z.entity.0 z.event one two

abbrev link_row : ℕ → ℕ → Link
link_row e a = record { entity = record { 0 = e }; activity = record { 0 = a } }

pub links_attached : (entities : List Entity) (activities : List Activity) (links : List Link) (e a : ℕ) → are_links entities activities links ≡ true
    → is_some (entity_at entities e) ≡ true → is_some (activity_at activities a) ≡ true → are_links entities activities (with_link links e a) ≡ true
links_attached entities activities links e a sound entity activity =
    let parts = and_parts (rises_by link_before links) (list_all (is_link_row entities activities) links) sound in
    and_from _ _ (put_rises link_before link_joins (link_row e a) links parts.0) (tests_put link_before (is_link_row entities activities) (link_row e a) links (and_from _ _ entity activity) parts.1)

pub linked_more : (links : List Link) (e a f b : ℕ) → is_linked links f b ≡ true → is_linked (with_link links e a) f b ≡ true
linked_more links e a f b is = any_put link_before (is_link f b) (link_row e a) (λ l same. place l.entity.0 l.activity.0 e a f b same) links is
  where
    place : (x y e a f b : ℕ) → same_pair x y f b ≡ true → (pair_before y x a e ≡ true) ⊎ ((pair_before a e y x ≡ true) ⊎ (same_pair e a f b ≡ true))
    place x y e a f b same = grind (arith, nat_tests)

pub linked_now : (links : List Link) (e a : ℕ) → is_linked (with_link links e a) e a ≡ true
linked_now links e a = any_right (is_link e a) (filter (λ l. link_before l (link_row e a)) links) _ (or_left _ _ (itself e a))
  where
    itself : (e a : ℕ) → same_pair e a e a ≡ true
    itself e a = grind (arith, nat_tests)

masks_set : (d : Deployed) (links : List Link) (masks : List Mask) (e a : ℕ) (events : List (List ℕ)) → is_linked links e a ≡ true → list_all (is_event d) events ≡ true → are_masks d links masks ≡ true → are_masks d links (with_masks masks e a events) ≡ true
masks_set d links masks e a [] linked known sound = sound
masks_set d links masks e a (event ∷ events) linked known sound =
    let row : Mask = record { entity = record { 0 = e }; activity = record { 0 = a }; event = event } in
    let parts = and_parts (rises_by mask_before masks) (list_all (is_mask_row d links) masks) sound in
    let names = and_parts (is_event d event) _ known in
    masks_set d links (with_mask masks e a event) e a events linked names.1
    (and_from _ _ (put_rises mask_before mask_joins row masks parts.0) (tests_put mask_before (is_mask_row d links) row masks (and_from _ _ linked names.0) parts.1))

-- an entity is attached, with the masks of its block, whose events are all known
pub masks_attached : (d : Deployed) (links : List Link) (masks : List Mask) (e a : ℕ) (events : List (List ℕ)) → list_all (is_event d) events ≡ true → are_masks d links masks ≡ true
    → are_masks d (with_link links e a) (with_masks (without_masks masks e a) e a events) ≡ true
masks_attached d links masks e a events known sound =
    let parts = and_parts (rises_by mask_before masks) (list_all (is_mask_row d links) masks) sound in
    masks_set d (with_link links e a) (without_masks masks e a) e a events (linked_now links e a) known
    (and_from _ _ (filter_rises mask_before mask_joins (λ m. not (is_mask_of e a m)) masks parts.0)
    (tests_weaker (is_mask_row d links) (is_mask_row d (with_link links e a))
    (λ m is. let both = and_parts (is_linked links m.entity.0 m.activity.0) (is_event d m.event) is in and_from _ _ (linked_more links e a m.entity.0 m.activity.0 both.0) both.1)
    (without_masks masks e a) (tests_filter (is_mask_row d links) (λ m. not (is_mask_of e a m)) masks parts.1)))
