-- each test fails or passes in its turn
use Rattle.std.proofs.Common.{◌≡◌, Bool, true, false, sym, ap, ◌∙◌, subst}
use Rattle.std.specs.Prelude.{◌&&◌}
use Rattle.std.specs.List.{list_all}
use Rattle.rows_sorted.specs.Keys.{Rises}
use Rattle.router_state.specs.Closed.{are_nulls_in_use, are_roots_held, are_stopping_with_trees}
use Rattle.router_state.specs.Keys.{entity_key, link_key, queued_key}
use Rattle.snapshot_check.specs.Tops.{is_lower}
use Rattle.snapshot_check.proofs.well.are_closed.Goals as goal

-- the first of three tests that fails
first_of : (a b c : Bool) → a ≡ false → false ≡ (a && (b && c))
first_of a b c is = λ i. sym is i && (b && c)

second_of : (a b c : Bool) → a ≡ true → b ≡ false → false ≡ (a && (b && c))
second_of a b c one is = λ i. sym one i && (sym is i && c)

last_of : (a b c d : Bool) → a ≡ true → b ≡ true → d ≡ c → d ≡ (a && (b && c))
last_of a b c d one two is = is ∙ (λ i. sym one i && (sym two i && c))

pub are_roots_held-requires-clause-order : goal.are_roots_held-requires-clause-order
are_roots_held-requires-clause-order c = subst (Rises entity_key) (sym c.as_slice-entities.ensures.value) c.requires.order.entities

pub are_roots_held-requires-clause-lower : goal.are_roots_held-requires-clause-lower
are_roots_held-requires-clause-lower c = ap (list_all is_lower) c.as_slice-entities.ensures.value ∙ c.requires.lower

pub are_nulls_in_use-requires-clause-links : goal.are_nulls_in_use-requires-clause-links
are_nulls_in_use-requires-clause-links c = subst (Rises link_key) (sym c.as_slice-links.ensures.value) c.requires.order.links

pub are_nulls_in_use-requires-clause-events : goal.are_nulls_in_use-requires-clause-events
are_nulls_in_use-requires-clause-events c = subst (Rises queued_key) (sym c.as_slice-events.ensures.value) c.requires.order.events

pub returns-then-not-held : goal.returns-then-not-held
returns-then-not-held c =
    let r = c.args.rows.now in
    first_of (are_roots_held r.entities.items r.links.items) (are_stopping_with_trees r.entities.items 0 r.services.items) (are_nulls_in_use r.activities.items r.links.items r.names.items r.timers.items r.events.items)
    (sym (c.in_ok-held.ensures ∙ (λ i. are_roots_held (c.as_slice-entities.ensures.value i) (c.as_slice-links.ensures.value i))) ∙ c.if-not-held.true)

pub returns-then-not-trees : goal.returns-then-not-trees
returns-then-not-trees c =
    let r = c.args.rows.now in
    second_of (are_roots_held r.entities.items r.links.items) (are_stopping_with_trees r.entities.items 0 r.services.items) (are_nulls_in_use r.activities.items r.links.items r.names.items r.timers.items r.events.items)
    (sym (c.in_ok-held.ensures ∙ (λ i. are_roots_held (c.as_slice-entities.ensures.value i) (c.as_slice-links.ensures.value i))) ∙ c.if-not-held.false)
    (sym (c.in_ok-trees.ensures ∙ (λ i. are_stopping_with_trees (c.as_slice-entities.ensures.value i) 0 (c.as_slice-services.ensures.value i))) ∙ c.if-not-trees.true)

pub returns : goal.returns
returns c =
    let r = c.args.rows.now in
    last_of (are_roots_held r.entities.items r.links.items) (are_stopping_with_trees r.entities.items 0 r.services.items) (are_nulls_in_use r.activities.items r.links.items r.names.items r.timers.items r.events.items) c.in_ok-used.used
    (sym (c.in_ok-held.ensures ∙ (λ i. are_roots_held (c.as_slice-entities.ensures.value i) (c.as_slice-links.ensures.value i))) ∙ c.if-not-held.false)
    (sym (c.in_ok-trees.ensures ∙ (λ i. are_stopping_with_trees (c.as_slice-entities.ensures.value i) 0 (c.as_slice-services.ensures.value i))) ∙ c.if-not-trees.false)
    (c.in_ok-used.ensures ∙ (λ i. are_nulls_in_use (c.as_slice-activities.ensures.value i) (c.as_slice-links.ensures.value i) (c.as_slice-names.ensures.value i) (c.as_slice-timers.ensures.value i) (c.as_slice-events.ensures.value i)))
