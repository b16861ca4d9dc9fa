-- each test fails or passes in its turn
use Rattle.std.proofs.Common.{◌≡◌, Bool, true, false, List, sym, ap, ◌∙◌, subst}
use Rattle.std.specs.Prelude.{◌&&◌}
use Rattle.std.specs.List.{list_all}
use Rattle.deploy_model.specs.Resolving.{deployed_of}
use Rattle.rows_sorted.specs.Keys.{Rises}
use Rattle.router_state.specs.Keys.{entity_key, profile_row_key}
use Rattle.router_state.specs.Profiles.{are_unique}
use Rattle.router_state.specs.WellContexts.{differ_in_kind}
use Rattle.router_state.specs.WellEntities.{all_differ, differ_in_name, is_named, is_root_name}
use Rattle.router_state.specs.WellQueues.{differ_in_number}
use Rattle.router_state.specs.declared.rows.Activity.{Activity}
use Rattle.router_state.specs.declared.rows.Entity.{Entity}
use Rattle.router_state.specs.declared.rows.Queued.{Queued}
use Rattle.router_state.specs.declared.rows.RootName.{RootName}
use Rattle.snapshot_rows.specs.declared.rows.Rows.{Rows}
use Rattle.snapshot_check.proofs.WellLemmas.{entities_named, names_there}
use Rattle.snapshot_check.proofs.well.are_different.Goals as goal

-- what is told of lists holds of those of the rows
roots_so : (r : Rows) (entities : List Entity) (names : List RootName) (b : Bool) → entities ≡ r.entities.items → names ≡ r.root_names.items → b ≡ all_differ (differ_in_name entities) names → b ≡ all_differ (differ_in_name r.entities.items) r.root_names.items
roots_so r entities names b e n is = is ∙ (λ i. all_differ (differ_in_name (e i)) (n i))

kinds_so : (r : Rows) (activities : List Activity) (b : Bool) → activities ≡ r.activities.items → b ≡ all_differ (λ (x y : Activity). differ_in_kind x.kind y.kind) activities → b ≡ all_differ (λ (x y : Activity). differ_in_kind x.kind y.kind) r.activities.items
kinds_so r activities b e is = is ∙ (λ i. all_differ (λ (x y : Activity). differ_in_kind x.kind y.kind) (e i))

numbers_so : (r : Rows) (events : List Queued) (b : Bool) → events ≡ r.events.items → b ≡ all_differ differ_in_number events → b ≡ all_differ differ_in_number r.events.items
numbers_so r events b e is = is ∙ ap (all_differ differ_in_number) e

-- the first of four tests that fails
first_of : (a b c d : Bool) → a ≡ false → false ≡ (a && (b && (c && d)))
first_of a b c d is = λ i. sym is i && (b && (c && d))

second_of : (a b c d : Bool) → a ≡ true → b ≡ false → false ≡ (a && (b && (c && d)))
second_of a b c d one is = λ i. sym one i && (sym is i && (c && d))

third_of : (a b c d : Bool) → a ≡ true → b ≡ true → c ≡ false → false ≡ (a && (b && (c && d)))
third_of a b c d one two is = λ i. sym one i && (sym two i && (sym is i && d))

last_of : (a b c d e : Bool) → a ≡ true → b ≡ true → c ≡ true → e ≡ d → e ≡ (a && (b && (c && d)))
last_of a b c d e one two three is = is ∙ (λ i. sym one i && (sym two i && (sym three i && d)))

pub have_own_roots-requires-clause-order : goal.have_own_roots-requires-clause-order
have_own_roots-requires-clause-order c = subst (Rises entity_key) (sym c.as_slice-entities.ensures.value) c.requires.order.entities

pub have_own_roots-requires-clause-there : goal.have_own_roots-requires-clause-there
have_own_roots-requires-clause-there c =
    (λ i. list_all (is_root_name (deployed_of c.args.deployment.now.parts) (c.as_slice-entities.ensures.value i) c.args.rows.now.next_activity c.args.rows.now.next_event) (c.as_slice-root_names.ensures.value i))
    ∙ names_there (deployed_of c.args.deployment.now.parts) c.args.rows.now c.requires.fits

pub have_own_roots-requires-clause-named : goal.have_own_roots-requires-clause-named
have_own_roots-requires-clause-named c =
    (λ i. list_all (is_named (c.as_slice-root_names.ensures.value i)) (c.as_slice-entities.ensures.value i))
    ∙ entities_named (deployed_of c.args.deployment.now.parts) c.args.rows.now c.requires.fits

pub are_unique-requires : goal.are_unique-requires
are_unique-requires c = subst (Rises profile_row_key) (sym c.as_slice-profiles.ensures.value) c.requires.order.rows

pub returns-then-not-roots : goal.returns-then-not-roots
returns-then-not-roots c =
    first_of (all_differ (differ_in_name c.args.rows.now.entities.items) c.args.rows.now.root_names.items) (all_differ (λ (x y : Activity). differ_in_kind x.kind y.kind) c.args.rows.now.activities.items) (all_differ differ_in_number c.args.rows.now.events.items) (all_differ (are_unique (deployed_of c.args.deployment.now.parts)) c.args.rows.now.rows.items)
    (sym (roots_so c.args.rows.now _ _ _ c.as_slice-entities.ensures.value c.as_slice-root_names.ensures.value c.in_ok-roots.ensures) ∙ c.if-not-roots.true)

pub returns-then-not-names : goal.returns-then-not-names
returns-then-not-names c =
    second_of (all_differ (differ_in_name c.args.rows.now.entities.items) c.args.rows.now.root_names.items) (all_differ (λ (x y : Activity). differ_in_kind x.kind y.kind) c.args.rows.now.activities.items) (all_differ differ_in_number c.args.rows.now.events.items) (all_differ (are_unique (deployed_of c.args.deployment.now.parts)) c.args.rows.now.rows.items)
    (sym (roots_so c.args.rows.now _ _ _ c.as_slice-entities.ensures.value c.as_slice-root_names.ensures.value c.in_ok-roots.ensures) ∙ c.if-not-roots.false)
    (sym (kinds_so c.args.rows.now _ _ c.as_slice-activities.ensures.value c.in_ok-names.ensures) ∙ c.if-not-names.true)

pub returns-then-not-numbers : goal.returns-then-not-numbers
returns-then-not-numbers c =
    third_of (all_differ (differ_in_name c.args.rows.now.entities.items) c.args.rows.now.root_names.items) (all_differ (λ (x y : Activity). differ_in_kind x.kind y.kind) c.args.rows.now.activities.items) (all_differ differ_in_number c.args.rows.now.events.items) (all_differ (are_unique (deployed_of c.args.deployment.now.parts)) c.args.rows.now.rows.items)
    (sym (roots_so c.args.rows.now _ _ _ c.as_slice-entities.ensures.value c.as_slice-root_names.ensures.value c.in_ok-roots.ensures) ∙ c.if-not-roots.false)
    (sym (kinds_so c.args.rows.now _ _ c.as_slice-activities.ensures.value c.in_ok-names.ensures) ∙ c.if-not-names.false)
    (sym (numbers_so c.args.rows.now _ _ c.as_slice-events.ensures.value c.in_ok-numbers.ensures) ∙ c.if-not-numbers.true)

pub returns : goal.returns
returns c =
    last_of (all_differ (differ_in_name c.args.rows.now.entities.items) c.args.rows.now.root_names.items) (all_differ (λ (x y : Activity). differ_in_kind x.kind y.kind) c.args.rows.now.activities.items) (all_differ differ_in_number c.args.rows.now.events.items) (all_differ (are_unique (deployed_of c.args.deployment.now.parts)) c.args.rows.now.rows.items) c.in_ok-unique.unique
    (sym (roots_so c.args.rows.now _ _ _ c.as_slice-entities.ensures.value c.as_slice-root_names.ensures.value c.in_ok-roots.ensures) ∙ c.if-not-roots.false)
    (sym (kinds_so c.args.rows.now _ _ c.as_slice-activities.ensures.value c.in_ok-names.ensures) ∙ c.if-not-names.false)
    (sym (numbers_so c.args.rows.now _ _ c.as_slice-events.ensures.value c.in_ok-numbers.ensures) ∙ c.if-not-numbers.false)
    (c.in_ok-unique.ensures ∙ ap (all_differ (are_unique (deployed_of c.args.deployment.now.parts))) c.as_slice-profiles.ensures.value)
