-- the roots in whose trees something is attached are those that the sorted numbers have
use Rattle.std.proofs.Common.{◌==◌, ap, sym, ◌∙◌, subst}
use Rattle.std.specs.List.{list_any}
use Rattle.std.specs.List.Sorted.{IsNonDecreasing}
use Rattle.rows_sorted.specs.Keys.{Rises}
use Rattle.snapshot_check.specs.Tops.{top_key}
use Rattle.snapshot_check.proofs.HeldLemmas.{held_is}
use Rattle.snapshot_check.proofs.closed.are_roots_held.Goals as goal

pub tops_of_links-requires : goal.tops_of_links-requires
tops_of_links-requires c = subst (Rises top_key) (sym c.as_slice-listed.ensures.value) c.in_ok-tops.ensures.order

pub are_roots_among-requires : goal.are_roots_among-requires
are_roots_among-requires c = subst IsNonDecreasing (sym c.as_slice-found.ensures.value) c.in_ok-sorted.ensures.order

pub returns : goal.returns
returns c =
    c.are_roots_among.ensures
    ∙ held_is c.args.entities.now c.args.links.now c.as_slice-listed.result.now c.as_slice-found.result.now c.requires.order c.requires.lower (c.as_slice-listed.ensures.value ∙ c.in_ok-tops.ensures.tops)
    (λ n. ap (list_any (λ x. x == n)) c.as_slice-found.ensures.value ∙ c.in_ok-sorted.ensures.same n ∙ ap (list_any (λ x. x == n)) c.in_ok-held.ensures)
