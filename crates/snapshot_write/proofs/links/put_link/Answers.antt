-- the activity, the entity, and then the masks
use Rattle.std.proofs.Common.{ap, ◌∙◌}
use Rattle.std.specs.Prelude.{filter}
use Rattle.std.proofs.lemmas.Result.{on_ok_weaker}
use Rattle.router_state.specs.Masks.{is_mask_of}
use Rattle.snapshot_write.proofs.WholeLemmas.{link_put}
use Rattle.snapshot_write.proofs.links.put_link.Goals as goal

pub returns : goal.returns
returns c =
    on_ok_weaker c.put_masks.result
    (λ last. link_put c.args.stores.now.state c.args.entity c.args.activity c.of.result c.args.into.now.items _ _ _ (c.of.ensures ∙ ap (filter (is_mask_of c.args.entity.0 c.args.activity.0)) c.masks.ensures)
    c.in_ok-write_u64.ensures.ok c.in_ok-write_u64-2.ensures.ok last)
    c.put_masks.ensures
