-- the mask is put in its place, or the one of its key goes
use Rattle.std.proofs.Common.{◌∙◌}
use Rattle.event_mask.proofs.MaskLemmas.{mask_cut}
use Rattle.event_mask.proofs.masks.Masks.set.Goals as goal

pub returns-then-on-clause-rows : goal.returns-then-on-clause-rows
returns-then-on-clause-rows c = rw (c.if-on.true, ← c.self.view_is) c.put_row.ensures.rows

pub returns-else-on-clause-rows : goal.returns-else-on-clause-rows
returns-else-on-clause-rows c =
    let cut = rw c.as_bytes.ensures.bytes at c.cut_row.ensures.rows in
    rw (c.if-on.false, ← c.self.view_is) (cut ∙ mask_cut c.args.entity.0 c.args.activity.0 c.args.event c.self.inside.rows.rows)
