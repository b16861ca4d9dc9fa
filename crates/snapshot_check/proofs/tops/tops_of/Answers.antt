-- one entity more, up to the last one
use Rattle.std.proofs.Common.{◌+◌, List, ap, ◌∙◌}
use Rattle.snapshot_check.specs.Tops.{next_row}
use Rattle.snapshot_check.specs.declared.tops.Top.{Top}
use Rattle.snapshot_check.proofs.TopLemmas.{tops_on, tops_rise_on}
use Rattle.snapshot_check.proofs.tops.tops_of.Goals as goal

pub rows-preserved : goal.rows-preserved
rows-preserved c =
    let more = tops_on c.args.entities.now c.rows.tops.items c.push.new.self.items c.next_row-next.result c.rows.row-index c.row-item.result c.requires.order c.requires.lower c.rows-test.true c.row-item.is c.rows.invariant.tops (c.next_row-next.ensures ∙ ap (λ (ts : List Top). next_row ts c.row-item.result) c.deref.ensures.value) c.in_ok-push.ensures.items in
    record { tops = more; rises = tops_rise_on c.args.entities.now c.push.new.self.items (c.rows.row-index + 1) c.requires.order more }
