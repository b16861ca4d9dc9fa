-- the entry goes, and comes under the other key
use Rattle.std.proofs.Common.{List, ap, ◌∙◌}
use Rattle.rows_sorted.specs.Orders.{put}
use Rattle.rows_index.specs.declared.entry.Entry.{Entry}
use Rattle.rows_index.specs.Index.{entry_before}
use Rattle.rows_index.proofs.moving.move_entry.Goals as goal

pub returns-clause-rows : goal.returns-clause-rows
returns-clause-rows c = c.put_row.ensures.rows ∙ ap (λ (left : List Entry). put entry_before (record { key = c.args.key; number = c.args.entry.number }) left) c.cut_row.ensures.rows
