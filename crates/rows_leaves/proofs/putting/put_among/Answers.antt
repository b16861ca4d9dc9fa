-- there are more rows just where none had the key
use Rattle.std.proofs.Common.{ap, length, arith}
use Rattle.rows_leaves.proofs.CountLemmas.{put_added}
use Rattle.rows_leaves.proofs.putting.put_among.Goals as goal

pub returns-clause-added : goal.returns-clause-added
returns-clause-added g c =
    put_added g.R.Keyed.key c.args.row c.len-before.result c.len.result c.args.rows.now.items c.requires.rises (omega (arith, c.len-before.ensures, c.args.rows.now.ok.0)) (omega (arith, c.len.ensures, c.put_row.new.rows.ok.0, ap length c.put_row.ensures.items))
