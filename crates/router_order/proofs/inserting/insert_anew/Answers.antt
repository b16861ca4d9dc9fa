-- the attachment is put among those to its activity, and so among all
use Rattle.std.proofs.Common.{◌∙◌, ap, arith, length}
use Rattle.rows_sorted.specs.Orders.{put}
use Rattle.router_state.specs.Contexts.{links_on}
use Rattle.router_order.specs.Listed.{listed_before}
use Rattle.router_order.specs.Placed.{attachments}
use Rattle.router_order.proofs.LayLemmas.{inserted}
use Rattle.router_order.proofs.ListingLemmas.{put_listing}
use Rattle.router_order.proofs.MoveLemmas.{own_on, own_put, run_listed}
use Rattle.router_order.proofs.RunLemmas.{placed_by_activity, run_is, run_length, run_short}
use Rattle.router_order.proofs.inserting.insert_anew.Goals as goal

pub copy_run-requires-clause-room : goal.copy_run-requires-clause-room
copy_run-requires-clause-room c =
    let same = run_length c.args.rows.now.rows c.args.link.activity.0 in
    let short = run_short c.args.rows.now.rows c.args.link.activity.0 in
    rw c.rows_of.ensures (omega (arith, same, short, c.requires.memory))

pub put_link-requires-clause-listing : goal.put_link-requires-clause-listing
put_link-requires-clause-listing c =
    let copied = rw (c.rows_of.ensures, ← run_is c.args.rows.now.rows c.args.link.activity.0) at c.copy_run.ensures.items in
    rw copied (run_listed c.args.tree.now.rows (attachments c.args.rows.now.rows) c.args.link.activity.0 c.requires.listing)

pub put_link-requires-clause-room : goal.put_link-requires-clause-room
put_link-requires-clause-room c =
    let copied = rw (c.rows_of.ensures, ← run_is c.args.rows.now.rows c.args.link.activity.0) at c.copy_run.ensures.items in
    let short = run_short c.args.rows.now.rows c.args.link.activity.0 in
    let long = ap length copied in
    omega (arith, short, long, c.requires.memory, c.copy_run.ensures.capacity)

pub replace-requires-clause-own : goal.replace-requires-clause-own
replace-requires-clause-own c =
    let es = c.args.tree.now.rows in
    let copied = rw (c.rows_of.ensures, ← run_is c.args.rows.now.rows c.args.link.activity.0) at c.copy_run.ensures.items in
    let items = c.put_link.ensures.items ∙ ap (put (listed_before es) c.args.link) copied in
    rw (c.deref.ensures.value, items) (own_put es c.args.link (links_on (attachments c.args.rows.now.rows) c.args.link.activity.0) (own_on c.args.link.activity.0 (attachments c.args.rows.now.rows)))

pub returns-clause-rows : goal.returns-clause-rows
returns-clause-rows c =
    let es = c.args.tree.now.rows in
    let rows = attachments c.args.rows.now.rows in
    let copied = rw (c.rows_of.ensures, ← run_is c.args.rows.now.rows c.args.link.activity.0) at c.copy_run.ensures.items in
    let items = c.put_link.ensures.items ∙ ap (put (listed_before es) c.args.link) copied in
    inserted es c.args.link rows (attachments c.replace.new.rows.rows) c.requires.listing (placed_by_activity c.replace.new.rows.rows c.rises.ensures) (put_listing es c.args.link rows c.requires.there c.requires.listing)
    (c.replace.ensures.run ∙ c.deref.ensures.value ∙ items) c.replace.ensures.others

pub replace-requires-clause-room : goal.replace-requires-clause-room
replace-requires-clause-room c =
    let copied = rw (c.rows_of.ensures, ← run_is c.args.rows.now.rows c.args.link.activity.0) at c.copy_run.ensures.items in
    let long = ap length copied in
    omega (arith, long, c.put_link.ensures.length, c.deref.ensures.len, c.requires.room)

pub returns-clause-room : goal.returns-clause-room
returns-clause-room c =
    let copied = rw (c.rows_of.ensures, ← run_is c.args.rows.now.rows c.args.link.activity.0) at c.copy_run.ensures.items in
    let long = ap length copied in
    omega (arith, long, c.put_link.ensures.length, c.deref.ensures.len, c.replace.ensures.room)
