-- the attachment goes from the one list and comes to the other
use Rattle.std.proofs.Common.{◌∙◌, sym}
use Rattle.router_order.specs.Placed.{attachments}
use Rattle.router_order.proofs.MoveLemmas.{taken_gone, taken_no_one, taken_one}
use Rattle.router_order.proofs.moving.take_one.Goals as goal

pub returns-then-cut_link-clause-taken : goal.returns-then-cut_link-clause-taken
returns-then-cut_link-clause-taken c =
    let is = c.cut_link.ensures.rows c.requires.listing.0 c.requires.listing.1 in
    taken_one c.args.link (attachments c.args.rows.now.rows) (attachments c.cut_link.new.rows.rows) is _ _ (sym c.cut_link.ensures.found ∙ c.if-cut_link.true) c.push_link.ensures.items

pub returns-then-cut_link-clause-gone : goal.returns-then-cut_link-clause-gone
returns-then-cut_link-clause-gone c =
    let is = c.cut_link.ensures.rows c.requires.listing.0 c.requires.listing.1 in
    taken_gone c.args.link (attachments c.args.rows.now.rows) (attachments c.cut_link.new.rows.rows) is

pub returns-else-cut_link-clause-taken : goal.returns-else-cut_link-clause-taken
returns-else-cut_link-clause-taken c =
    let is = c.cut_link.ensures.rows c.requires.listing.0 c.requires.listing.1 in
    taken_no_one c.args.link (attachments c.args.rows.now.rows) (attachments c.cut_link.new.rows.rows) is _ (sym c.cut_link.ensures.found ∙ c.if-cut_link.false)

pub returns-else-cut_link-clause-gone : goal.returns-else-cut_link-clause-gone
returns-else-cut_link-clause-gone c =
    let is = c.cut_link.ensures.rows c.requires.listing.0 c.requires.listing.1 in
    taken_gone c.args.link (attachments c.args.rows.now.rows) (attachments c.cut_link.new.rows.rows) is
