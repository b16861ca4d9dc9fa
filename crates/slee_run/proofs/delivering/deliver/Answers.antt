use Rattle.std.proofs.Common.{◌∙◌}
use Rattle.slee_run.proofs.DeliverLemmas.{claimed_live, claimed_next, claimed_only, claimed_setup, claimed_ticket, delivered, not_none, setup_unprepared, unprepared}
use Rattle.slee_run.proofs.delivering.deliver.Goals as goal

pub unreachable-requires : goal.unreachable-requires
unreachable-requires g c = not_none c.args.container.now c.prepare.new.self c.args.activity c.requires.claims c.requires.next (rw c.in-Ok-None.field-0-is at c.in-Ok-None.ensures)

pub deliver_claimed-requires-clause-live : goal.deliver_claimed-requires-clause-live
deliver_claimed-requires-clause-live g c =
    claimed_live c.args.container.now c.prepare.new.self c.args.activity c.in-Ok-Some.ticket c.requires.live (rw c.in-Ok-Some.field-0-is at c.in-Ok-Some.ensures)

pub deliver_claimed-requires-clause-claims : goal.deliver_claimed-requires-clause-claims
deliver_claimed-requires-clause-claims g c =
    claimed_only c.args.container.now c.prepare.new.self c.args.activity c.in-Ok-Some.ticket c.requires.claims (rw c.in-Ok-Some.field-0-is at c.in-Ok-Some.ensures)

pub deliver_claimed-requires-clause-ticket : goal.deliver_claimed-requires-clause-ticket
deliver_claimed-requires-clause-ticket g c =
    claimed_ticket c.args.container.now c.prepare.new.self c.args.activity c.in-Ok-Some.ticket c.requires.claims c.requires.next (rw c.in-Ok-Some.field-0-is at c.in-Ok-Some.ensures)

pub deliver_claimed-requires-clause-next : goal.deliver_claimed-requires-clause-next
deliver_claimed-requires-clause-next g c =
    claimed_next c.args.container.now c.prepare.new.self c.args.activity c.in-Ok-Some.ticket c.requires.claims c.requires.next (rw c.in-Ok-Some.field-0-is at c.in-Ok-Some.ensures)

pub returns-in-Ok-Some-clause-setup : goal.returns-in-Ok-Some-clause-setup
returns-in-Ok-Some-clause-setup g c =
    c.deliver_claimed.ensures.setup
    ∙ claimed_setup c.args.container.now c.prepare.new.self c.args.activity c.in-Ok-Some.ticket (rw c.in-Ok-Some.field-0-is at c.in-Ok-Some.ensures)

pub returns-in-Ok-Some-clause-moves : goal.returns-in-Ok-Some-clause-moves
returns-in-Ok-Some-clause-moves g c =
    delivered c.args.container.now c.prepare.new.self c.args.activity c.deliver_claimed.new.container c.in-Ok-Some.ticket c.deliver_claimed.result
    (rw c.in-Ok-Some.field-0-is at c.in-Ok-Some.ensures) c.deliver_claimed.ensures.moves

pub returns-in-Err-clause-setup : goal.returns-in-Err-clause-setup
returns-in-Err-clause-setup g c = setup_unprepared c.args.container.now c.prepare.new.self c.args.activity _ c.in-Err.ensures

pub returns-in-Err-clause-moves : goal.returns-in-Err-clause-moves
returns-in-Err-clause-moves g c = unprepared c.args.container.now c.prepare.new.self c.args.activity _ c.in-Err.ensures
