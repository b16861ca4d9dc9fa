-- the block of the entity handles the event
use Rattle.std.proofs.Common.{rules}
use Rattle.script_types.specs.ProgramOf.{kept_program}
use Rattle.deploy_model.specs.Resolving.{deployed_of}
use Rattle.tx_attempt.specs.declared.ticket.Ticket.{Ticket}
use Rattle.router_core.proofs.TicketLemmas.{ticket_handled, ticket_is}
use Rattle.router_core.proofs.state.State.ticket.Goals as goal

pub returns-clause-handled : goal.returns-clause-handled
returns-clause-handled c =
    let t : Ticket = record { number = c.args.number; activity = c.args.activity; event = c.in_ok-copied.field-0; entity = c.in-Some.entity; block = c.in-Some-block.block } in
    ticket_handled (kept_program c.args.deployment.now.codes) (deployed_of c.args.deployment.now.parts) c.args.self.now.state t c.handlers_are_there.ensures c.requires.parts
    (ticket_is c.args.self.now.state t c.in-Some.event.now (search rules) (search rules) (search rules) (search rules))
