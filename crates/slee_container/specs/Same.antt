-- Tests whether two tickets are the same.
use Rattle.std.specs.Prelude.{◌==◌, Bool, ◌&&◌, List}
use Rattle.std.specs.List.{list_any}
use Rattle.std.specs.Str.{bytes_eq}
use Rattle.script_meaning.specs.Same.{same_field, same_list, same_option}
use Rattle.router_state.specs.declared.rows.Event.{Event}
use Rattle.tx_attempt.specs.declared.ticket.Ticket.{Ticket}

-- two events
abbrev pub same_event : Event → Event → Bool
same_event x y =
    (x.id.0 == y.id.0) && (bytes_eq x.name y.name && (same_list same_field x.fields y.fields && same_option (λ a b. a == b) x.target y.target))

-- two tickets
abbrev pub same_ticket : Ticket → Ticket → Bool
same_ticket t u =
    (t.number == u.number) && ((t.activity.0 == u.activity.0) && (same_event t.event u.event && ((t.entity.0 == u.entity.0) && (t.block == u.block))))

-- the ticket is one of these
abbrev pub is_among : Ticket → List Ticket → Bool
is_among t claims = list_any (λ u. same_ticket t u) claims
