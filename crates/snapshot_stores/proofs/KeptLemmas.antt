-- All but one list of a store stays.
use Rattle.std.proofs.Common.{◌≡◌, List, sym, ap, ◌∙◌}
use Rattle.router_state.specs.declared.rows.Activity.{Activity}
use Rattle.router_state.specs.declared.rows.Attribute.{Attribute}
use Rattle.router_state.specs.declared.rows.Link.{Link}
use Rattle.router_state.specs.declared.rows.Named.{Named}
use Rattle.router_state.specs.declared.rows.Queued.{Queued}
use Rattle.router_state.specs.declared.rows.ServiceMark.{ServiceMark}
use Rattle.router_state.specs.declared.rows.EntityMark.{EntityMark}
use Rattle.router_state.specs.declared.rows.Suspension.{Suspension}
use Rattle.activity_context.specs.Views.{ContextsView}
use Rattle.event_queue.specs.Views.{QueuesView}

abbrev pub WithActivities : ContextsView → ContextsView → Type 0
WithActivities old new = new ≡ record old { activities = new.activities; rooms = record old.rooms { activities = new.rooms.activities } }

pub more_activities : (first old new : ContextsView) (xs : List Activity) → WithActivities first old → new ≡ record old { activities = xs; rooms = record old.rooms { activities = new.rooms.activities } } → WithActivities first new
more_activities first old new xs kept is =
    is ∙ ap (λ (o : ContextsView). record o { activities = xs; rooms = record o.rooms { activities = new.rooms.activities } }) kept
    ∙ ap (λ (ys : List Activity). record first { activities = ys; rooms = record first.rooms { activities = new.rooms.activities } }) (sym (ap (λ (c : ContextsView). c.activities) is))

abbrev pub WithAttributes : ContextsView → ContextsView → Type 0
WithAttributes old new = new ≡ record old { attributes = new.attributes; rooms = record old.rooms { attributes = new.rooms.attributes } }

pub more_attributes : (first old new : ContextsView) (xs : List Attribute) → WithAttributes first old → new ≡ record old { attributes = xs; rooms = record old.rooms { attributes = new.rooms.attributes } } → WithAttributes first new
more_attributes first old new xs kept is =
    is ∙ ap (λ (o : ContextsView). record o { attributes = xs; rooms = record o.rooms { attributes = new.rooms.attributes } }) kept
    ∙ ap (λ (ys : List Attribute). record first { attributes = ys; rooms = record first.rooms { attributes = new.rooms.attributes } }) (sym (ap (λ (c : ContextsView). c.attributes) is))

abbrev pub WithLinks : ContextsView → ContextsView → Type 0
WithLinks old new = new ≡ record old { links = new.links; rooms = record old.rooms { links = new.rooms.links } }

pub more_links : (first old new : ContextsView) (xs : List Link) → WithLinks first old → new ≡ record old { links = xs; rooms = record old.rooms { links = new.rooms.links } } → WithLinks first new
more_links first old new xs kept is =
    is ∙ ap (λ (o : ContextsView). record o { links = xs; rooms = record o.rooms { links = new.rooms.links } }) kept
    ∙ ap (λ (ys : List Link). record first { links = ys; rooms = record first.rooms { links = new.rooms.links } }) (sym (ap (λ (c : ContextsView). c.links) is))

abbrev pub WithNames : ContextsView → ContextsView → Type 0
WithNames old new = new ≡ record old { names = new.names; names_kept = new.names_kept; rooms = record old.rooms { names = new.rooms.names } }

pub more_names : (first old new : ContextsView) (xs : List Named) → WithNames first old → new ≡ record old { names = xs; names_kept = new.names_kept; rooms = record old.rooms { names = new.rooms.names } } → WithNames first new
more_names first old new xs kept is =
    is ∙ ap (λ (o : ContextsView). record o { names = xs; names_kept = new.names_kept; rooms = record o.rooms { names = new.rooms.names } }) kept
    ∙ ap (λ (ys : List Named). record first { names = ys; names_kept = new.names_kept; rooms = record first.rooms { names = new.rooms.names } }) (sym (ap (λ (c : ContextsView). c.names) is))

abbrev pub WithEvents : QueuesView → QueuesView → Type 0
WithEvents old new = new ≡ record old { events = new.events; events_room = new.events_room }

pub more_events : (first old new : QueuesView) (xs : List Queued) → WithEvents first old → new ≡ record old { events = xs; events_room = new.events_room } → WithEvents first new
more_events first old new xs kept is =
    is ∙ ap (λ (o : QueuesView). record o { events = xs; events_room = new.events_room }) kept
    ∙ ap (λ (ys : List Queued). record first { events = ys; events_room = new.events_room }) (sym (ap (λ (q : QueuesView). q.events) is))

abbrev pub WithServices : QueuesView → QueuesView → Type 0
WithServices old new = new ≡ record old { services_done = new.services_done; services_room = new.services_room }

pub more_services : (first old new : QueuesView) (xs : List ServiceMark) → WithServices first old → new ≡ record old { services_done = xs; services_room = new.services_room } → WithServices first new
more_services first old new xs kept is =
    is ∙ ap (λ (o : QueuesView). record o { services_done = xs; services_room = new.services_room }) kept
    ∙ ap (λ (ys : List ServiceMark). record first { services_done = ys; services_room = new.services_room }) (sym (ap (λ (q : QueuesView). q.services_done) is))

abbrev pub WithEntities : QueuesView → QueuesView → Type 0
WithEntities old new = new ≡ record old { delivered = new.delivered; entities_room = new.entities_room }

pub more_entities : (first old new : QueuesView) (xs : List EntityMark) → WithEntities first old → new ≡ record old { delivered = xs; entities_room = new.entities_room } → WithEntities first new
more_entities first old new xs kept is =
    is ∙ ap (λ (o : QueuesView). record o { delivered = xs; entities_room = new.entities_room }) kept
    ∙ ap (λ (ys : List EntityMark). record first { delivered = ys; entities_room = new.entities_room }) (sym (ap (λ (q : QueuesView). q.delivered) is))

abbrev pub WithSuspensions : QueuesView → QueuesView → Type 0
WithSuspensions old new = new ≡ record old { suspensions = new.suspensions; suspensions_room = new.suspensions_room }

pub more_suspensions : (first old new : QueuesView) (xs : List Suspension) → WithSuspensions first old → new ≡ record old { suspensions = xs; suspensions_room = new.suspensions_room } → WithSuspensions first new
more_suspensions first old new xs kept is =
    is ∙ ap (λ (o : QueuesView). record o { suspensions = xs; suspensions_room = new.suspensions_room }) kept
    ∙ ap (λ (ys : List Suspension). record first { suspensions = ys; suspensions_room = new.suspensions_room }) (sym (ap (λ (q : QueuesView). q.suspensions) is))
