-- Attempts at a claim over what its container shows, and what their commits come to.
use Rattle.std.proofs.Common.{◌≡◌, inl, ℕ, ◌+◌, ◌<◌, ◌==◌, List, [], ◌∷◌, ◌++◌, length, true, false, IsTrue, refl, sym, ◌∙◌, ap, subst, Option, Some, None, Result, Ok, Err}
use Rattle.slee_disk.specs.Disk.{DiskState}
use Rattle.slee_value.specs.declared.ids.ActivityId.{ActivityId}
use Rattle.slee_value.specs.declared.ids.EntityId.{EntityId}
use Rattle.script_types.specs.Program.{Program}
use Rattle.script_types.specs.ProgramOf.{kept_program}
use Rattle.script_laws.specs.Asking.{lacked_by}
use Rattle.script_meaning.specs.Seeing.{same_seen}
use Rattle.script_meaning.specs.declared.key.Key.{Key}
use Rattle.script_meaning.specs.declared.seen.Seen.{Seen}
use Rattle.script_meaning.specs.declared.seen.Seen.TheVariants as seens
use Rattle.handler_run.specs.Views.{Holds, conflict, holds_at}
use Rattle.rollback_calls.specs.Deliveries.{Handles}
use Rattle.rollback_calls.specs.Prepared.{CanDeliver, delivery_over}
use Rattle.rollback_calls.specs.declared.prepared.PreparedDelivery.{PreparedDelivery}
use Rattle.router_state.specs.Look.{look, next_delivery}
use Rattle.router_state.specs.Next.{next}
use Rattle.router_state.specs.State.{State}
use Rattle.router_state.specs.declared.kindred.Kindred.TheVariants as kindreds
use Rattle.router_core.specs.Delivering.{IsTicket}
use Rattle.trace_history.specs.declared.choice.Choice.{Choice}
use Rattle.trace_history.specs.declared.choice.Choice.TheVariants as choices
use Rattle.tx_attempt.specs.Attempts.{HasAsked, IsDone, IsNew, IsSameTask, asked_for}
use Rattle.tx_attempt.specs.declared.attempt.Attempt.{Attempt}
use Rattle.tx_attempt.specs.declared.ticket.Ticket.{Ticket}
use Rattle.tx_attempt.proofs.SameLemmas.{seen_itself}
use Rattle.router_durable.specs.declared.fault.StepFault.{StepFault}
use Rattle.router_durable.specs.declared.fault.StepFault.TheVariants as faults
use Rattle.slee_container.specs.Claims.{IsAttemptOf, IsClaim, without_claim}
use Rattle.slee_container.specs.Container.{View, state_of}
use Rattle.slee_container.specs.Steps.{Commits, IsTicketFor, Prepares, is_free, is_spent}
use Rattle.slee_container.specs.declared.fault.CommitFault.{CommitFault}
use Rattle.slee_container.specs.declared.fault.CommitFault.TheVariants as refusals
use Rattle.router_durable.specs.Facts.{HasRoom, size_added}
use Rattle.router_steps.specs.Steps.{step_entry}
use Rattle.trace_history.specs.Histories.{input_of}
use Rattle.std.proofs.lemmas.Bool.{eq-eqb}
use Rattle.slee_value.specs.declared.memory.NoMemory.{NoMemory}
use Rattle.router_durable.specs.Facts.{initial_of}
use Rattle.deploy_model.specs.declared.parts.Parts.{Parts}
use Rattle.script_types.specs.declared.codes.Codes.{Codes}
use Rattle.slee_run.proofs.AdvanceLemmas.{fault_moved, moved}
use Rattle.slee_run.specs.Playing.{IsOfStep, IsStepOn, IsStill, IsTriedWhole, Moves, step_fault_of}

-- what an attempt knows, where it is all seen so
pub record IsTried (program : Program) (s : State) (t : Ticket) (a : Attempt) : Type 0 where
  pub of : IsAttemptOf t a
  pub asked : HasAsked program a
  pub seen : Holds (look s) a.known

-- the delivery of a ticket is seen as the one that is next
next_is : (s : State) (t : Ticket) → IsTicket s t → next s t.activity.0 ≡ Some kindreds.Deliver → next_delivery s t.activity.0 ≡ Some (t.event.id, t.entity)
next_is s t ticket next = rw (next, ticket.received) (ap (λ (e : EntityId). Some (t.event.id, e)) ticket.number)

pub begins : (program : Program) (s : State) (t : Ticket) (a : Attempt) → IsTicket s t → next s t.activity.0 ≡ Some kindreds.Deliver → IsNew t a → IsTried program s t a
begins program s t a ticket next new = record {
  of = record { block = new.block; entity = new.entity; activity = new.activity; event = new.event; fields = new.fields; learned = []; known = new.known };
  asked = subst (asked_for (λ answers. lacked_by (delivery_over program a.delivery answers))) (sym new.known) tt;
  seen = subst (Holds (look s)) (sym new.known) (ap (λ o. seens.Next o) (next_is s t ticket next), tt);
}

-- it can be run
pub deliverable : (program : Program) (t : Ticket) (a : Attempt) → IsAttemptOf t a → Handles program t.block t.event.name → CanDeliver program a.delivery
deliverable program t a of handled =
    subst (λ (n : ℕ). Handles program n a.delivery.event) (sym of.block) (subst (λ (name : List ℕ). Handles program t.block name) (sym of.event) handled)

-- it learns what is seen
holds_more : (seen_at : Key → Seen) (known : List (Key × Seen)) (pair : Key × Seen) → Holds seen_at known → seen_at pair.0 ≡ pair.1 → Holds seen_at (known ++ pair ∷ [])
holds_more seen_at [] pair holds is = (is, tt)
holds_more seen_at (x ∷ known) pair holds is = (holds.0, holds_more seen_at known pair holds.1 is)

pub learns : (program : Program) (s : State) (t : Ticket) (a b : Attempt) (pair : Key × Seen) → IsTried program s t a → b.delivery ≡ a.delivery → b.known ≡ a.known ++ pair ∷ [] → HasAsked program b → look s pair.0 ≡ pair.1
    → IsTried program s t b
learns program s t a b pair tried delivery known asked is = record {
  of = record {
    block = ap (λ d. d.block) delivery ∙ tried.of.block;
    entity = ap (λ d. d.entity) delivery ∙ tried.of.entity;
    activity = ap (λ d. d.arguments.activity) delivery ∙ tried.of.activity;
    event = ap (λ d. d.event) delivery ∙ tried.of.event;
    fields = ap (λ d. d.arguments.fields) delivery ∙ tried.of.fields;
    learned = tried.of.learned ++ pair ∷ [];
    known = known ∙ ap (λ (l : List (Key × Seen)). l ++ pair ∷ []) tried.of.known;
  };
  asked = asked;
  seen = subst (Holds (look s)) (sym known) (holds_more (look s) a.known pair tried.seen is);
}

-- nothing conflicts with what is seen so
none_by : (seen_at : Key → Seen) (pair : Key × Seen) (known : List (Key × Seen)) → seen_at pair.0 ≡ pair.1 → conflict seen_at known ≡ None → conflict seen_at (pair ∷ known) ≡ None
none_by seen_at pair known is none =
    let same : holds_at seen_at pair ≡ true = ap (same_seen pair.1) is ∙ seen_itself pair.1 in
    rw same none

pub unconflicting : (seen_at : Key → Seen) (known : List (Key × Seen)) → Holds seen_at known → conflict seen_at known ≡ None
unconflicting seen_at [] holds = refl
unconflicting seen_at (pair ∷ known) holds = none_by seen_at pair known holds.0 (unconflicting seen_at known holds.1)

-- the same attempt has asked for the same
pub same_asked : (program : Program) (a b : Attempt) → IsSameTask a b → HasAsked program a → HasAsked program b
same_asked program a b same asked =
    subst (asked_for (λ answers. lacked_by (delivery_over program b.delivery answers))) (sym same.known)
    (subst (λ (d : PreparedDelivery). asked_for (λ answers. lacked_by (delivery_over program d answers)) a.known) (sym same.delivery) asked)

-- it came to its end
pub whole_tried : (program other : Program) (s : State) (t : Ticket) (a b : Attempt) → program ≡ other → IsTried program s t a → IsSameTask a b → IsDone program b → IsTriedWhole other s t b
whole_tried program other s t a b is tried same done = record {
  of = record {
    block = ap (λ d. d.block) same.delivery ∙ tried.of.block;
    entity = ap (λ d. d.entity) same.delivery ∙ tried.of.entity;
    activity = ap (λ d. d.arguments.activity) same.delivery ∙ tried.of.activity;
    event = ap (λ d. d.event) same.delivery ∙ tried.of.event;
    fields = ap (λ d. d.arguments.fields) same.delivery ∙ tried.of.fields;
    learned = tried.of.learned;
    known = same.known ∙ tried.of.known;
  };
  done = subst (λ (p : Program). IsDone p b) is done;
  seen = ap (conflict (look s)) same.known ∙ unconflicting (look s) a.known tried.seen;
}

-- ---- a claim more or less changes nothing else

step_before : {D : Type 0} (v u w : View D) (c : Choice) (claims : List Ticket) → u ≡ record v { claims = claims } → IsStepOn u c w → IsStepOn v c w
step_before {D = D} v u w c claims is step = record {
  history = step.history ∙ ap (λ (x : View D). x.history ++ step_entry (state_of x) c ∷ []) is;
  taken = step.taken ∙ ap (λ (x : View D). x.taken + length (input_of c)) is;
  room = subst (λ (x : View D). HasRoom x.setup.origin x.setup.journal x.history c) is step.room;
}

still_before : {D : Type 0} (v u w : View D) (claims : List Ticket) → u ≡ record v { claims = claims } → IsStill u w → IsStill v w
still_before {D = D} v u w claims is still = record { history = still.history ∙ ap (λ (x : View D). x.history) is; taken = still.taken ∙ ap (λ (x : View D). x.taken) is }

pub moved_before : {D : Type 0} (v u w : View D) (c : Choice) (r : Result ℕ StepFault) (claims : List Ticket) → u ≡ record v { claims = claims } → Moves u c r w → Moves v c r w
moved_before {D = D} v u w c (Ok number) claims is m = (step_before v u w c claims is m.0, m.1, m.2)
moved_before {D = D} v u w c (Err faults.DiskFault) claims is m = (step_before v u w c claims is m.0, m.1)
moved_before {D = D} v u w c (Err (faults.Full size adding)) claims is m =
    (still_before v u w claims is m.0, m.1, m.2 ∙ ap (λ (x : View D). size_added x.setup.origin x.history c) is, subst (λ (x : View D). x.setup.journal < size + adding) is m.3)
moved_before {D = D} v u w c (Err faults.NoMemory) claims is m = (still_before v u w claims is m.0, m.1 ∙ ap (λ (x : View D). x.stop) is)
moved_before {D = D} v u w c (Err faults.Spent) claims is m =
    (still_before v u w claims is m.0, m.1 ∙ ap (λ (x : View D). x.stop) is, subst (λ (x : View D). IsTrue (is_spent x)) is m.2)

-- the program of a deployment with this start
pub program_is : (start : State) (parts : Parts) (codes : Codes) → initial_of parts codes ≡ start → kept_program codes ≡ start.program
program_is start parts codes is = ap (λ (s : State). s.program) is

-- ---- what a commit at the only claim comes to

itself : (n : ℕ) → (n == n) ≡ true
itself n = eq-eqb n n refl

let_go : (t : Ticket) → without_claim (t ∷ []) t.activity.0 ≡ []
let_go t = rw (itself t.activity.0) refl

module _ {D : Type 0} (v w : View D) (t : Ticket) (a : Attempt) (before after : DiskState) where
  pub committed : (n : ℕ) → v.claims ≡ t ∷ [] → Commits before after v t a (Ok n) w → Moves v (choices.Deliver t.activity) (Ok n) w
  committed n only c =
      moved v (choices.Deliver t.activity) (Ok n) w before after (c.2.claims ∙ ap (λ (cs : List Ticket). without_claim cs t.activity.0) only ∙ let_go t) c.2.made

  committed_down : Commits before after v t a (Err refusals.DiskFault) w → Moves v (choices.Deliver t.activity) (Err faults.DiskFault) w
  committed_down c = fault_moved v (choices.Deliver t.activity) faults.DiskFault w before after c.2.made

  committed_full : (size adding : ℕ) → Commits before after v t a (Err (refusals.Full size adding)) w → Moves v (choices.Deliver t.activity) (Err (faults.Full size adding)) w
  committed_full size adding c = fault_moved v (choices.Deliver t.activity) (faults.Full size adding) w before after c.1.made

  committed_spent : Commits before after v t a (Err refusals.Spent) w → Moves v (choices.Deliver t.activity) (Err faults.Spent) w
  committed_spent c = (record { history = ap (λ u. u.history) c.0; taken = ap (λ u. u.taken) c.0 }, ap (λ u. u.stop) c.0, c.1)

  committed_memory : Commits before after v t a (Err refusals.NoMemory) w → Moves v (choices.Deliver t.activity) (Err faults.NoMemory) w
  committed_memory c = (record { history = ap (λ u. u.history) c.0; taken = ap (λ u. u.taken) c.0 }, ap (λ u. u.stop) c.0)

  -- a commit was refused for its step, where nothing conflicts
  pub of_step : (f : CommitFault) → conflict (look (state_of v)) a.known ≡ None → Commits before after v t a (Err f) w → IsOfStep f
  of_step (refusals.Conflict key saw found) none c = let never : ◌≡◌ {A = Option (Key × Seen × Seen)} None (Some (key, saw, found)) = sym none ∙ c.1 in cc
  of_step refusals.DiskFault none c = tt
  of_step (refusals.Full size adding) none c = tt
  of_step refusals.Spent none c = tt
  of_step refusals.NoMemory none c = tt

  pub refused_moves : (f : CommitFault) → IsOfStep f → Commits before after v t a (Err f) w → Moves v (choices.Deliver t.activity) (Err (step_fault_of f)) w
  refused_moves (refusals.Conflict key saw found) of c = absurd of
  refused_moves refusals.DiskFault of c = committed_down c
  refused_moves (refusals.Full size adding) of c = committed_full size adding c
  refused_moves refusals.Spent of c = committed_spent c
  refused_moves refusals.NoMemory of c = committed_memory c

  pub commit_setup : (r : Result ℕ CommitFault) → Commits before after v t a r w → w.setup ≡ v.setup
  commit_setup (Ok n) c = c.2.made.setup
  commit_setup (Err (refusals.Conflict key saw found)) c = ap (λ u. u.setup) c.0
  commit_setup (Err refusals.DiskFault) c = c.2.made.setup
  commit_setup (Err (refusals.Full size adding)) c = c.1.made.setup
  commit_setup (Err refusals.Spent) c = ap (λ u. u.setup) c.0
  commit_setup (Err refusals.NoMemory) c = ap (λ u. u.setup) c.0

-- nothing was done for want of memory
pub memory_moves : {D : Type 0} (v : View D) (c : Choice) → Moves v c (Err faults.NoMemory) v
memory_moves v c = (record { history = refl; taken = refl }, refl)

-- ---- what preparing comes to, where nothing is claimed and a delivery is next

module _ {D : Type 0} (v w : View D) (a : ActivityId) where
  free_is : v.claims ≡ [] → next (state_of v) a.0 ≡ Some kindreds.Deliver → is_free v a.0 ≡ true
  free_is none next = rw (none, next) refl

  pub not_none : v.claims ≡ [] → next (state_of v) a.0 ≡ Some kindreds.Deliver → Prepares v a (Ok None) w → ⊥
  not_none none next p = let never : true ≡ false = sym (free_is none next) ∙ p.1 in cc

  pub unprepared : (f : NoMemory) → Prepares v a (Err f) w → Moves v (choices.Deliver a) (Err faults.NoMemory) w
  unprepared f p = (record { history = ap (λ u. u.history) p.0; taken = ap (λ u. u.taken) p.0 }, ap (λ u. u.stop) p.0)

  pub setup_unprepared : (f : NoMemory) → Prepares v a (Err f) w → w.setup ≡ v.setup
  setup_unprepared f p = ap (λ u. u.setup) p.0

  -- a ticket, and what it is one for
  pub record IsClaimedFor (t : Ticket) : Type 0 where
    pub setup : w.setup ≡ v.setup
    pub live : v.stop ≡ None → w.stop ≡ None
    pub claims : w.claims ≡ t ∷ []
    pub ticket : IsTicketFor w t.activity t
    pub next : next (state_of w) t.activity.0 ≡ Some kindreds.Deliver
    pub untried : Moves v (choices.Deliver a) (Err faults.NoMemory) w

  pub claimed_for : (t : Ticket) → v.claims ≡ [] → next (state_of v) a.0 ≡ Some kindreds.Deliver → Prepares v a (Ok (Some t)) w → IsClaimedFor t
  claimed_for t none next_is p = record {
    setup = ap (λ u. u.setup) p.0;
    live = λ live. ap (λ u. u.stop) p.0 ∙ live;
    claims = ap (λ u. u.claims) p.0 ∙ ap (λ (cs : List Ticket). cs ++ t ∷ []) none;
    ticket = subst (λ (b : ActivityId). IsTicketFor w b t) (sym p.2.activity) (subst (λ (u : View D). IsTicketFor u a t) (sym p.0) (over p.2));
    next = ap (λ (u : View D). next (state_of u) t.activity.0) p.0 ∙ ap (λ (b : ActivityId). next (state_of v) b.0) p.2.activity ∙ next_is;
    untried = (record { history = ap (λ u. u.history) p.0; taken = ap (λ u. u.taken) p.0 }, ap (λ u. u.stop) p.0);
  }
    where
      over : IsTicketFor v a t → IsTicketFor (record v { claims = v.claims ++ t ∷ [] }) a t
      over i = record { number = i.number; activity = i.activity; ticket = i.ticket; handled = i.handled }

  -- the commit of it, behind
  pub delivered : (x : View D) (t : Ticket) (r : Result ℕ StepFault) → Prepares v a (Ok (Some t)) w → Moves w (choices.Deliver t.activity) r x → Moves v (choices.Deliver a) r x
  delivered x t r p m =
      subst (λ (b : ActivityId). Moves v (choices.Deliver b) r x) p.2.activity (moved_before v w x (choices.Deliver t.activity) r (v.claims ++ t ∷ []) p.0 m)

  -- what of it is needed to try and commit it
  pub claimed_setup : (t : Ticket) → Prepares v a (Ok (Some t)) w → w.setup ≡ v.setup
  claimed_setup t p = ap (λ u. u.setup) p.0

  pub claimed_live : (t : Ticket) → v.stop ≡ None → Prepares v a (Ok (Some t)) w → w.stop ≡ None
  claimed_live t live p = ap (λ u. u.stop) p.0 ∙ live

  pub claimed_only : (t : Ticket) → v.claims ≡ [] → Prepares v a (Ok (Some t)) w → w.claims ≡ t ∷ []
  claimed_only t none p = ap (λ u. u.claims) p.0 ∙ ap (λ (cs : List Ticket). cs ++ t ∷ []) none

  pub claimed_ticket : (t : Ticket) → v.claims ≡ [] → next (state_of v) a.0 ≡ Some kindreds.Deliver → Prepares v a (Ok (Some t)) w → IsTicketFor w t.activity t
  claimed_ticket t none next_is p = (claimed_for t none next_is p).ticket

  pub claimed_next : (t : Ticket) → v.claims ≡ [] → next (state_of v) a.0 ≡ Some kindreds.Deliver → Prepares v a (Ok (Some t)) w → next (state_of w) t.activity.0 ≡ Some kindreds.Deliver
  claimed_next t none next_is p = (claimed_for t none next_is p).next

  pub claimed_untried : (t : Ticket) → Prepares v a (Ok (Some t)) w → Moves v (choices.Deliver a) (Err faults.NoMemory) w
  claimed_untried t p = (record { history = ap (λ u. u.history) p.0; taken = ap (λ u. u.taken) p.0 }, ap (λ u. u.stop) p.0)

-- the only claim is one
pub only_claim : (t : Ticket) (claims : List Ticket) → claims ≡ t ∷ [] → IsClaim t claims
only_claim t claims is = subst (IsClaim t) (sym is) (inl refl)
