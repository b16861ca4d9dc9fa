-- Attempts that a worker has in hand.
use Rattle.std.proofs.Common.{◌≡◌, ℕ, List, [], ◌∷◌, ◌++◌, sym, ◌∙◌, ap, subst}
use Rattle.script_types.specs.Program.{Program}
use Rattle.script_laws.specs.Asking.{lacked_by}
use Rattle.script_meaning.specs.Answers.{kept}
use Rattle.script_meaning.specs.Delivery.{Wants}
use Rattle.script_meaning.specs.declared.key.Key.{Key}
use Rattle.script_meaning.specs.declared.seen.Seen.{Seen}
use Rattle.rollback_calls.specs.Deliveries.{Handles}
use Rattle.rollback_calls.specs.Prepared.{CanDeliver, delivery_over}
use Rattle.rollback_calls.specs.declared.prepared.PreparedDelivery.{PreparedDelivery}
use Rattle.tx_attempt.specs.Attempts.{HasAsked, IsDone, IsNeeded, IsNew, IsSameTask, asked_for}
use Rattle.tx_attempt.specs.declared.attempt.Attempt.{Attempt}
use Rattle.tx_attempt.specs.declared.ticket.Ticket.{Ticket}
use Rattle.slee_container.specs.Claims.{IsAttemptOf}
use Rattle.worker_gate.specs.Hands.{IsTrying}

-- a new attempt has asked for nothing
pub begun : (program : Program) (t : Ticket) (a : Attempt) → Handles program t.block t.event.name → IsNew t a → IsTrying program t a
begun program t a handled new = record {
  of = record { block = new.block; entity = new.entity; activity = new.activity; event = new.event; fields = new.fields; learned = []; known = new.known };
  handled = handled;
  asked = subst (asked_for (λ answers. lacked_by (delivery_over program a.delivery answers))) (sym new.known) tt;
}

-- it can be run
pub deliverable : (program : Program) (t : Ticket) (a : Attempt) → IsTrying program t a → CanDeliver program a.delivery
deliverable program t a trying =
    subst (λ (n : ℕ). Handles program n a.delivery.event) (sym trying.of.block) (subst (λ (name : List ℕ). Handles program t.block name) (sym trying.of.event) trying.handled)

-- the same attempt is of the same ticket
same_of : (t : Ticket) (a b : Attempt) → IsSameTask a b → IsAttemptOf t a → IsAttemptOf t b
same_of t a b same of = record {
  block = ap (λ d. d.block) same.delivery ∙ of.block;
  entity = ap (λ d. d.entity) same.delivery ∙ of.entity;
  activity = ap (λ d. d.arguments.activity) same.delivery ∙ of.activity;
  event = ap (λ d. d.event) same.delivery ∙ of.event;
  fields = ap (λ d. d.arguments.fields) same.delivery ∙ of.fields;
  learned = of.learned;
  known = same.known ∙ of.known;
}

-- and has asked for the same
same_asked : (program : Program) (a b : Attempt) → IsSameTask a b → HasAsked program a → HasAsked program b
same_asked program a b same asked =
    subst (asked_for (λ answers. lacked_by (delivery_over program b.delivery answers))) (sym same.known)
    (subst (λ (d : PreparedDelivery). asked_for (λ answers. lacked_by (delivery_over program d answers)) a.known) (sym same.delivery) asked)

-- it was run, and needs a key
pub ran_needs : (program : Program) (t : Ticket) (a b : Attempt) → IsTrying program t a → IsSameTask a b → IsTrying program t b
ran_needs program t a b trying same = record { of = same_of t a b same trying.of; handled = trying.handled; asked = same_asked program a b same trying.asked }

-- it was run, and came to its end
pub ran_ends : (program : Program) (t : Ticket) (a b : Attempt) → IsTrying program t a → IsSameTask a b → IsDone program b → IsAttemptOf t b × IsDone program b
ran_ends program t a b trying same done = (same_of t a b same trying.of, done)

-- it was told what is seen at the key that it needed
pub told : (program : Program) (t : Ticket) (a b : Attempt) (pair : Key × Seen) → IsTrying program t a → IsNeeded program a pair.0 → b.delivery ≡ a.delivery → b.known ≡ a.known ++ pair ∷ []
    → ((p : Program) → HasAsked p a → delivery_over p a.delivery (kept a.known) ≡ Wants pair.0 → HasAsked p b) → IsTrying program t b
told program t a b pair trying needed delivery known asked = record {
  of = record {
    block = ap (λ d. d.block) delivery ∙ trying.of.block;
    entity = ap (λ d. d.entity) delivery ∙ trying.of.entity;
    activity = ap (λ d. d.arguments.activity) delivery ∙ trying.of.activity;
    event = ap (λ d. d.event) delivery ∙ trying.of.event;
    fields = ap (λ d. d.arguments.fields) delivery ∙ trying.of.fields;
    learned = trying.of.learned ++ pair ∷ [];
    known = known ∙ ap (λ (l : List (Key × Seen)). l ++ pair ∷ []) trying.of.known;
  };
  handled = trying.handled;
  asked = asked program trying.asked needed.wanted;
}
