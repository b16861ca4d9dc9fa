-- What the attempt at a claim came to, and how its commit ends.
use Rattle.std.proofs.Common.{◌≡◌, ℕ, true, false, List, Some, None, refl, sym, ◌∙◌, ap, subst, Ok, Err}
use Rattle.script_types.specs.Program.{Program}
use Rattle.slee_descriptor.specs.declared.deployment.Deployment.{Deployment}
use Rattle.slee_disk.specs.Disk.{DiskState}
use Rattle.slee_value.specs.declared.ids.ActivityId.{ActivityId}
use Rattle.handler_run.specs.Views.{conflict}
use Rattle.rollback_calls.specs.declared.delivered.Delivered.{Delivered}
use Rattle.trace_history.specs.declared.choice.Choice.TheVariants as choices
use Rattle.router_state.specs.Look.{look}
use Rattle.router_state.specs.State.{State}
use Rattle.router_steps.specs.Steps.{is_delivery, is_next_by}
use Rattle.router_core.specs.States.{IsOwn}
use Rattle.router_durable.specs.Core.{Held}
use Rattle.router_durable.specs.Facts.{initial_of}
use Rattle.router_durable.specs.declared.fault.StepFault.{StepFault}
use Rattle.router_durable.specs.declared.fault.StepFault.TheVariants as faults
use Rattle.tx_attempt.specs.Attempts.{IsDone}
use Rattle.tx_attempt.specs.Checking.{Checks}
use Rattle.tx_attempt.specs.declared.check.CheckStop.{CheckStop}
use Rattle.tx_attempt.specs.declared.check.CheckStop.TheVariants as checks
use Rattle.tx_attempt.specs.declared.attempt.Attempt.{Attempt}
use Rattle.tx_attempt.specs.declared.ticket.Ticket.{Ticket}
use Rattle.slee_container.specs.Claims.{HoldsClaims, IsAttemptOf, IsClaim}
use Rattle.slee_container.specs.Container.{Setup, View, held_in, state_of}
use Rattle.slee_container.specs.Steps.{ChecksOut, Commits, MakesWith, Redoes, check_fault_of, claims_after, commit_fault_of, is_spent}
use Rattle.slee_container.specs.declared.fault.CommitFault.{CommitFault}
use Rattle.slee_container.specs.declared.fault.CommitFault.TheVariants as refusals
use Rattle.slee_container.specs.declared.fault.Redone.TheVariants as redones
use Rattle.slee_container.proofs.Commits.{claim_block, claim_front, ready}

-- the program of the state is that of the deployment with which it began
program_is : (d : Deployment) (start s : State) → initial_of d.parts d.codes ≡ start → IsOwn d s → start.program ≡ s.program
program_is d start s begins own = sym (ap (λ (x : State). x.program) begins) ∙ own.deployed.program

-- an attempt that saw nothing else than is seen now
pub checks_out : {D : Type 0} (v : View D) (t : Ticket) (a : Attempt) (d : Deployment) (delivered : Delivered) → HoldsClaims (state_of v) v.claims → IsClaim t v.claims → IsAttemptOf t a
    → initial_of d.parts d.codes ≡ v.setup.origin.initial → IsOwn d (state_of v) → IsDone v.setup.origin.initial.program a → a.outcome ≡ Some delivered → conflict (look (state_of v)) a.known ≡ None
    → ChecksOut v t a (Ok delivered)
checks_out v t a d delivered holds is of begins own done outcome none =
    let done_here : IsDone (state_of v).program a = subst (λ (p : Program). IsDone p a) (program_is d v.setup.origin.initial (state_of v) begins own) done in
    let all = ready (state_of v) t a delivered (claim_front (state_of v) v.claims t holds is) (claim_block (state_of v) v.claims t holds is) of done_here outcome none in
    (none, all.seen, all.next, all.delivers)

-- where something else is seen than was seen, or memory ran out
pub checks_refused : {D : Type 0} (v : View D) (t : Ticket) (a : Attempt) (sight : State) (stop : CheckStop) → sight ≡ state_of v → Checks (conflict (look sight) a.known) (Err stop) → ChecksOut v t a (Err (check_fault_of stop))
checks_refused v t a sight (checks.Conflict key saw found) same checked = ap (λ (s : State). conflict (look s) a.known) (sym same) ∙ checked
checks_refused v t a sight checks.NoMemory same checked = tt

-- what is seen, part by part
abbrev seen_of : {D : Type 0} → Held D → Setup → ℕ → List Ticket → View D
seen_of h setup taken claims = record { disk = h.disk; setup = setup; history = h.history; taken = taken; acked = h.acked; claims = claims; stop = h.stop }

same_view : {D : Type 0} (v w : View D) → held_in w ≡ held_in v → w.setup ≡ v.setup → w.taken ≡ v.taken → w.claims ≡ v.claims → w ≡ v
same_view {D = D} v w held setup taken claims =
    ap (λ (h : Held D). seen_of h w.setup w.taken w.claims) held
    ∙ ap (λ (x : Setup). seen_of (held_in v) x w.taken w.claims) setup
    ∙ ap (λ (n : ℕ). seen_of (held_in v) v.setup n w.claims) taken
    ∙ ap (λ (ts : List Ticket). seen_of (held_in v) v.setup v.taken ts) claims

-- a commit ends as its delivery does

pub commits_ok : {D : Type 0} (before after : DiskState) (v w : View D) (t : Ticket) (a : Attempt) (delivered : Delivered) (n : ℕ) → ChecksOut v t a (Ok delivered)
    → MakesWith before after v (choices.Deliver t.activity) (Ok n) (claims_after v.claims t.activity.0 (Ok n)) w → Commits before after v t a (Ok n) w
commits_ok before after v w t a delivered n out made = (out.0, out.1, made)

pub commits_err : {D : Type 0} (before after : DiskState) (v w : View D) (t : Ticket) (a : Attempt) (delivered : Delivered) (f : StepFault) → is_spent v ≡ false → ChecksOut v t a (Ok delivered)
    → MakesWith before after v (choices.Deliver t.activity) (Err f) (claims_after v.claims t.activity.0 (Err f)) w → Commits before after v t a (Err (commit_fault_of f)) w
commits_err before after v w t a delivered faults.DiskFault fresh out made = (out.0, out.1, made)
commits_err before after v w t a delivered (faults.Full size adding) fresh out made = (out.0, made)
commits_err before after v w t a delivered faults.NoMemory fresh out made = (same_view v w made.made.step.step made.made.setup made.made.taken made.claims, fresh)
commits_err before after v w t a delivered faults.Spent fresh out made = absurd (let wrong : true ≡ false = sym (made.made.refused refl) ∙ fresh in cc)

-- a refusal of the check is that of the commit
pub commits_refused : {D : Type 0} (disk : DiskState) (v : View D) (t : Ticket) (a : Attempt) (f : CommitFault) → is_spent v ≡ false → ChecksOut v t a (Err f) → Commits disk disk v t a (Err f) v
commits_refused disk v t a (refusals.Conflict key saw found) fresh out = (refl, out, fresh)
commits_refused disk v t a refusals.NoMemory fresh out = (refl, fresh)
commits_refused disk v t a refusals.DiskFault fresh out = absurd out
commits_refused disk v t a (refusals.Full size adding) fresh out = absurd out
commits_refused disk v t a refusals.Spent fresh out = absurd out

-- ---- a delivery that is made anew

pub redoes_ok : {D : Type 0} (before after : DiskState) (v w : View D) (a : ActivityId) (n : ℕ) → is_next_by is_delivery (state_of v) a.0 ≡ true
    → MakesWith before after v (choices.Deliver a) (Ok n) (claims_after v.claims a.0 (Ok n)) w → Redoes before after v a (Ok (redones.Entry n)) w
redoes_ok before after v w a n due made = (due, made)

pub redoes_err : {D : Type 0} (before after : DiskState) (v w : View D) (a : ActivityId) (f : StepFault) → is_next_by is_delivery (state_of v) a.0 ≡ true
    → MakesWith before after v (choices.Deliver a) (Err f) (claims_after v.claims a.0 (Err f)) w → Redoes before after v a (Err f) w
redoes_err before after v w a faults.DiskFault due made = (due, made)
redoes_err before after v w a (faults.Full size adding) due made = (due, made)
redoes_err before after v w a faults.NoMemory due made = (due, made)
redoes_err before after v w a faults.Spent due made = (due, made)
