use Rattle.std.proofs.Common.{◌≤◌, Ok, Err, ap, sym, refl, subst, ◌∙◌, length, arith}
use Rattle.router_plans.specs.Plans.{IsPlanOf}
use Rattle.router_state.specs.State.{State}
use Rattle.router_durable.specs.Core.{is_down, state_held}
use Rattle.router_durable.specs.declared.fault.StepFault.TheVariants as faults
use Rattle.router_durable.proofs.Steps.{adds_seen, at_disk, held, plan_full, plan_there, full_sound, lines_fit, plan_room, entries_after, added_sound, added_view, same_sound, same_held}
use Rattle.router_durable.proofs.stepping.Core.add.Goals as goal

-- ---- the record has no room

pub check_room-requires-clause-ready : goal.check_room-requires-clause-ready
check_room-requires-clause-ready g c = c.self.invariant.sound.stage (ap (λ v. is_down v.stop) c.self.view_is ∙ ap is_down c.requires.live)

pub check_room-requires-clause-short : goal.check_room-requires-clause-short
check_room-requires-clause-short g c = subst (λ n. n ≤ 131072) (sym (ap length c.payload.ensures)) (omega (arith, c.requires.made.short))

pub invariant_of-self : goal.invariant_of-self
invariant_of-self g c =
    let live = ap (λ v. v.stop) c.self.view_is ∙ c.requires.live in
    let made = subst (λ (s : State). IsPlanOf s c.args.plan.choice c.args.plan) (sym (ap (λ v. state_held v) c.self.view_is)) c.requires.made in
    full_sound c.self.inside.journal _ _ _ _ _ _ _ c.self.invariant live c.args.plan made _ (ap length c.payload.ensures) c.check_room.ensures.counted _ _ c.in-Err.ensures.full

pub returns-in-Err : goal.returns-in-Err
returns-in-Err g c =
    let live = ap (λ v. v.stop) c.self.view_is ∙ c.requires.live in
    let made = subst (λ (s : State). IsPlanOf s c.args.plan.choice c.args.plan) (sym (ap (λ v. state_held v) c.self.view_is)) c.requires.made in
    rw (← c.self.view_is) (refl, plan_full c.self.inside.journal _ _ _ _ _ _ _ c.self.invariant live c.args.plan made _ (ap length c.payload.ensures) c.check_room.ensures.counted _ _ c.in-Err.ensures.full)

-- ---- there is no memory for the state and the history, or for the batch

pub invariant_of-self-in_default : goal.invariant_of-self-in_default
invariant_of-self-in_default g c =
    same_sound c.self.inside.journal c.self.inside.journal _ _ _ _ _ _ _ _ _ refl c.reserve.ensures.history c.reserve.ensures.state c.self.invariant

pub returns-in_default : goal.returns-in_default
returns-in_default g c =
    let live = ap (λ v. v.stop) c.self.view_is ∙ c.requires.live in
    let made = subst (λ (s : State). IsPlanOf s c.args.plan.choice c.args.plan) (sym (ap (λ v. state_held v) c.self.view_is)) c.requires.made in
    let room = plan_room c.self.inside.journal _ _ _ _ _ _ _ c.self.invariant live c.args.plan made _ (ap length c.payload.ensures) c.check_room.ensures.counted c.in-Ok.ensures.fits in
    adds_seen _ _ (held _ c.self.inside.journal c.reserve.new.history.entries _ _) c.args.plan.choice (Err faults.NoMemory) c.self.view_is (same_held c.self.inside.journal c.self.inside.journal _ _ _ _ _ refl c.reserve.ensures.history, room)

pub returns-in_default-push : goal.returns-in_default-push
returns-in_default-push g c =
    let live = ap (λ v. v.stop) c.self.view_is ∙ c.requires.live in
    let made = subst (λ (s : State). IsPlanOf s c.args.plan.choice c.args.plan) (sym (ap (λ v. state_held v) c.self.view_is)) c.requires.made in
    let room = plan_room c.self.inside.journal _ _ _ _ _ _ _ c.self.invariant live c.args.plan made _ (ap length c.payload.ensures) c.check_room.ensures.counted c.in-Ok.ensures.fits in
    adds_seen _ _ (held _ c.push.new.self c.reserve.new.history.entries _ _) c.args.plan.choice (Err faults.NoMemory) c.self.view_is (same_held c.self.inside.journal c.push.new.self _ _ _ _ _ c.in_default-push.ensures.err c.reserve.ensures.history, room)

-- ---- it is added

pub push-requires-clause-short : goal.push-requires-clause-short
push-requires-clause-short g c = subst (λ n. n ≤ 131072) (sym (ap length c.payload-2.ensures)) (omega (arith, c.requires.made.short))

pub push-requires-clause-ready : goal.push-requires-clause-ready
push-requires-clause-ready g c = c.self.invariant.sound.stage (ap (λ v. is_down v.stop) c.self.view_is ∙ ap is_down c.requires.live)

pub apply-entry-requires-clause-made : goal.apply-entry-requires-clause-made
apply-entry-requires-clause-made g c =
    let live = ap (λ v. v.stop) c.self.view_is ∙ c.requires.live in
    let made = subst (λ (s : State). IsPlanOf s c.args.plan.choice c.args.plan) (sym (ap (λ v. state_held v) c.self.view_is)) c.requires.made in
    plan_there c.self.inside.journal _ _ _ _ _ _ _ c.self.invariant live c.args.plan made c.reserve.new.state.state c.reserve.ensures.state

pub apply-entry-requires-clause-room : goal.apply-entry-requires-clause-room
apply-entry-requires-clause-room g c = c.in-Ok-reserve.ensures.room

pub push-requires-2 : goal.push-requires-2
push-requires-2 g c =
    let live = ap (λ v. v.stop) c.self.view_is ∙ c.requires.live in
    let made = subst (λ (s : State). IsPlanOf s c.args.plan.choice c.args.plan) (sym (ap (λ v. state_held v) c.self.view_is)) c.requires.made in
    lines_fit c.self.inside.journal _ _ _ _ _ _ _ c.self.invariant live c.args.plan made c.reserve.new.history c.apply-entry.result c.reserve.new.state.state c.reserve.ensures.state c.apply-entry.ensures.entry c.in-Ok-reserve.ensures.lines

pub invariant_of-self-2 : goal.invariant_of-self-2
invariant_of-self-2 g c =
    let live = ap (λ v. v.stop) c.self.view_is ∙ c.requires.live in
    let made = subst (λ (s : State). IsPlanOf s c.args.plan.choice c.args.plan) (sym (ap (λ v. state_held v) c.self.view_is)) c.requires.made in
    let grown = entries_after c.self.inside.journal _ _ _ _ _ _ _ c.self.invariant live c.args.plan made c.reserve.new.history.entries c.push-2.new.self.entries c.apply-entry.result c.reserve.new.state.state
    c.reserve.ensures.history c.push-2.ensures.entries c.reserve.ensures.state c.apply-entry.ensures.entry in
    at_disk g.D.Disk.disk c.push.new.self c.self.inside.journal.disk _ _ _ _ _ _ (ap (λ v. v.disk) c.in-Ok-push.ensures.ok)
    (added_sound c.self.inside.journal _ _ _ _ _ _ _ c.self.invariant live c.args.plan made c.push.new.self c.payload-2.result.now c.payload-2.ensures c.in-Ok-push.ensures.ok c.push-2.new.self.entries grown
    c.reserve.new.state.state c.apply-entry.new.self.state c.reserve.ensures.state c.apply-entry.ensures.state c.apply-entry.ensures.own)

pub returns : goal.returns
returns g c =
    let live = ap (λ v. v.stop) c.self.view_is ∙ c.requires.live in
    let made = subst (λ (s : State). IsPlanOf s c.args.plan.choice c.args.plan) (sym (ap (λ v. state_held v) c.self.view_is)) c.requires.made in
    let room = plan_room c.self.inside.journal _ _ _ _ _ _ _ c.self.invariant live c.args.plan made _ (ap length c.payload.ensures) c.check_room.ensures.counted c.in-Ok.ensures.fits in
    let grown = entries_after c.self.inside.journal _ _ _ _ _ _ _ c.self.invariant live c.args.plan made c.reserve.new.history.entries c.push-2.new.self.entries c.apply-entry.result c.reserve.new.state.state
    c.reserve.ensures.history c.push-2.ensures.entries c.reserve.ensures.state c.apply-entry.ensures.entry in
    let view = added_view c.self.inside.journal _ _ _ _ _ _ _ c.self.invariant live c.args.plan made c.push.new.self c.payload-2.result.now c.payload-2.ensures c.in-Ok-push.ensures.ok c.push-2.new.self.entries grown
    c.reserve.new.state.state c.apply-entry.new.self.state c.reserve.ensures.state c.apply-entry.ensures.state in
    adds_seen _ _ (held _ c.push.new.self c.push-2.new.self.entries _ _) c.args.plan.choice (Ok tt) c.self.view_is (view, room)
