use Rattle.std.proofs.Common.{Err, ap, refl, sym, subst, ◌∙◌}
use Rattle.router_durable.specs.Taking.{IsNotTaken}
use Rattle.router_durable.specs.declared.fault.OpenFault.{OpenFault}
use Rattle.router_durable.proofs.Takes.{begin_refused, begin_taken, begin_takes, idle_after, is_one, is_two, nothing_taken, nothing_takes, renewal_refused, renewal_taken, renewal_takes, start_one, start_two}
use Rattle.router_durable.proofs.opening.taken_over.Goals as goal

-- ---- it is begun

pub begin-requires-clause-current : goal.begin-requires-clause-current
begin-requires-clause-current g c = sym c.format.ensures.format ∙ c.if-format-eq2.true

pub returns-in-Ok-clause-start : goal.returns-in-Ok-clause-start
returns-in-Ok-clause-start g c = start_two c.args.state.now.state c.args.start.value.state _ _ (is_two _ _ c.format.ensures.format c.if-format-eq2.true) refl

pub returns-in-Ok-clause-taken : goal.returns-in-Ok-clause-taken
returns-in-Ok-clause-taken g c =
    let b = c.begin.ensures in
    let ok = c.in-Ok.ensures in
    begin_taken g.D.Disk.disk c.args.state.now.state c.args.journal.now c.begin.new.self (is_two _ _ c.format.ensures.format c.if-format-eq2.true) ok.ready.0 (b.batch ∙ c.requires.idle) b.still ok.ready.1 ok.begun

pub returns-in-Ok-clause-takes : goal.returns-in-Ok-clause-takes
returns-in-Ok-clause-takes g c =
    let b = c.begin.ensures in
    begin_takes g.D.Disk.disk c.args.state.now.state c.args.journal.now c.begin.new.self (is_two _ _ c.format.ensures.format c.if-format-eq2.true) b.runs.told b.runs.rising b.any_moment b.stays

pub returns-in-Err-clause-takes : goal.returns-in-Err-clause-takes
returns-in-Err-clause-takes g c =
    let b = c.begin.ensures in
    begin_takes g.D.Disk.disk c.args.state.now.state c.args.journal.now c.begin.new.self (is_two _ _ c.format.ensures.format c.if-format-eq2.true) b.runs.told b.runs.rising b.any_moment b.stays

pub returns-in-Err-clause-refused : goal.returns-in-Err-clause-refused
returns-in-Err-clause-refused g c =
    subst (λ (f : OpenFault). IsNotTaken g.D.Disk.disk c.args.state.now.state c.args.journal.now f c.begin.new.self) (sym c.begin_fault.ensures)
    (begin_refused g.D.Disk.disk c.args.state.now.state c.args.journal.now c.begin.new.self (is_two _ _ c.format.ensures.format c.if-format-eq2.true) c.in-Err.fault c.in-Err.ensures.refused
    (λ is. c.in-Err.ensures.runs.cause (ap (λ f. Err f) is)))

-- ---- it is renewed

pub returns-in_default-clause-takes : goal.returns-in_default-clause-takes
returns-in_default-clause-takes g c =
    nothing_takes g.D.Disk.disk c.args.state.now.state c.args.journal.now c.args.journal.now (is_one _ _ c.format.ensures.format c.if-format-eq2.false) c.requires.idle c.requires.stands

pub returns-in_default-clause-refused : goal.returns-in_default-clause-refused
returns-in_default-clause-refused g c =
    nothing_taken g.D.Disk.disk c.args.state.now.state c.args.journal.now c.args.journal.now (is_one _ _ c.format.ensures.format c.if-format-eq2.false) c.requires.idle

pub returns-in-Ok-renew-clause-start : goal.returns-in-Ok-renew-clause-start
returns-in-Ok-renew-clause-start g c = start_one c.args.state.now.state c.args.start.value.state _ _ (is_one _ _ c.format.ensures.format c.if-format-eq2.false) (ap (λ v. v.state) c.of.ensures)

pub returns-in-Ok-renew-clause-taken : goal.returns-in-Ok-renew-clause-taken
returns-in-Ok-renew-clause-taken g c =
    let r = c.renew.ensures in
    let ok = c.in-Ok-renew.ensures in
    renewal_taken g.D.Disk.disk c.args.state.now.state c.args.journal.now c.renew.new.self (is_one _ _ c.format.ensures.format c.if-format-eq2.false) c.requires.idle _ (c.deref.ensures.value ∙ c.in-Ok-snapshot_text.ensures.text) c.in-Ok-snapshot_text.ensures.short
    _ ok.goes_on r.others.1 ok.fits ok.renewed

pub returns-in-Ok-renew-clause-takes : goal.returns-in-Ok-renew-clause-takes
returns-in-Ok-renew-clause-takes g c =
    let r = c.renew.ensures in
    renewal_takes g.D.Disk.disk c.args.state.now.state c.args.journal.now c.renew.new.self (is_one _ _ c.format.ensures.format c.if-format-eq2.false) c.requires.idle _ (c.deref.ensures.value ∙ c.in-Ok-snapshot_text.ensures.text) c.in-Ok-snapshot_text.ensures.short
    c.in-Ok-renew.ensures.goes_on.empty r.runs.told r.runs.rising r.any_moment r.stays

pub returns-clause-takes : goal.returns-clause-takes
returns-clause-takes g c =
    let r = c.renew.ensures in
    renewal_takes g.D.Disk.disk c.args.state.now.state c.args.journal.now c.renew.new.self (is_one _ _ c.format.ensures.format c.if-format-eq2.false) c.requires.idle _ (c.deref.ensures.value ∙ c.in-Ok-snapshot_text.ensures.text) c.in-Ok-snapshot_text.ensures.short
    (idle_after c.args.journal.now c.renew.new.self c.requires.idle c.in-Err-renew.ensures.refused.unwritten) r.runs.told r.runs.rising r.any_moment r.stays

pub returns-clause-refused : goal.returns-clause-refused
returns-clause-refused g c =
    subst (λ (f : OpenFault). IsNotTaken g.D.Disk.disk c.args.state.now.state c.args.journal.now f c.renew.new.self) (sym c.begin_fault-in-Err-renew.ensures)
    (renewal_refused g.D.Disk.disk c.args.state.now.state c.args.journal.now c.renew.new.self (is_one _ _ c.format.ensures.format c.if-format-eq2.false) c.requires.idle _ (c.deref.ensures.value ∙ c.in-Ok-snapshot_text.ensures.text) c.in-Ok-snapshot_text.ensures.short
    c.in-Err-renew.fault c.in-Err-renew.ensures.refused (λ is. c.in-Err-renew.ensures.runs.cause (ap (λ f. Err f) is)))
