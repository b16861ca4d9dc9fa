use Rattle.std.proofs.Common.{IsTrue, sym, subst, refl}
use Rattle.commit_journal.specs.Kept.{Stands}
use Rattle.deploy_model.specs.Resolving.{deployed_of}
use Rattle.script_types.specs.ProgramOf.{kept_program}
use Rattle.router_durable.specs.Facts.{initial_of}
use Rattle.router_durable.specs.Opening.{IsRefused}
use Rattle.router_durable.specs.declared.fault.OpenFault.{OpenFault}
use Rattle.router_durable.proofs.Opens.{Opened, opens_then, refused_by_journal, refused_by_replay, refused_then, same_origin, sound_opened, with_fields, with_held}
use Rattle.router_durable.proofs.Replays.{replayed_deployment}
use Rattle.router_durable.proofs.stepping.Core.open.Goals as goal

-- ---- it isn't opened

pub returns-in-Err-clause-refused : goal.returns-in-Err-clause-refused
returns-in-Err-clause-refused g c =
    let first = initial_of c.args.deployment.now.parts c.args.deployment.now.codes in
    let e = c.in-Err.ensures in
    subst (λ (f : OpenFault). IsRefused (g.D.Disk.disk c.args.disk) (g.D.Disk.disk c.in-Err.disk) first c.args.bytes.now c.args.limit f) (sym c.open_fault.ensures)
    (refused_by_journal (g.D.Disk.disk c.args.disk) (g.D.Disk.disk c.in-Err.disk) first c.args.bytes.now c.args.limit c.in-Err.fault e.cause e.looks_err e.any_moment_err)

pub returns-in-Err-replayed-clause-refused : goal.returns-in-Err-replayed-clause-refused
returns-in-Err-replayed-clause-refused g c =
    let d = deployed_of c.args.deployment.now.parts in
    let p = kept_program c.args.deployment.now.codes in
    let old = g.D.Disk.disk c.args.disk in
    let j = c.in-Ok.found in
    let ok = c.in-Ok.ensures in
    let o : Opened g.D.Disk.disk old c.args.bytes.now j = record { opened = λ told. (ok.found told).read; records = λ told. (ok.found told).located_are; named = ok.opened.named; plain = ok.opened.plain; seen = λ told. (ok.found told).stands; looks = ok.looks; stays = ok.any_moment; idle = ok.opened.empty } in
    subst (λ (x : g.row.D.Denot). IsRefused old (g.D.Disk.disk x) (initial_of c.args.deployment.now.parts c.args.deployment.now.codes) c.args.bytes.now c.args.limit c.in-Err-replayed.fault) (sym c.into_disk.ensures)
    (refused_by_replay g.D.Disk.disk old d p c.args.bytes.now c.args.limit j o c.in-Err-replayed.fault c.in-Err-replayed.ensures.bad)

pub returns-in-Err-taken_over-clause-refused : goal.returns-in-Err-taken_over-clause-refused
returns-in-Err-taken_over-clause-refused g c =
    let d = deployed_of c.args.deployment.now.parts in
    let p = kept_program c.args.deployment.now.codes in
    let old = g.D.Disk.disk c.args.disk in
    let j = c.in-Ok.found in
    let ok = c.in-Ok.ensures in
    let o : Opened g.D.Disk.disk old c.args.bytes.now j = record { opened = λ told. (ok.found told).read; records = λ told. (ok.found told).located_are; named = ok.opened.named; plain = ok.opened.plain; seen = λ told. (ok.found told).stands; looks = ok.looks; stays = ok.any_moment; idle = ok.opened.empty } in
    subst (λ (x : g.row.D.Denot). IsRefused old (g.D.Disk.disk x) (initial_of c.args.deployment.now.parts c.args.deployment.now.codes) c.args.bytes.now c.args.limit c.in-Err-taken_over.fault) (sym c.into_disk-in-Err-taken_over.ensures)
    (refused_then g.D.Disk.disk c.args.disk d p c.requires.keepable c.args.bytes.now j o _ _ c.in-Ok-replayed.ensures.ok c.taken_over.new.journal c.taken_over.ensures.takes c.args.limit ok.opened.limited c.in-Err-taken_over.fault c.in-Err-taken_over.ensures.refused)

-- ---- it is opened

pub invariant_of-result : goal.invariant_of-result
invariant_of-result g c =
    let d = deployed_of c.args.deployment.now.parts in
    let p = kept_program c.args.deployment.now.codes in
    let old = g.D.Disk.disk c.args.disk in
    let j = c.in-Ok.found in
    let ok = c.in-Ok.ensures in
    let o : Opened g.D.Disk.disk old c.args.bytes.now j = record { opened = λ told. (ok.found told).read; records = λ told. (ok.found told).located_are; named = ok.opened.named; plain = ok.opened.plain; seen = λ told. (ok.found told).stands; looks = ok.looks; stays = ok.any_moment; idle = ok.opened.empty } in
    with_fields c.taken_over.new.journal (g.D.Disk.disk c.taken_over.new.journal.disk) _ _ _ _ _
    (same_origin g.D.Disk.disk _ _ _ _ _ _ _ _ _ _ _ c.of-opened.ensures c.of-read.ensures c.of-begun.ensures c.in-Ok-taken_over.ensures.start)
    c.new.ensures
    (sound_opened g.D.Disk.disk c.args.disk d p c.requires.keepable c.args.bytes.now j o _ _ c.in-Ok-replayed.ensures.ok c.taken_over.new.journal c.taken_over.ensures.takes c.in-Ok-taken_over.ensures.taken c.args.limit ok.opened.limited
    c.args.deployment.now _ refl c.in-Ok-replayed.ensures.own)

pub returns-clause-opened : goal.returns-clause-opened
returns-clause-opened g c =
    let d = deployed_of c.args.deployment.now.parts in
    let p = kept_program c.args.deployment.now.codes in
    let old = g.D.Disk.disk c.args.disk in
    let j = c.in-Ok.found in
    let ok = c.in-Ok.ensures in
    let o : Opened g.D.Disk.disk old c.args.bytes.now j = record { opened = λ told. (ok.found told).read; records = λ told. (ok.found told).located_are; named = ok.opened.named; plain = ok.opened.plain; seen = λ told. (ok.found told).stands; looks = ok.looks; stays = ok.any_moment; idle = ok.opened.empty } in
    with_held old (g.D.Disk.disk c.taken_over.new.journal.disk) (initial_of c.args.deployment.now.parts c.args.deployment.now.codes) c.args.bytes.now c.args.limit c.taken_over.new.journal _ _ _
    (same_origin g.D.Disk.disk _ _ _ _ _ _ _ _ _ _ _ c.of-opened.ensures c.of-read.ensures c.of-begun.ensures c.in-Ok-taken_over.ensures.start)
    c.new.ensures
    (opens_then g.D.Disk.disk c.args.disk d p c.requires.keepable c.args.bytes.now j o _ _ c.in-Ok-replayed.ensures.ok c.taken_over.new.journal c.taken_over.ensures.takes c.in-Ok-taken_over.ensures.taken c.args.limit ok.opened.limited)

-- ---- what its calls ask

pub replayed-requires-clause-held : goal.replayed-requires-clause-held
replayed-requires-clause-held g c = c.requires.keepable.held

pub taken_over-requires-clause-running : goal.taken_over-requires-clause-running
taken_over-requires-clause-running g c = c.in-Ok.ensures.opened.running

pub taken_over-requires-clause-idle : goal.taken_over-requires-clause-idle
taken_over-requires-clause-idle g c = c.in-Ok.ensures.opened.empty

pub taken_over-requires-clause-stands : goal.taken_over-requires-clause-stands
taken_over-requires-clause-stands g c told =
    let looks = c.in-Ok.ensures.looks in
    let before = subst IsTrue looks.passes.told told in
    subst (Stands c.in-Ok.found.stage c.in-Ok.found.kept) (sym looks.seen) (c.in-Ok.ensures.found before).stands

pub taken_over-requires-clause-deployed : goal.taken_over-requires-clause-deployed
taken_over-requires-clause-deployed g c =
    sym (replayed_deployment (deployed_of c.args.deployment.now.parts) (kept_program c.args.deployment.now.codes) c.requires.keepable _ _ _ _ c.in-Ok-replayed.ensures.ok)
