use Rattle.router_durable.specs.Facts.{initial_of}
use Rattle.slee_container.proofs.Opened.{kept_begun, starts_begun, well_opened}
use Rattle.slee_container.proofs.Turned.{documented, untorn}
use Rattle.slee_container.proofs.container.Container.open.Goals as goal

pub returns-clause-starts : goal.returns-clause-starts
returns-clause-starts g c =
    starts_begun g.D.Disk.disk c.in_ok-core.core c.args.lines.now c.args.mode c.args.limits (g.D.Disk.disk c.args.disk) (initial_of c.args.deployment.now.parts c.args.deployment.now.codes) c.args.bytes.now
    c.in_ok-core.ensures.opened c.begun.result c.begun.ensures

pub returns-clause-kept : goal.returns-clause-kept
returns-clause-kept g c =
    kept_begun g.D.Disk.disk c.in_ok-core.core c.args.lines.now c.args.mode c.args.limits (g.D.Disk.disk c.args.disk) (initial_of c.args.deployment.now.parts c.args.deployment.now.codes) c.args.bytes.now
    c.in_ok-core.ensures.opened c.begun.result c.begun.ensures

pub begun-requires-clause-none : goal.begun-requires-clause-none
begun-requires-clause-none g c = c.in_ok-core.ensures.opened.history

pub begun-requires-clause-well : goal.begun-requires-clause-well
begun-requires-clause-well g c =
    well_opened (g.D.Disk.disk c.args.disk) (g.D.Disk.disk c.in_ok-core.core.disk) (initial_of c.args.deployment.now.parts c.args.deployment.now.codes) c.args.bytes.now c.args.limits.journal c.in_ok-core.core
    c.in_ok-core.ensures.opened

pub begun-requires-clause-live : goal.begun-requires-clause-live
begun-requires-clause-live g c = c.in_ok-core.ensures.opened.stop

pub begun-requires-clause-document : goal.begun-requires-clause-document
begun-requires-clause-document g c =
    documented (g.D.Disk.disk c.args.disk) (g.D.Disk.disk c.in_ok-core.core.disk) c.args.bytes.now c.args.limits.journal c.in_ok-core.core c.args.deployment.now c.in_ok-core.ensures.opened c.requires.read

pub begun-requires-clause-whole : goal.begun-requires-clause-whole
begun-requires-clause-whole g c =
    untorn (g.D.Disk.disk c.args.disk) (g.D.Disk.disk c.in_ok-core.core.disk) (initial_of c.args.deployment.now.parts c.args.deployment.now.codes) c.args.bytes.now c.args.limits.journal c.in_ok-core.core c.in_ok-core.ensures.opened
