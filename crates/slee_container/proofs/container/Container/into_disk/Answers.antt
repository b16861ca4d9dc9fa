use Rattle.slee_container.proofs.Opened.{steady_kept}
use Rattle.slee_container.proofs.container.Container.into_disk.Goals as goal

pub returns-clause-kept : goal.returns-clause-kept
returns-clause-kept g c =
    steady_kept (g.D.Disk.disk c.into_disk.result) c.self.inside.core c.self.inside.lines.now c.self.inside.skipped c.self.inside.taken c.self.inside.steps c.self.inside.claims.items c.args.self c.self.view_is
    c.into_disk.ensures.held c.self.invariant.0
