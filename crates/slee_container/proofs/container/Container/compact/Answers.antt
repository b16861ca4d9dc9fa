use Rattle.std.proofs.Common.{◌∙◌, ap, refl}
use Rattle.router_durable.specs.Core.{is_down}
use Rattle.slee_container.specs.Turns.{setup_over}
use Rattle.slee_container.proofs.Compacted.{compacts, steady_compacted}
use Rattle.slee_container.proofs.Turned.{no_entries, run_compacted}
use Rattle.slee_container.proofs.container.Container.compact.Goals as goal

pub compact-requires-clause-none : goal.compact-requires-clause-none
compact-requires-clause-none g c =
    let s = c.self.inside in
    no_entries (setup_over s.core s.lines.now s.skipped s.steps) s.core.history s.taken s.core.stop (ap (λ v. v.setup.steps) c.self.view_is ∙ c.requires.none) c.self.invariant.2

pub compact-requires-clause-live : goal.compact-requires-clause-live
compact-requires-clause-live g c = ap (λ v. is_down v.stop) c.self.view_is ∙ c.requires.live

pub invariant_of-self : goal.invariant_of-self
invariant_of-self g c =
    let s = c.self.inside in
    let none = ap (λ v. v.setup.steps) c.self.view_is ∙ c.requires.none in
    let empty = no_entries (setup_over s.core s.lines.now s.skipped s.steps) s.core.history s.taken s.core.stop none c.self.invariant.2 in (
      steady_compacted (g.D.Disk.disk s.core.disk) (g.D.Disk.disk c.compact.new.self.disk) s.core c.compact.new.self c.compact.result s.lines.now s.skipped s.taken s.claims.items empty c.compact.ensures.ends c.self.invariant.0,
      c.self.invariant.1,
      run_compacted (g.D.Disk.disk s.core.disk) (g.D.Disk.disk c.compact.new.self.disk) s.core c.compact.new.self c.compact.result s.lines.now s.skipped s.taken s.steps none c.compact.ensures c.self.invariant.2,
    )

pub returns : goal.returns
returns g c =
    let s = c.self.inside in
    compacts g.D.Disk.disk s.core c.compact.new.self c.compact.result s.lines.now s.skipped s.taken s.steps s.claims.items _ _ c.self.view_is refl c.compact.ensures
