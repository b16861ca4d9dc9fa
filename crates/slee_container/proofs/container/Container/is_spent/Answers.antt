use Rattle.std.proofs.Common.{◌≡◌, ap, subst, None, false}
use Rattle.router_durable.specs.Core.{is_down}
use Rattle.router_durable.specs.Facts.{IsCrashSafe}
use Rattle.slee_container.proofs.container.Container.is_spent.Goals as goal

pub returns-then-self-len-clause-safe : goal.returns-then-self-len-clause-safe
returns-then-self-len-clause-safe g c = subst (λ v. IsCrashSafe v.setup.origin v.history v.acked (g.D.Disk.disk v.disk)) c.self.view_is c.held.ensures.safe

pub returns-then-self-len-clause-whole : goal.returns-then-self-len-clause-whole
returns-then-self-len-clause-whole g c = subst (λ v. v.stop ≡ None → v.setup.origin.torn ≡ false) c.self.view_is (λ live. c.held.ensures.whole (ap is_down live))

pub returns-else-self-len-clause-safe : goal.returns-else-self-len-clause-safe
returns-else-self-len-clause-safe g c = subst (λ v. IsCrashSafe v.setup.origin v.history v.acked (g.D.Disk.disk v.disk)) c.self.view_is c.held.ensures.safe

pub returns-else-self-len-clause-whole : goal.returns-else-self-len-clause-whole
returns-else-self-len-clause-whole g c = subst (λ v. v.stop ≡ None → v.setup.origin.torn ≡ false) c.self.view_is (λ live. c.held.ensures.whole (ap is_down live))
