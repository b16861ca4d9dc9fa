use Rattle.std.proofs.Common.{◌≡◌, ap, refl, subst, sym, ◌∙◌}
use Rattle.router_durable.specs.Compacting.{Compacts}
use Rattle.router_durable.specs.Core.{is_down}
use Rattle.router_durable.proofs.Compacts.{Renewing, compacted, compacted_sound, full_compacted, none_waits, nothing_compacted, same_compacted, torn_ends, torn_sound}
use Rattle.router_durable.proofs.Opens.{rebased, same_origin, with_origin}
use Rattle.router_durable.proofs.Steps.{goes}
use Rattle.router_durable.proofs.Takes.{idle_after}
use Rattle.router_durable.proofs.stepping.Core.compact.Goals as goal

pub snapshot_text-requires : goal.snapshot_text-requires
snapshot_text-requires g c = c.self.invariant.own.deployed.parts

pub renew-requires : goal.renew-requires
renew-requires g c = goes _ (c.self.invariant.sound.stage (ap (λ v. is_down v.stop) c.self.view_is ∙ c.requires.live))

pub returns-in_default : goal.returns-in_default
returns-in_default g c =
    let up = ap (λ v. is_down v.stop) c.self.view_is ∙ c.requires.live in
    let none = ap (λ v. v.history) c.self.view_is ∙ c.requires.none in
    rw (← c.self.view_is) (nothing_compacted g.D.Disk.disk c.self.inside.journal _ _ _ _ _ _ c.self.invariant up none)

pub invariant_of-self : goal.invariant_of-self
invariant_of-self g c =
    let up = ap (λ v. is_down v.stop) c.self.view_is ∙ c.requires.live in
    let none = ap (λ v. v.history) c.self.view_is ∙ c.requires.none in
    let r = c.renew.ensures in
    let ok = c.in-Ok-renew.ensures in
    rebased c.renew.new.self _ _ _ _ _ _ _ _
    (same_origin g.D.Disk.disk _ _ _ _ _ _ _ _ _ _ _ (c.of-opened.ensures ∙ c.disk.ensures) c.of-read.ensures c.of-begun.ensures (ap (λ v. v.state) c.of-start.ensures))
    (compacted_sound g.D.Disk.disk c.self.inside.journal c.renew.new.self _ _ _ refl _ _ _ _ _ c.self.invariant up none _ (c.deref.ensures.value ∙ c.in-Ok.ensures.text) c.in-Ok.ensures.short
    (record { told = r.runs.told; rising = r.runs.rising; limit = r.others.1; leaves = r.any_moment }) ok.goes_on.empty c.in-Ok-renew.generation ok.goes_on ok.renewed ok.fits _ (c.self.invariant.sound.whole up) _ c.lifted-self-inside.ensures)

pub returns-in-Ok-renew : goal.returns-in-Ok-renew
returns-in-Ok-renew g c =
    let up = ap (λ v. is_down v.stop) c.self.view_is ∙ c.requires.live in
    let none = ap (λ v. v.history) c.self.view_is ∙ c.requires.none in
    let r = c.renew.ensures in
    let ok = c.in-Ok-renew.ensures in
    rw (← c.self.view_is) (with_origin _ _ _ _ _ _ c.renew.new.self _ _ _
    (same_origin g.D.Disk.disk _ _ _ _ _ _ _ _ _ _ _ (c.of-opened.ensures ∙ c.disk.ensures) c.of-read.ensures c.of-begun.ensures (ap (λ v. v.state) c.of-start.ensures))
    (compacted g.D.Disk.disk c.self.inside.journal c.renew.new.self _ _ _ refl _ _ _ _ _ c.self.invariant up none _ (c.deref.ensures.value ∙ c.in-Ok.ensures.text) c.in-Ok.ensures.short
    (record { told = r.runs.told; rising = r.runs.rising; limit = r.others.1; leaves = r.any_moment }) ok.goes_on.empty c.in-Ok-renew.generation ok.goes_on ok.renewed ok.fits _ (c.self.invariant.sound.whole up) _ c.lifted-self-inside.ensures))

pub invariant_of-self-in-Err-DiskFault : goal.invariant_of-self-in-Err-DiskFault
invariant_of-self-in-Err-DiskFault g c =
    let up = ap (λ v. is_down v.stop) c.self.view_is ∙ c.requires.live in
    let none = ap (λ v. v.history) c.self.view_is ∙ c.requires.none in
    let r = c.renew.ensures in
    let e = rw c.in-Err-DiskFault.field-0-is at c.in-Err-DiskFault.ensures in
    let refused = e.refused in
    let idle = idle_after c.self.inside.journal c.renew.new.self (none_waits c.self.inside.journal _ _ _ _ _ c.self.invariant.sound up none) refused.unwritten in
    torn_sound g.D.Disk.disk c.self.inside.journal c.renew.new.self _ _ _ refl _ _ _ _ _ c.self.invariant up none _ (c.deref.ensures.value ∙ c.in-Ok.ensures.text) c.in-Ok.ensures.short
    (record { told = r.runs.told; rising = r.runs.rising; limit = r.others.1; leaves = r.any_moment }) idle refused.left.1 (e.runs.cause refl) refused.cause

pub returns-in-Err-DiskFault : goal.returns-in-Err-DiskFault
returns-in-Err-DiskFault g c =
    let up = ap (λ v. is_down v.stop) c.self.view_is ∙ c.requires.live in
    let none = ap (λ v. v.history) c.self.view_is ∙ c.requires.none in
    let r = c.renew.ensures in
    let e = rw c.in-Err-DiskFault.field-0-is at c.in-Err-DiskFault.ensures in
    let refused = e.refused in
    let idle = idle_after c.self.inside.journal c.renew.new.self (none_waits c.self.inside.journal _ _ _ _ _ c.self.invariant.sound up none) refused.unwritten in
    rw (← c.self.view_is) (torn_ends g.D.Disk.disk c.self.inside.journal c.renew.new.self _ _ _ refl _ _ _ _ _ c.self.invariant up none _ (c.deref.ensures.value ∙ c.in-Ok.ensures.text) c.in-Ok.ensures.short
    (record { told = r.runs.told; rising = r.runs.rising; limit = r.others.1; leaves = r.any_moment }) idle refused.left.1 (e.runs.cause refl) refused.cause)

pub returns-in-Err-Full : goal.returns-in-Err-Full
returns-in-Err-Full g c =
    let up = ap (λ v. is_down v.stop) c.self.view_is ∙ c.requires.live in
    let none = ap (λ v. v.history) c.self.view_is ∙ c.requires.none in
    let refused = (rw c.in-Err-Full.field-0-is at c.in-Err-Full.ensures).refused in
    rw (← c.self.view_is) (full_compacted g.D.Disk.disk c.self.inside.journal c.renew.new.self _ _ _ _ _ _ c.self.invariant up none refused.left _ (c.deref.ensures.value ∙ c.in-Ok.ensures.text) _ _ refused.cause)

pub returns : goal.returns
returns g c =
    let up = ap (λ v. is_down v.stop) c.self.view_is ∙ c.requires.live in
    let none = ap (λ v. v.history) c.self.view_is ∙ c.requires.none in
    rw (← c.self.view_is) (same_compacted g.D.Disk.disk c.self.inside.journal c.renew.new.self _ _ _ _ _ _ c.self.invariant up none (rw c.in-Err-NoMemory.field-0-is at c.in-Err-NoMemory.ensures).refused.left)
