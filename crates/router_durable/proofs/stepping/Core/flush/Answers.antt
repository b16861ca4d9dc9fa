use Rattle.std.proofs.Common.{ap, refl, ◌∙◌}
use Rattle.router_durable.specs.Core.{is_down}
use Rattle.router_durable.proofs.Steps.{Flushed, Writes, goes, failed_sound, failed_view, flush_leaves, written_sound, written_view}
use Rattle.router_durable.proofs.stepping.Core.flush.Goals as goal

pub flush-requires : goal.flush-requires
flush-requires g c = goes _ (c.self.invariant.sound.stage (ap (λ v. is_down v.stop) c.self.view_is ∙ c.requires.live))

pub invariant_of-self : goal.invariant_of-self
invariant_of-self g c =
    let up = ap (λ v. is_down v.stop) c.self.view_is ∙ c.requires.live in
    let f = c.flush.ensures in
    let flushed : Flushed g.D.Disk.disk c.self.inside.journal c.flush.new.self = record { head = f.still.head; limit = f.still.limit; told = f.runs.told; rising = f.runs.rising; leaves = f.any_moment } in
    let ok = c.in-Ok.ensures in
    let done : Writes g.D.Disk.disk c.self.inside.journal c.flush.new.self = record { stage = ok.ok.0; batch = ok.ok.1; kept = λ told. ap (λ v. v.kept) (ok.flushed told).same; now = λ clean. (ok.acknowledged clean).images; seen = λ told. (ok.flushed told).seen; rest = λ clean. (ok.acknowledged clean).clean } in
    written_sound g.D.Disk.disk c.self.inside.journal c.flush.new.self _ _ _ _ _ _ c.self.invariant up flushed _ c.len-self-inside.ensures done

pub invariant_of-self-in-Err : goal.invariant_of-self-in-Err
invariant_of-self-in-Err g c =
    let up = ap (λ v. is_down v.stop) c.self.view_is ∙ c.requires.live in
    let f = c.flush.ensures in
    let flushed : Flushed g.D.Disk.disk c.self.inside.journal c.flush.new.self = record { head = f.still.head; limit = f.still.limit; told = f.runs.told; rising = f.runs.rising; leaves = f.any_moment } in
    failed_sound g.D.Disk.disk c.self.inside.journal c.flush.new.self _ _ _ _ _ _ c.self.invariant up flushed (c.in-Err.ensures.runs.cause refl)

pub returns-in-Ok-clause-flush : goal.returns-in-Ok-clause-flush
returns-in-Ok-clause-flush g c =
    let up = ap (λ v. is_down v.stop) c.self.view_is ∙ c.requires.live in
    let f = c.flush.ensures in
    let flushed : Flushed g.D.Disk.disk c.self.inside.journal c.flush.new.self = record { head = f.still.head; limit = f.still.limit; told = f.runs.told; rising = f.runs.rising; leaves = f.any_moment } in
    rw (← c.self.view_is) (written_view g.D.Disk.disk c.self.inside.journal c.flush.new.self _ _ _ _ _ _ c.self.invariant up flushed _ c.len-self-inside.ensures)

pub returns-in-Err-clause-flush : goal.returns-in-Err-clause-flush
returns-in-Err-clause-flush g c =
    let up = ap (λ v. is_down v.stop) c.self.view_is ∙ c.requires.live in
    let f = c.flush.ensures in
    let flushed : Flushed g.D.Disk.disk c.self.inside.journal c.flush.new.self = record { head = f.still.head; limit = f.still.limit; told = f.runs.told; rising = f.runs.rising; leaves = f.any_moment } in
    rw (← c.self.view_is) (failed_view g.D.Disk.disk c.self.inside.journal c.flush.new.self _ _ _ _ _ _ c.self.invariant up flushed)

pub returns-in-Ok-clause-any_moment : goal.returns-in-Ok-clause-any_moment
returns-in-Ok-clause-any_moment g c =
    let up = ap (λ v. is_down v.stop) c.self.view_is ∙ c.requires.live in
    let f = c.flush.ensures in
    let flushed : Flushed g.D.Disk.disk c.self.inside.journal c.flush.new.self = record { head = f.still.head; limit = f.still.limit; told = f.runs.told; rising = f.runs.rising; leaves = f.any_moment } in
    rw (← c.self.view_is) (flush_leaves g.D.Disk.disk c.self.inside.journal c.flush.new.self _ _ _ _ c.self.invariant.sound up flushed)

pub returns-in-Err-clause-any_moment : goal.returns-in-Err-clause-any_moment
returns-in-Err-clause-any_moment g c =
    let up = ap (λ v. is_down v.stop) c.self.view_is ∙ c.requires.live in
    let f = c.flush.ensures in
    let flushed : Flushed g.D.Disk.disk c.self.inside.journal c.flush.new.self = record { head = f.still.head; limit = f.still.limit; told = f.runs.told; rising = f.runs.rising; leaves = f.any_moment } in
    rw (← c.self.view_is) (flush_leaves g.D.Disk.disk c.self.inside.journal c.flush.new.self _ _ _ _ c.self.invariant.sound up flushed)
