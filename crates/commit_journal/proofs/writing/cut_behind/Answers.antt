use Rattle.std.proofs.Common.{◌≡◌, ◌+◌, ◌∙◌, take, sym, subst, IsErr, IsTrue}
use Rattle.slee_disk.specs.declared.side.Side.{Side}
use Rattle.slee_disk.specs.Sides.{Sides, Cut, AtSide}
use Rattle.slee_disk.specs.Disk.{Changes}
use Rattle.slee_disk.proofs.Moments.{reached_look, looks_leave, leaves_then, tells, on_ok, clean_only, clean_look, clean_of, settled_both}
use Rattle.commit_journal.specs.Kept.{StandsFound, Keeps}
use Rattle.commit_journal.proofs.Writes.{found_keeps, cut_call, cut_stands}
use Rattle.commit_journal.proofs.Pending.{leaves_cut, leaves_look, leaves_more}
use Rattle.commit_journal.proofs.writing.cut_behind.Goals as goal

pub returns-in_err-sync-clause-any_moment : goal.returns-in_err-sync-clause-any_moment
returns-in_err-sync-clause-any_moment g c kept same clean found =
    let old = g.D.Disk.disk c.args.disk.now in
    looks_leave old _ _ (Keeps kept) (clean_only old clean) (found_keeps kept c.args.at old found) c.sync.ensures.looks

pub returns-in_err-cut-clause-any_moment : goal.returns-in_err-cut-clause-any_moment
returns-in_err-cut-clause-any_moment g c kept same clean found =
    let old = g.D.Disk.disk c.args.disk.now in
    let sure = g.D.Disk.disk c.sync.new.self in
    let looks = c.sync.ensures.looks in
    let first = looks_leave old sure _ (Keeps kept) (clean_only old clean) (found_keeps kept c.args.at old found) looks in
    let found-1 = subst (StandsFound kept c.args.at) (sym looks.seen) found in
    let changes = subst (λ (s : Side). Changes s (Cut (c.args.at + 1)) sure (g.D.Disk.disk c.cut.new.self) (IsErr c.cut.result)) (sym same) c.cut.ensures.changes in
    leaves_then old sure _ (Keeps kept) first (cut_call kept c.args.at sure found-1 _ _ (clean_only sure (clean_look old sure _ looks clean)) changes).leaves

pub returns-clause-any_moment : goal.returns-clause-any_moment
returns-clause-any_moment g c kept same clean found =
    let old = g.D.Disk.disk c.args.disk.now in
    let sure = g.D.Disk.disk c.sync.new.self in
    let looks = c.sync.ensures.looks in
    let first = looks_leave old sure _ (Keeps kept) (clean_only old clean) (found_keeps kept c.args.at old found) looks in
    let found-1 = subst (StandsFound kept c.args.at) (sym looks.seen) found in
    let changes = subst (λ (s : Side). Changes s (Cut (c.args.at + 1)) sure (g.D.Disk.disk c.cut.new.self) (IsErr c.cut.result)) (sym same) c.cut.ensures.changes in
    let second = reached_look _ _ _ _ _ (cut_call kept c.args.at sure found-1 _ _ (clean_only sure (clean_look old sure _ looks clean)) changes) c.sync-2.ensures.looks in
    leaves_then old sure _ (Keeps kept) first second.leaves

pub returns-clause-ready : goal.returns-clause-ready
returns-clause-ready g c kept same told found =
    let sure = g.D.Disk.disk c.sync.new.self in
    let looks = c.sync.ensures.looks in
    let told-1 = tells _ _ looks.passes.told told in
    let told-2 = tells _ _ c.cut.ensures.changes.passes.told told-1 in
    let found-1 = subst (StandsFound kept c.args.at) (sym looks.seen) found in
    let done = subst (λ (s : Side). AtSide s (λ a b. b ≡ take (c.args.at + 1) a) sure.seen (g.D.Disk.disk c.cut.new.self).seen) (sym same) (c.in_ok-cut.ensures.cut told-1) in
    on_ok c.sync-2.result _ _ (c.sync-2.ensures.settled.here told-2) (λ _. cut_stands kept c.args.at sure found-1 _ _ _ done c.sync-2.ensures.looks)

pub returns-clause-cut : goal.returns-clause-cut
returns-clause-cut g c told =
    let mid = (g.D.Disk.disk c.cut.new.self).seen in
    let looks = c.sync.ensures.looks in
    let told-1 = tells _ _ looks.passes.told told in
    let told-2 = tells _ _ c.cut.ensures.changes.passes.told told-1 in
    let done = subst (λ (s : Sides). AtSide c.args.side (λ a b. b ≡ take (c.args.at + 1) a) s mid) looks.seen (c.in_ok-cut.ensures.cut told-1) in
    on_ok c.sync-2.result _ _ (c.sync-2.ensures.settled.here told-2) (λ _.
    subst (λ (s : Sides). AtSide c.args.side (λ a b. b ≡ take (c.args.at + 1) a) (g.D.Disk.disk c.args.disk.now).seen s) (sym c.sync-2.ensures.looks.seen) done)

pub returns-clause-rest : goal.returns-clause-rest
returns-clause-rest g c told =
    let sure = g.D.Disk.disk c.sync.new.self in
    let new = g.D.Disk.disk c.sync-2.new.self in
    let told-1 = tells _ _ c.sync.ensures.looks.passes.told told in
    let told-2 = tells _ _ c.cut.ensures.changes.passes.told told-1 in
    let beside = subst (λ (s : Side). IsTrue (sure.settled s)) c.other_of.ensures (c.in_ok-sync.ensures.settled.here told) in
    let there = c.sync-2.ensures.settled.there ∙ c.cut.ensures.changes.settled_there in
    on_ok c.sync-2.result _ _ (c.sync-2.ensures.settled.here told-2) (λ here.
    clean_of new (tells _ _ c.sync-2.ensures.looks.passes.told told-2) (settled_both c.args.side new here (subst IsTrue (sym there) beside)))

-- ---- whatever was pending

pub returns-in_err-sync-clause-stays : goal.returns-in_err-sync-clause-stays
returns-in_err-sync-clause-stays g c = leaves_look c.args.side (c.args.at + 1) _ _ _ c.sync.ensures.looks

pub returns-in_err-cut-clause-stays : goal.returns-in_err-cut-clause-stays
returns-in_err-cut-clause-stays g c =
    let n = c.args.at + 1 in
    leaves_more c.args.side n _ _ _ (leaves_look c.args.side n _ _ _ c.sync.ensures.looks) (leaves_cut c.args.side n _ _ _ c.cut.ensures.changes)

pub returns-clause-stays : goal.returns-clause-stays
returns-clause-stays g c =
    let n = c.args.at + 1 in
    let cut = leaves_more c.args.side n _ _ _ (leaves_look c.args.side n _ _ _ c.sync.ensures.looks) (leaves_cut c.args.side n _ _ _ c.cut.ensures.changes) in
    leaves_more c.args.side n _ _ _ cut (leaves_look c.args.side n _ _ _ c.sync-2.ensures.looks)
