use Rattle.std.proofs.Common.{◌∙◌, IsTrue, ap, sym, subst, arith, [], List, ℕ}
use Rattle.slee_disk.specs.declared.side.Side.{Side}
use Rattle.slee_disk.specs.Sides.{on, other}
use Rattle.slee_disk.proofs.Moments.{tells, on_ok, clean_told, clean_only, clean_look}
use Rattle.commit_journal.specs.Gate.{IsOpened}
use Rattle.commit_journal.specs.Blank.{IsBlankOn}
use Rattle.commit_journal.proofs.Opening.{clean_again, clean_end}
use Rattle.commit_journal.proofs.Blanks.{sure_start, sure_shut, sure_open, one_ends}
use Rattle.commit_journal.proofs.Pending.{leaves_look, leaves_more}
use Rattle.commit_journal.proofs.blank.write_side.Goals as goal

pub shut_blank-requires : goal.shut_blank-requires
shut_blank-requires g c told =
    let looks = c.sync.ensures.looks in
    subst (IsBlankOn c.args.side) (sym looks.seen) (c.requires (tells _ _ (sym looks.passes.told) told))

pub open_gate-requires : goal.open_gate-requires
open_gate-requires g c = record {
  room = omega arith;
  shut = λ told. one_ends c.args.side _ _ (c.in_ok-shut_blank.ensures.shut (tells _ _ (sym c.shut_blank.ensures.told) told));
}

pub returns-in_err-sync-clause-any_moment : goal.returns-in_err-sync-clause-any_moment
returns-in_err-sync-clause-any_moment g c clean =
    let old = g.D.Disk.disk c.args.disk.now in
    sure_start c.args.side c.args.bytes.now old _ _ c.sync.ensures.looks (c.requires (clean_told old clean)) (clean_only old clean)

pub returns-in_err-shut_blank-clause-any_moment : goal.returns-in_err-shut_blank-clause-any_moment
returns-in_err-shut_blank-clause-any_moment g c clean =
    let old = g.D.Disk.disk c.args.disk.now in
    let looks = c.sync.ensures.looks in
    sure_shut c.args.side c.args.bytes.now old _ _ looks (c.requires (clean_told old clean)) (clean_only old clean) _ (c.shut_blank.ensures.any_moment (clean_look old _ _ looks clean))

pub returns-clause-any_moment : goal.returns-clause-any_moment
returns-clause-any_moment g c clean =
    let old = g.D.Disk.disk c.args.disk.now in
    let sure = g.D.Disk.disk c.sync.new.self in
    let shut = g.D.Disk.disk c.shut_blank.new.disk in
    let looks = c.sync.ensures.looks in
    let clean-1 = clean_look old sure _ looks clean in
    let told-1 = clean_told sure clean-1 in
    let clean-2 = clean_again c.args.side sure shut clean-1 c.shut_blank.ensures.told (c.in_ok-shut_blank.ensures.settled.here told-1) c.shut_blank.ensures.settled.there in
    sure_open c.args.side c.args.bytes.now old sure _ looks (c.requires (clean_told old clean)) (clean_only old clean) shut _
    (c.shut_blank.ensures.any_moment clean-1) (c.in_ok-shut_blank.ensures.shut told-1).elsewhere (c.open_gate.ensures.any_moment clean-2)

pub returns-clause-opened : goal.returns-clause-opened
returns-clause-opened g c told =
    let looks = c.sync.ensures.looks in
    let told-1 = tells _ _ looks.passes.told told in
    let beside = (c.in_ok-shut_blank.ensures.shut told-1).elsewhere ∙ ap (on (other c.args.side)) looks.seen in
    on_ok c.open_gate.result _ _ (c.open_gate.ensures.opened (tells _ _ c.shut_blank.ensures.told told-1)) (λ opened.
    subst (λ (l : List ℕ). IsOpened c.args.side [] c.args.bytes.now l (g.D.Disk.disk c.open_gate.new.disk).seen) beside opened)

pub returns-clause-rest : goal.returns-clause-rest
returns-clause-rest g c told =
    let sure = g.D.Disk.disk c.sync.new.self in
    let told-1 = tells _ _ c.sync.ensures.looks.passes.told told in
    let beside = subst (λ (s : Side). IsTrue (sure.settled s)) c.other_of.ensures (c.in_ok-sync.ensures.settled.here told) in
    clean_end c.args.side (g.D.Disk.disk c.shut_blank.new.disk) _ c.open_gate.result c.open_gate.ensures.settled c.open_gate.ensures.told
    (tells _ _ c.shut_blank.ensures.told told-1) (subst IsTrue (sym c.shut_blank.ensures.settled.there) beside)

-- ---- whatever was pending

pub returns-in_err-sync-clause-stays : goal.returns-in_err-sync-clause-stays
returns-in_err-sync-clause-stays g c = leaves_look c.args.side 0 _ _ _ c.sync.ensures.looks

pub returns-in_err-shut_blank-clause-stays : goal.returns-in_err-shut_blank-clause-stays
returns-in_err-shut_blank-clause-stays g c = leaves_more c.args.side 0 _ _ _ (leaves_look c.args.side 0 _ _ _ c.sync.ensures.looks) c.shut_blank.ensures.stays

pub returns-clause-stays : goal.returns-clause-stays
returns-clause-stays g c =
    let shut = leaves_more c.args.side 0 _ _ _ (leaves_look c.args.side 0 _ _ _ c.sync.ensures.looks) c.shut_blank.ensures.stays in
    leaves_more c.args.side 0 _ _ _ shut c.open_gate.ensures.stays
