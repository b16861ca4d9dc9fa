use Rattle.std.proofs.Common.{sym, subst, [], List, ℕ}
use Rattle.slee_disk.proofs.Moments.{tells, leaves_what, leaves_then, on_ok, clean_told}
use Rattle.commit_journal.specs.Gate.{IsOpened}
use Rattle.commit_journal.specs.Rewriting.{IsRewritten}
use Rattle.commit_journal.proofs.Blanks.{closed_rewritten, written_rewritten}
use Rattle.commit_journal.proofs.Pending.{leaves_more}
use Rattle.commit_journal.proofs.blank.rewrite_side.Goals as goal

pub write_side-requires : goal.write_side-requires
write_side-requires g c told = (c.in_ok-close_side.ensures.blank (tells _ _ (sym c.close_side.ensures.told) told)).blank

pub returns-in_err-close_side-clause-any_moment : goal.returns-in_err-close_side-clause-any_moment
returns-in_err-close_side-clause-any_moment g c clean =
    let old = (g.D.Disk.disk c.args.disk.now).seen in
    leaves_what _ _ _ (IsRewritten c.args.side c.args.bytes.now old) (c.close_side.ensures.any_moment clean) (λ image is. closed_rewritten c.args.side c.args.bytes.now old image is)

pub returns-clause-any_moment : goal.returns-clause-any_moment
returns-clause-any_moment g c clean =
    let old = (g.D.Disk.disk c.args.disk.now).seen in
    let P = IsRewritten c.args.side c.args.bytes.now old in
    let first = leaves_what _ _ _ P (c.close_side.ensures.any_moment clean) (λ image is. closed_rewritten c.args.side c.args.bytes.now old image is) in
    let beside = (c.in_ok-close_side.ensures.blank (clean_told (g.D.Disk.disk c.args.disk.now) clean)).elsewhere in
    let second = leaves_what _ _ _ P (c.write_side.ensures.any_moment (c.in_ok-close_side.ensures.rest clean)) (λ image is. written_rewritten c.args.side c.args.bytes.now old _ image beside is) in
    leaves_then _ _ _ P first second

pub returns-clause-opened : goal.returns-clause-opened
returns-clause-opened g c told =
    on_ok c.write_side.result _ _ (c.write_side.ensures.opened (tells _ _ c.close_side.ensures.told told)) (λ opened.
    subst (λ (l : List ℕ). IsOpened c.args.side [] c.args.bytes.now l (g.D.Disk.disk c.write_side.new.disk).seen) (c.in_ok-close_side.ensures.blank told).elsewhere opened)

pub returns-clause-stays : goal.returns-clause-stays
returns-clause-stays g c = leaves_more c.args.side 0 _ _ _ c.close_side.ensures.stays c.write_side.ensures.stays
