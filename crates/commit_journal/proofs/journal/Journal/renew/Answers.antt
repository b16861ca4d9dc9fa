use Rattle.std.proofs.Common.{◌≡◌, ◌≢◌, ap, sym, ◌∙◌, subst, List, ℕ, []}
use Rattle.slee_disk.specs.Disk.{LeavesOnly}
use Rattle.slee_disk.proofs.Moments.{clean_told, on_ok, tells}
use Rattle.commit_journal.specs.declared.stage.Stage.TheVariants.{Ready}
use Rattle.commit_journal.specs.Beginning.{MayLeave}
use Rattle.commit_journal.specs.Kept.{StandsOrRenewed, side_renewed}
use Rattle.commit_journal.specs.Journal.{IsRenewed, GoesOn}
use Rattle.commit_journal.proofs.Sound.{runs, sound_seen, ready_if, nothing_done}
use Rattle.commit_journal.proofs.Recovers.{if_ok}
use Rattle.commit_journal.proofs.Pending.{leaves_itself}
use Rattle.commit_journal.proofs.Renewals.{moved, renewed_idle, goes_through}
use Rattle.commit_journal.proofs.Bytes.{renewed_through}
use Rattle.commit_journal.proofs.journal.Journal.renew.Goals as goal

pub returns-in_err-bytes-clause-any_moment : goal.returns-in_err-bytes-clause-any_moment
returns-in_err-bytes-clause-any_moment g c =
    let disk = g.D.Disk.disk c.self.inside.disk in
    let running = runs _ _ (ap (λ v. v.stage) c.self.view_is) c.requires in
    rw (← c.self.view_is) (λ clean.
    let stands = sound_seen _ _ _ _ _ _ c.self.invariant running (clean_told disk clean) in
    record {
      flushed = λ none. renewed_idle g.D.Disk.disk _ _ _ _ c.self.inside.disk clean stands none;
      unflushed = λ some. nothing_done _ _ _ disk clean stands;
    })

pub returns-in_err-kept-clause-any_moment : goal.returns-in_err-kept-clause-any_moment
returns-in_err-kept-clause-any_moment g c =
    let disk = g.D.Disk.disk c.self.inside.disk in
    let running = runs _ _ (ap (λ v. v.stage) c.self.view_is) c.requires in
    rw (← c.self.view_is) (λ clean.
    let stands = sound_seen _ _ _ _ _ _ c.self.invariant running (clean_told disk clean) in
    record {
      flushed = λ none. renewed_idle g.D.Disk.disk _ _ _ _ c.self.inside.disk clean stands none;
      unflushed = λ some. nothing_done _ _ _ disk clean stands;
    })

pub returns-clause-any_moment : goal.returns-clause-any_moment
returns-clause-any_moment g c clean =
    let first = g.D.Disk.disk c.args.self.now.disk in
    let mid = g.D.Disk.disk c.flush.new.self.disk in
    let last = g.D.Disk.disk c.switch.new.self.disk in
    record {
      flushed = λ none. record {
        flushed = c.flush.new.self.disk;
        first = c.flush.ensures.any_moment clean;
        second = subst (λ v. LeavesOnly mid last (StandsOrRenewed v.stage v.kept c.args.snapshot.now)) (c.in_ok-flush.ensures.flushed (clean_told first clean)).same
            (subst (λ (l : List ℕ). LeavesOnly mid last (StandsOrRenewed c.flush.new.self.stage c.flush.new.self.kept l)) c.in_ok-kept.ensures (c.switch.ensures.any_moment (c.in_ok-flush.ensures.acknowledged clean).clean));
        at_once = λ idle. ap (λ v. v.disk) (c.flush.ensures.idle idle).0;
      };
      unflushed = λ some. absurd (some (c.switch.ensures.others.0 ∙ c.in_ok-flush.ensures.ok.1));
    }

pub returns-clause-renewed : goal.returns-clause-renewed
returns-clause-renewed g c told =
    let running = runs _ _ (ap (λ v. v.stage) c.self.view_is) c.requires in
    let is_ready : c.args.self.now.batch ≢ [] → c.args.self.now.stage ≡ Ready = λ some.
    sym (ap (λ v. v.stage) c.self.view_is) ∙ ready_if _ _ _ _ _ _ c.self.invariant running (moved _ _ (λ v. v.batch ≢ []) c.self.view_is some) in
    let idle = λ (none : c.args.self.now.batch ≡ []). (c.flush.ensures.idle none).0 in
    on_ok c.switch.result _ _ (c.switch.ensures.renewed (tells _ _ c.flush.ensures.runs.told told)) (λ renewal.
    renewed_through g.D.Disk.disk c.args.self.now c.flush.new.self c.switch.new.self c.args.snapshot.now (c.in_ok-flush.ensures.flushed told) idle is_ready
    (subst (λ (l : List ℕ). IsRenewed g.D.Disk.disk c.flush.new.self l c.switch.new.self) c.in_ok-kept.ensures renewal))

pub returns-clause-goes_on : goal.returns-clause-goes_on
returns-clause-goes_on g c =
    if_ok c.switch.result _ _ c.switch.ensures.goes_on (λ n goes.
    goes_through c.args.self.now c.flush.new.self c.switch.new.self c.args.snapshot.now n c.in_ok-flush.ensures.ok.0 c.flush.ensures.still
    (subst (λ (l : List ℕ). GoesOn c.flush.new.self l c.switch.new.self n) c.in_ok-kept.ensures goes))

pub returns-in_err-bytes-clause-stays : goal.returns-in_err-bytes-clause-stays
returns-in_err-bytes-clause-stays g c = rw (← c.self.view_is) (λ none. leaves_itself _ 0 _ _ (λ image now. now))

pub returns-in_err-kept-clause-stays : goal.returns-in_err-kept-clause-stays
returns-in_err-kept-clause-stays g c = rw (← c.self.view_is) (λ none. leaves_itself _ 0 _ _ (λ image now. now))

pub returns-in_err-flush-clause-stays : goal.returns-in_err-flush-clause-stays
returns-in_err-flush-clause-stays g c none =
    let same = (c.flush.ensures.idle none).0 in
    leaves_itself _ 0 _ _ (λ image now. subst (λ v. (g.D.Disk.disk v.disk).images image) same now)

pub returns-clause-stays : goal.returns-clause-stays
returns-clause-stays g c none =
    subst (λ v. MayLeave (side_renewed v.stage v.kept.side) 0 (g.D.Disk.disk v.disk) (g.D.Disk.disk c.switch.new.self.disk)) (c.flush.ensures.idle none).0 c.switch.ensures.stays
