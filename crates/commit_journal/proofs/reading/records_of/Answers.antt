use Rattle.std.proofs.Common.{map, List, ℕ, subst}
use Rattle.commit_journal.specs.Views.{payload_of}
use Rattle.commit_journal.proofs.Found.{SoFar, goes_on, is_short, ended, found_more}
use Rattle.commit_journal.proofs.reading.records_of.Goals as goal

pub returns-in-Nothing-clause-found : goal.returns-in-Nothing-clause-found
returns-in-Nothing-clause-found c =
    let so_far = c.loop-records.invariant in
    (ended _ _ _ _ _ _ so_far c.in-Nothing.ensures, so_far.located_are, so_far.place)

pub returns-in-Short-clause-found : goal.returns-in-Short-clause-found
returns-in-Short-clause-found c =
    let e = c.in-Short.ensures in
    let records = c.loop-records.records.items in
    let so_far = subst (λ (l : List ℕ). SoFar c.args.first c.args.bytes.now (map payload_of records) c.loop-records.at l records) e.1 c.loop-records.invariant in
    is_short _ _ _ _ e.0 _ so_far e.2

pub loop-records-preserved : goal.loop-records-preserved
loop-records-preserved c =
    let e = c.in-One.ensures in
    let records = c.loop-records.records.items in
    let so_far = subst (λ (l : List ℕ). SoFar c.args.first c.args.bytes.now (map payload_of records) c.loop-records.at l records) e.1 c.loop-records.invariant in
    found_more c.args.first c.args.bytes.now records c.push.new.self.items c.in-One.bytes.now _ c.in-One.after.now c.loop-records.at c.in-Ok-push.ensures.items c.in-Ok.ensures
    (goes_on _ _ _ _ e.0 _ so_far c.in-One.bytes.now c.in-One.after.now e.2 e.3)
