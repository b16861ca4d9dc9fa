use Rattle.std.proofs.Common.{◌+◌, refl}
use Rattle.commit_journal.specs.Spelling.{records_size}
use Rattle.commit_journal.proofs.Opens.{fresh_runs, opened_sound, opened_as, opened_seen, opened_records}
use Rattle.commit_journal.proofs.journal.Journal.open.Goals as goal

pub invariant_of-result : goal.invariant_of-result
invariant_of-result g c =
    let found = c.in-Ok-find.ensures in
    opened_sound c.in-Ok-find.found c.args.deployment.now (g.D.Disk.disk c.args.disk) (g.D.Disk.disk c.find.new.disk) _ found.looks found.found found.stands found.blank c.in-Ok.batch c.args.limit c.in-Ok.ensures c.requires found.small found.fresh found.short found.sized found.first

pub returns-in-Ok-find-clause-opened : goal.returns-in-Ok-find-clause-opened
returns-in-Ok-find-clause-opened g c = record {
  running = fresh_runs c.in-Ok-find.found.stage c.in-Ok-find.ensures.fresh;
  empty = c.in-Ok.ensures;
  named = c.in-Ok-find.ensures.named;
  plain = λ blank. (c.in-Ok-find.ensures.first blank).0;
  limited = refl;
}

pub returns-in-Ok-find-clause-found : goal.returns-in-Ok-find-clause-found
returns-in-Ok-find-clause-found g c told =
    let found = c.in-Ok-find.ensures in
    let old = g.D.Disk.disk c.args.disk in
    let new = g.D.Disk.disk c.find.new.disk in
    record {
      read = opened_as c.in-Ok-find.found c.args.deployment.now old new _ found.looks found.found found.stands found.blank c.find.new.disk c.in-Ok.batch (c.in-Ok-find.found.end + 1 + records_size c.in-Ok.batch) c.in-Ok-find.found.records.items c.args.limit told;
      located_are = opened_records c.in-Ok-find.found c.args.deployment.now old new _ found.looks found.found found.stands found.blank found.records told;
      stands = opened_seen c.in-Ok-find.found c.args.deployment.now old new _ found.looks found.found found.stands found.blank found.named told;
    }
