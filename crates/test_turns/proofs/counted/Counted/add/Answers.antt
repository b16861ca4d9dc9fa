use Rattle.std.proofs.Common.{rules, ◌≡◌, [], ◌∷◌, ◌++◌}
use Rattle.test_turns.proofs.EntryLemmas.{grown}
use Rattle.test_turns.proofs.counted.Counted.add.Goals as goal

pub returns : goal.returns
returns c =
    let pushed : c.push_reserved.new.self.items ≡ c.args.self.now.entries.items ++ c.args.number ∷ [] = search rules in
    record { grown = grown c.args.self.now.entries.items c.push_reserved.new.self.items c.args.number pushed }
