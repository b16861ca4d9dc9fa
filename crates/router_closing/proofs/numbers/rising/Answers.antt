use Rattle.std.proofs.Common.{eqb, ◌==◌, sym, ◌∙◌}
use Rattle.std.proofs.lemmas.List.Filters.{dedup_is}
use Rattle.std.proofs.lemmas.List.Sorted.{list_any-IsPermutation}
use Rattle.router_closing.proofs.NumberLemmas.{rising_set, same_members}
use Rattle.router_closing.proofs.numbers.rising.Goals as goal

pub returns-clause-rises : goal.returns-clause-rises
returns-clause-rises c = rw (dedup_is eqb _ _ c.dedup.ensures.filtered) (rising_set c.sort_unstable.new.self.items c.sort_unstable.ensures.sorted)

pub returns-clause-members : goal.returns-clause-members
returns-clause-members c = λ n. rw (dedup_is eqb _ _ c.dedup.ensures.filtered) (same_members c.sort_unstable.new.self.items n ∙ sym (list_any-IsPermutation (λ e. e == n) c.args.numbers.items c.sort_unstable.new.self.items c.sort_unstable.ensures.permutation))
