-- the sort is by priority and number, and no two services tie
use Rattle.std.proofs.Common.{◌≡◌, ◌∙◌, List, map, rules, sym, subst}
use Rattle.std.proofs.lemmas.List.Sorted.{answers_always}
use Rattle.rows_sorted.proofs.StableSortLemmas.{sorted_apart, sorted_mapped}
use Rattle.deploy_model.specs.Resolving.{service_of}
use Rattle.deploy_model.specs.Selecting.{numbered}
use Rattle.slee_descriptor.specs.Keys.{number_in}
use Rattle.slee_descriptor.specs.Ranks.{rank_before, rank_of}
use Rattle.slee_descriptor.proofs.Selected.{at_most_one, ranks}
use Rattle.slee_descriptor.proofs.selection.order_of.Goals as goal

pub returns : goal.returns
returns c =
    let services = map (service_of (number_in c.args.keys.now)) c.args.services.now in
    let made = map rank_of (numbered 0 services) in
    let is : c.in_ok-ranks.ranks.items ≡ made = c.in_ok-ranks.ensures in
    let up = c.in_ok-sort_by.ensures.sorted rank_before ranks (answers_always _ _ _ (λ f a r f' k. search rules)) in
    let stable = rw is at (c.in_ok-sort_by.ensures.stable rank_before ranks (answers_always _ _ _ (λ f a r f' k. search rules))) in
    sorted_apart rank_before ranks made _ (λ k. at_most_one k 0 services) up stable ∙ sym (sorted_mapped rank_of rank_before (numbered 0 services))
