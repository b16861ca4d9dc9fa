use Rattle.std.proofs.Common.{◌≡◌, ◌+◌, ◌*◌, ◌≤◌, drop}
use Rattle.std.specs.Prelude.{string_bytes}
use Rattle.script_run_machine.specs.Lending.{standing}
use Rattle.script_run_machine.specs.Machines.{state_of}
use Rattle.script_run_machine.specs.Settings.{setting_of}
use Rattle.script_meaning.specs.Values.{int, flag, text}
use Rattle.script_run_terms.specs.Links.{linked}
use Rattle.script_run_terms.proofs.+terms.Given as goal

abbrev pub decreases-terms::find : goal.decreases-terms::find
decreases-terms::find l = 16 * l.machine.now.left + 5

abbrev pub decreases-terms::find_any : goal.decreases-terms::find_any
decreases-terms::find_any l = 16 * l.machine.now.left + 4

abbrev pub decreases-numbers::eval_number : goal.decreases-numbers::eval_number
decreases-numbers::eval_number l = 16 * l.machine.now.left + 5

abbrev pub decreases-numbers::eval_any_number : goal.decreases-numbers::eval_any_number
decreases-numbers::eval_any_number l = 16 * l.machine.now.left + 4

abbrev pub decreases-numbers::compared_number : goal.decreases-numbers::compared_number
decreases-numbers::compared_number l = 16 * l.machine.now.left + 1

abbrev pub decreases-numbers::eval_truth : goal.decreases-numbers::eval_truth
decreases-numbers::eval_truth l = 16 * l.machine.now.left + 5

abbrev pub decreases-numbers::eval_any_truth : goal.decreases-numbers::eval_any_truth
decreases-numbers::eval_any_truth l = 16 * l.machine.now.left + 4

abbrev pub decreases-terms::find_asked : goal.decreases-terms::find_asked
decreases-terms::find_asked l = 16 * l.machine.now.left

abbrev pub decreases-numbers::asked_number : goal.decreases-numbers::asked_number
decreases-numbers::asked_number l = 16 * l.machine.now.left

abbrev pub decreases-numbers::placed_number : goal.decreases-numbers::placed_number
decreases-numbers::placed_number l = 16 * l.machine.now.left + 6

abbrev pub decreases-numbers::asked_truth : goal.decreases-numbers::asked_truth
decreases-numbers::asked_truth l = 16 * l.machine.now.left

abbrev pub decreases-numbers::eval_test : goal.decreases-numbers::eval_test
decreases-numbers::eval_test l = 16 * l.machine.now.left + 3

abbrev pub decreases-terms::find_placed : goal.decreases-terms::find_placed
decreases-terms::find_placed l = 16 * l.machine.now.left + 6

abbrev pub decreases-numbers::eval_compared : goal.decreases-numbers::eval_compared
decreases-numbers::eval_compared l = 16 * l.machine.now.left

abbrev pub decreases-numbers::eval_compared_numbers : goal.decreases-numbers::eval_compared_numbers
decreases-numbers::eval_compared_numbers l = 16 * l.machine.now.left + 6

abbrev pub decreases-numbers::eval_compared_values : goal.decreases-numbers::eval_compared_values
decreases-numbers::eval_compared_values l = 16 * l.machine.now.left + 6

abbrev pub decreases-terms::find_compared : goal.decreases-terms::find_compared
decreases-terms::find_compared l = 16 * l.machine.now.left + 1

abbrev pub decreases-terms::find_chain : goal.decreases-terms::find_chain
decreases-terms::find_chain l = 16 * l.machine.now.left + 3

abbrev pub decreases-terms::eval_chain : goal.decreases-terms::eval_chain
decreases-terms::eval_chain l = 16 * l.machine.now.left + 2

abbrev pub decreases-numbers::number_in_chain : goal.decreases-numbers::number_in_chain
decreases-numbers::number_in_chain l = 16 * l.machine.now.left + 3

abbrev pub decreases-numbers::truth_in_chain : goal.decreases-numbers::truth_in_chain
decreases-numbers::truth_in_chain l = 16 * l.machine.now.left + 3

abbrev pub decreases-numbers::number_chain : goal.decreases-numbers::number_chain
decreases-numbers::number_chain l = 16 * l.machine.now.left + 1

abbrev pub decreases-numbers::truth_chain : goal.decreases-numbers::truth_chain
decreases-numbers::truth_chain l = 16 * l.machine.now.left + 1

abbrev pub decreases-numbers::number_pair : goal.decreases-numbers::number_pair
decreases-numbers::number_pair l = 16 * l.machine.now.left

abbrev pub decreases-numbers::truth_pair : goal.decreases-numbers::truth_pair
decreases-numbers::truth_pair l = 16 * l.machine.now.left

abbrev pub decreases-numbers::choose : goal.decreases-numbers::choose
decreases-numbers::choose l = 16 * l.machine.now.left + 6

abbrev pub decreases-numbers::number_links : goal.decreases-numbers::number_links
decreases-numbers::number_links l = 16 * l.machine.now.left + 6

abbrev pub decreases-numbers::truth_links : goal.decreases-numbers::truth_links
decreases-numbers::truth_links l = 16 * l.machine.now.left + 7

abbrev pub decreases-joins::text_chain : goal.decreases-joins::text_chain
decreases-joins::text_chain l = 16 * l.machine.now.left + 1

abbrev pub decreases-joins::write_pair : goal.decreases-joins::write_pair
decreases-joins::write_pair l = 16 * l.machine.now.left

abbrev pub decreases-joins::write_links : goal.decreases-joins::write_links
decreases-joins::write_links l = 16 * l.machine.now.left + 10

abbrev pub decreases-joins::write_link : goal.decreases-joins::write_link
decreases-joins::write_link l = 16 * l.machine.now.left + 9

abbrev pub decreases-joins::write_part : goal.decreases-joins::write_part
decreases-joins::write_part l = 16 * l.machine.now.left + 8

abbrev pub decreases-joins::write_term : goal.decreases-joins::write_term
decreases-joins::write_term l = 16 * l.machine.now.left + 7

abbrev pub decreases-joins::write_found : goal.decreases-joins::write_found
decreases-joins::write_found l = 16 * l.machine.now.left + 6

abbrev pub decreases-joins::write_asked : goal.decreases-joins::write_asked
decreases-joins::write_asked l = 16 * l.machine.now.left + 6

-- the parts so far are written
abbrev pub invariant-joins::write_links-links : goal.invariant-joins::write_links-links
invariant-joins::write_links-links l = (linked (setting_of l.scene) (drop l.joint-index l.links) (text (string_bytes l.whole)) (state_of l.machine) ≡ linked (setting_of l.scene) l.links (text (string_bytes l.initial.whole)) (state_of l.initial.machine)) × (l.machine.left ≤ l.initial.machine.left) × (standing l.machine ≡ standing l.initial.machine) × (l.machine.names ≡ l.initial.machine.names)

-- the numbers so far are joined
abbrev pub invariant-numbers::number_links-links : goal.invariant-numbers::number_links-links
invariant-numbers::number_links-links l = (linked (setting_of l.scene) (drop l.joint-index l.links) (int l.x) (state_of l.machine) ≡ linked (setting_of l.scene) l.links (int l.fn.first) (state_of l.initial.machine)) × (l.machine.left ≤ l.initial.machine.left) × (standing l.machine ≡ standing l.initial.machine) × (l.machine.names ≡ l.initial.machine.names)

-- the truth values so far are joined
abbrev pub invariant-numbers::truth_links-links : goal.invariant-numbers::truth_links-links
invariant-numbers::truth_links-links l = (linked (setting_of l.scene) (drop l.joint-index l.links) (flag l.x) (state_of l.machine) ≡ linked (setting_of l.scene) l.links (flag l.fn.first) (state_of l.initial.machine)) × (l.machine.left ≤ l.initial.machine.left) × (standing l.machine ≡ standing l.initial.machine) × (l.machine.names ≡ l.initial.machine.names)
