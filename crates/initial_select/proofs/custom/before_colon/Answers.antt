use Rattle.std.proofs.Common.{◌==◌, rules, sym}
use Rattle.initial_select.proofs.Finding.{place_before, none_before}
use Rattle.initial_select.proofs.custom.before_colon.Goals as goal

pub returns-in-Some : goal.returns-in-Some
returns-in-Some c = place_before (λ b. b == 58) c.args.input.now c.in-Some.end (search rules)

pub returns-in-None : goal.returns-in-None
returns-in-None c = sym (none_before (λ b. b == 58) c.args.input.now (search rules))
