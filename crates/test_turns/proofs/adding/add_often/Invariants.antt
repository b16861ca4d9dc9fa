use Rattle.std.proofs.Common.{◌≡◌}
use Rattle.slee_turn.specs.Passes.{IsFreeOf}
use Rattle.test_turns.proofs.adding.add_often.Given as goal

abbrev pub invariant-loop : goal.invariant-loop
invariant-loop g l = IsFreeOf l.turn l.pass × (l.pass.known.number ≡ l.initial.pass.known.number)
