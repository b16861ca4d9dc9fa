use Rattle.std.proofs.Common.{◌≡◌, map, drop}
use Rattle.commit_journal.specs.Views.{payload_of}
use Rattle.router_core.specs.States.{IsOwn}
use Rattle.router_durable.specs.Choices.{after_all}
use Rattle.router_durable.specs.Recovery.{misfit, choices_in}
use Rattle.router_durable.proofs.replaying.replay_all.Given as goal

-- what is left from here is what was left at first
abbrev pub invariant-loop-record : goal.invariant-loop-record
invariant-loop-record g l = record {
  own : IsOwn l.planning.deployment.now l.state.state;
  fits : misfit l.format l.state.state (drop l.record-index l.records) ≡ misfit l.format l.fn.state.state l.records;
  state : after_all l.state.state (choices_in l.format (map payload_of (drop l.record-index l.records))) ≡ after_all l.fn.state.state (choices_in l.format (map payload_of l.records));
}
