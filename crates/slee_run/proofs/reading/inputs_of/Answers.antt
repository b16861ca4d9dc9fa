use Rattle.std.proofs.Common.{◌≡◌, Ok}
use Rattle.signal_script.specs.Signals.{signals_of}
use Rattle.slee_run.specs.Answers.{AreInputs, IsDeployedBy, IsRefusalFor}
use Rattle.slee_run.specs.Given.{refusal_of, unlined}
use Rattle.slee_run.proofs.ReadLemmas.{if_err, if_ok_both, inputs_read, refused_first, refused_lines}
use Rattle.slee_run.proofs.reading.inputs_of.Goals as goal

pub returns-in-Ok-clause-inputs : goal.returns-in-Ok-clause-inputs
returns-in-Ok-clause-inputs c =
    if_ok_both (λ i. i.deployed ≡ c.in-Ok.deployed) (λ i. signals_of c.args.text.now ≡ Ok i.lines) (λ i. IsDeployedBy c.args.document i.deployed × AreInputs c.args.document c.args.text.now i) c.with_lines.result
    (λ i same lines. inputs_read c.args.document c.args.text.now c.in-Ok.deployed i c.requires.document c.requires.text c.in-Ok.ensures.deployed same lines)
    c.with_lines.ensures.deployed c.with_lines.ensures.lines

pub returns-in-Ok-clause-refused : goal.returns-in-Ok-clause-refused
returns-in-Ok-clause-refused c =
    if_err (IsRefusalFor (unlined (signals_of c.args.text.now))) (IsRefusalFor (refusal_of c.args.document c.args.text.now)) c.with_lines.result
    (λ s refused. refused_lines c.args.document c.args.text.now c.in-Ok.deployed s c.requires.document c.requires.text c.in-Ok.ensures.deployed refused) c.with_lines.ensures.refused

pub returns-in-Err-clause-refused : goal.returns-in-Err-clause-refused
returns-in-Err-clause-refused c = refused_first c.args.document c.args.text.now c.in-Err.stood c.requires.document c.requires.text c.in-Err.ensures.refused
