use Rattle.std.proofs.Common.{◌≡◌, ◌∙◌, Some, option_map, find, bytes_eq, ap, sym}
use Rattle.std.specs.Prelude.{slice_get}
use Rattle.deploy_model.specs.declared.parts.Block.{Block}
use Rattle.deploy_model.specs.declared.parts.BlockEvent.{BlockEvent}
use Rattle.deploy_model.specs.Deployed.{DeployedBlock, Handling, handling_of as handling_in}
use Rattle.deploy_model.specs.Resolving.{block_of, handling_of}
use Rattle.deploy_model.specs.Tables.{key_number}
use Rattle.initial_select.proofs.Finding.{find_made}
use Rattle.initial_select.proofs.Handling.{comes_of}
use Rattle.initial_select.proofs.handlers.block_handler.Goals as goal

pub returns : goal.returns
returns c =
    let here : Some c.in_ok-block.block.now ≡ slice_get c.args.deployment.now.parts.blocks c.args.block = c.in_ok-block.ensures ∙ ap (λ xs. slice_get xs c.args.block) c.blocks-2.ensures.same in
    let found = c.handler_among.ensures ∙ ap (find (λ (h : BlockEvent). bytes_eq h.event c.args.event.now)) c.as_slice.ensures in
    ap (option_map handling_of) found
    ∙ sym (find_made handling_of (λ (h : Handling). bytes_eq h.event c.args.event.now) c.in_ok-block.block.now.events)
    ∙ comes_of (block_of (key_number (λ (b : Block). b.key) c.args.deployment.now.parts.blocks)) (λ (b : DeployedBlock). handling_in b c.args.event.now) c.args.deployment.now.parts.blocks c.args.block (Some c.in_ok-block.block.now) here
