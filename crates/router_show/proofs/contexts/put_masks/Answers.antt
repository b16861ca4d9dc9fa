-- a word where there are masks, and then their events
use Rattle.std.proofs.Common.{◌++◌, ◌∙◌, ap, map}
use Rattle.std.specs.Prelude.{is_some}
use Rattle.std.proofs.lemmas.Result.{on_ok_weaker}
use Rattle.rows_leaves.proofs.FirstLemmas.{same_some}
use Rattle.router_state.specs.Show.{mask_words}
use Rattle.router_show.proofs.ShowLemmas.{masks_put}
use Rattle.router_show.proofs.contexts.put_masks.Goals as goal

pub returns : goal.returns
returns c =
    on_ok_weaker c.put_events.result
    (λ last. masks_put c.of-own.result (is_some c.get.result) _ _ _ (same_some c.get.result ∙ ap is_some c.get.ensures) (c.in_ok-put.ensures ∙ ap (λ word. c.args.into.now.items ++ word) c.masked_word.ensures) last
    ∙ ap (λ masks. c.args.into.now.items ++ mask_words (map (λ m. m.event) masks)) c.of-own.ensures)
    c.put_events.ensures
