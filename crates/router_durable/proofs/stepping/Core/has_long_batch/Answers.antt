use Rattle.std.proofs.Common.{ap, ◌∙◌, nat_le}
use Rattle.commit_journal.specs.Spelling.{records_size}
use Rattle.router_durable.specs.Core.{is_down}
use Rattle.router_durable.proofs.stepping.Core.has_long_batch.Goals as goal

pub returns : goal.returns
returns g c =
    let up = ap (λ v. is_down v.stop) c.self.view_is ∙ ap is_down c.requires.live in
    rw (← c.self.view_is) (ap (λ n. nat_le 131072 n) (c.batch.ensures ∙ ap records_size (c.self.invariant.sound.batch up)))
