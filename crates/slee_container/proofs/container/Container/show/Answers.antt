use Rattle.std.proofs.Common.{◌∙◌, ap, subst}
use Rattle.slee_disk.specs.Writes.{Writes}
use Rattle.router_state.specs.Show.{show_text}
use Rattle.router_state.specs.State.{State}
use Rattle.slee_container.specs.Container.{state_of}
use Rattle.slee_container.proofs.container.Container.show.Goals as goal

pub returns-clause-written : goal.returns-clause-written
returns-clause-written g c = λ some. subst (λ (s : State). Writes g.K.Sink.contents g.K.Sink.faults c.args.out.now c.show.new.out (show_text s) c.show.result) (c.state.ensures ∙ ap (λ v. state_of v) c.self.view_is) (c.show.ensures.written some)
