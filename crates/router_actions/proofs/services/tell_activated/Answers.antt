-- the line of the service, and then that of its activity
use Rattle.router_actions.proofs.LaidLemmas.{key_laid}
use Rattle.router_actions.proofs.ServiceLemmas.{told_activated}
use Rattle.router_actions.proofs.services.tell_activated.Goals as goal

pub returns-clause-lines : goal.returns-clause-lines
returns-clause-lines g c =
    let same = key_laid c.args.draft.now.changes (g.K.Base.state c.args.keys.now) c.args.service in
    told_activated _ _ _ _ _ _ _ c.in_ok-tell.ensures.lines c.in_ok-tell-2.ensures.lines
    (cc (c.in_ok-service.ensures, c.service_key-key.ensures, same))
    (cc (c.in_ok-started.ensures, c.as_str.ensures.bytes, c.in_ok-words.ensures, c.service_key-key.ensures, same))
