use Rattle.std.proofs.Common.{rules, ◌∙◌, ◌-◌, ◌<◌, arith, ap, map}
use Rattle.deploy_model.specs.Resolving.{event_of}
use Rattle.signal_gen.specs.Generator.{next_line}
use Rattle.signal_gen.proofs.LineLemmas.{line_more}
use Rattle.signal_gen.proofs.generating.generate.Goals as goal

pub each-preserved : goal.each-preserved
each-preserved c =
    let positive : 0 < c.each.left = search rules in
    let line = c.in_ok-line.ensures.line ∙ ap (λ events. next_line (map event_of events) c.each.course) c.events.ensures.same in
    record {
      same = line_more (map event_of c.args.deployment.now.parts.events) c.each.course c.next_line.new.self c.each.left (c.each.left - 1) c.in_ok-line.line c.each.lines c.push.new.self _ line
          c.in_ok-push.ensures.ok (omega (arith, positive)) c.each.invariant.same;
      started = omega (arith, positive, c.next_line.ensures.started, c.each.invariant.started);
      clock = omega (arith, positive, c.next_line.ensures.clock, c.each.invariant.clock);
    }
