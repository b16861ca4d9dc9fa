use denote.Exit.{no}
use denote.Param.Send.{arg_send, param_send}
use mir.Syntax.{named}
use Rattle.std.proofs.Common.{rules, ◌+◌, ◌<◌, refl, ap, ◌∙◌, sym, subst}
use mathlib.Core.List.{IsPrefix}
use Rattle.slee_turn.specs.Setups.{Setup}
use Rattle.worker_gate.specs.Works.{IsServed}
use Rattle.worker_gate.proofs.PassingLemmas.{container_send}
use Rattle.worker_threads.specs.Seats.{AreReady, AreSeated, IsReady, IsSeated}
use Rattle.worker_threads.proofs.SeatLemmas.{each_push, new_number, splits_out}
use Rattle.worker_threads.proofs.jobs.seat_workers.Goals as goal

pub loop-number-preserved : goal.loop-number-preserved
loop-number-preserved g c =
    let i = c.loop-number.invariant in
    let made = c.split.ensures.made in
    let low : c.loop-number.number < 64 = search rules in
    let next = splits_out _ _ _ c.loop-number.number c.loop-number.pass c.split.new.pass low i.0 i.1 c.split.ensures.kept in (
      next.0,
      next.1,
      search rules,
      search rules,
      subst (AreSeated c.args.turn.now c.args.pass.now.known.seen) (sym c.in-Ok.ensures.items)
          (each_push (IsSeated c.args.turn.now c.args.pass.now.known.seen) c.loop-number.jobs.items _ i.4 (record {
            free = (ap (λ p. p.table) made, ap (λ p. p.known.phase) made);
            turn = refl;
            number = ap (λ p. p.known.number) made ∙ (new_number _ c.loop-number.pass i.1 ∙ ap (λ n. n + 2) (sym i.2));
            seen = subst (IsPrefix c.args.pass.now.known.seen) (sym (ap (λ p. p.known.seen) made)) i.0.seen;
          })),
      subst AreReady (sym c.in-Ok.ensures.items)
          (each_push (λ k j. IsReady j) c.loop-number.jobs.items _ i.5 (record {
            free = (ap (λ p. p.table) made, ap (λ p. p.known.phase) made);
            served = subst (λ (u : Setup). IsServed u c.args.deployment.now) (sym (ap (λ p. p.known.setup) made ∙ i.0.setup)) c.requires.served;
          })),
      ap (λ p. p.known.seen) c.split.ensures.kept ∙ i.6,
    )

pub split-requires-send-G : goal.split-requires-send-G
split-requires-send-G g c κs within = param_send 0 _ (arg_send _ no _ (container_send (record { mir = named 3; lft = κs.1.1.1.0 }) _ g.D.Disk c.type_bounds.send-D))
