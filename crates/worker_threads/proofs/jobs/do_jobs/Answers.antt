use denote.Exit.{no}
use denote.Param.Callables.{held_fn}
use denote.Param.{param}
use denote.Param.Object.{Vt, ghosts_of, table_of}
use denote.Param.Sent.{Syncs}
use denote.Param.Send.{IsSync, arg_send, param_send, recorded_sync, sendable, struct_sync}
use denote.Struct.Declared.{shape}
use mir.Syntax.{named}
use Rattle.std.proofs.Crossing.{crosses, dyn_box_sync}
use Rattle.initial_select.specs.contracts.selector.Selector as Selector
use Rattle.slee_container.specs.contracts.growing.ContainerGrows.TheImpl as growing
use Rattle.initial_select.specs.contracts.selectors.Selectors as Selectors
use Rattle.worker_gate.proofs.PassingLemmas.{container_send}
use Rattle.worker_gate.proofs.SharingLemmas.{deployment_sync}
use Rattle.worker_threads.proofs.jobs.Job.TheSendSync as job
use Rattle.worker_threads.specs.contracts.jobs.do_jobs.dyn-1.{slots}
use Rattle.std.proofs.Common.{rules, sym, subst}
use Rattle.worker_threads.specs.Seats.{IsLaterJob, IsReady}
use Rattle.worker_threads.proofs.SeatLemmas.{moved}
use Rattle.worker_threads.proofs.jobs.do_jobs.Goals as goal

pub each_of-requires-clause-accepts : goal.each_of-requires-clause-accepts
each_of-requires-clause-accepts g c κs within = λ i p h is. (subst IsReady (sym is) (c.requires.ready i p.now h), search rules)

pub returns-clause-later : goal.returns-clause-later
returns-clause-later g c = λ k d h. let at = (c.each_of.ensures.each k d h).1 in moved IsLaterJob _ _ _ _ at.argument_is at.left at.call

pub each_of-requires-send-T : goal.each_of-requires-send-T
each_of-requires-send-T g c κs within =
    let V = Vt (slots g.row.D g.row.K g.row.R) g.dyn-1.0 in
    let gs = ghosts_of (slots g.row.D g.row.K g.row.R) g.dyn-1.0 g.dyn-1.1 in
    let syncs : Syncs (table_of V.Denot gs) = g.dyn-1.3 in
    let box = dyn_box_sync V gs syncs (search sendable) in
    let held = held_fn g.dyn-1.0 in
    let one : IsSync (Selector.the_field V gs held).row = search (box, crosses, sendable) depth 60 fits 20000 in
    let lent : IsSync (Selectors.the_row V gs held) =
    recorded_sync (Selectors.the_field V gs held).row _ _ (Selectors.the_type V gs held).to_one (struct_sync (shape (Selectors.the_type V gs held)) (one, (one, (one, (one, tt))))) in
    let container = container_send (record { mir = named 7; lft = κs.1.1.1.1.1.1.1.0 }) (param 0 g.row.D) g.D.Disk c.type_bounds.send-D in
    param_send 0 _ (arg_send _ no _ (job.the_send (record { mir = named 6; lft = κs.1.1.1.1.1.1.0 }) _ _ _ (param 1 g.row.K) (param 2 g.row.R) (growing.ghosts (param 0 g.row.D) g.D.Disk growing.no_dict) container deployment_sync lent c.type_bounds.sync-K c.type_bounds.sync-R))
