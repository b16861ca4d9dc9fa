use Rattle.std.proofs.Common.{inl, sym}
use Rattle.slee_run.specs.Words.{texts}
use Rattle.slee_run.proofs.RunLemmas.{run_of_bad, run_of_play, run_of_task, run_of_check, run_of_gen, run_of_trial}
use Rattle.slee_run.proofs.CrewLemmas.{one_asked}
use Rattle.slee_run.proofs.TopLemmas.{refused, check_comes, gen_comes, task_comes, play_asked, check_never, task_never, gen_never, trial_never, reads, task_opens, trial_opens, play_opens}
use Rattle.slee_run.proofs.top.answer.Goals as goal

pub returns-in-None-clause-headline : goal.returns-in-None-clause-headline
returns-in-None-clause-headline g c = run_of_bad _ _ _ _ _ (g.D.Disk.disk c.args.disk) _ (sym c.in-None.ensures.command) c.refuse.ensures.output

pub returns-in-Check-clause-headline : goal.returns-in-Check-clause-headline
returns-in-Check-clause-headline g c =
    run_of_check _ _ _ _ _ (g.D.Disk.disk c.args.disk) _ c.in-Some.command (sym c.in-Some.ensures.command) c.in-Check.ensures c.check.ensures.checked

pub returns-in-Play-clause-headline : goal.returns-in-Play-clause-headline
returns-in-Play-clause-headline g c =
    run_of_play _ _ _ _ _ (g.D.Disk.disk c.args.disk) _ _ c.in-Some.command c.in-Play.run' (sym c.in-Some.ensures.command) c.in-Play.ensures c.play_sources.ensures.played

pub returns-in-Tend-clause-headline : goal.returns-in-Tend-clause-headline
returns-in-Tend-clause-headline g c =
    run_of_task _ _ _ _ _ (g.D.Disk.disk c.args.disk) _ _ c.in-Some.command c.in-Tend.task (sym c.in-Some.ensures.command) c.in-Tend.ensures c.tend.ensures.done

pub returns-in-Gen-clause-headline : goal.returns-in-Gen-clause-headline
returns-in-Gen-clause-headline g c =
    run_of_gen _ _ _ _ _ (g.D.Disk.disk c.args.disk) _ c.in-Some.command c.in-Gen.seeded (sym c.in-Some.ensures.command) c.in-Gen.ensures c.write_generated.ensures.generated

pub returns-in-Trial-clause-headline : goal.returns-in-Trial-clause-headline
returns-in-Trial-clause-headline g c =
    run_of_trial _ _ _ _ _ (g.D.Disk.disk c.args.disk) _ _ c.in-Some.command c.in-Trial.seeded (sym c.in-Some.ensures.command) c.in-Trial.ensures c.try_generated.ensures.tried

pub returns-in-None-clause-read : goal.returns-in-None-clause-read
returns-in-None-clause-read g c = λ is. absurd (refused _ _ _ _ _ _ c.refuse.ensures.output (λ e. cc) (λ e. cc) is)

pub returns-in-None-clause-disk : goal.returns-in-None-clause-disk
returns-in-None-clause-disk g c = λ is. absurd (refused _ _ _ _ _ _ c.refuse.ensures.output (λ e. cc) (λ e. cc) is)

pub returns-in-None-clause-too_large : goal.returns-in-None-clause-too_large
returns-in-None-clause-too_large g c = λ is. absurd (refused _ _ _ _ _ _ c.refuse.ensures.output (λ e. cc) (λ e. cc) is)

pub returns-in-None-clause-deploy_too_large : goal.returns-in-None-clause-deploy_too_large
returns-in-None-clause-deploy_too_large g c = λ is. absurd (refused _ _ _ _ _ _ c.refuse.ensures.output (λ e. cc) (λ e. cc) is)

pub returns-in-None-clause-write : goal.returns-in-None-clause-write
returns-in-None-clause-write g c = λ is. c.refuse.ensures.write (λ e. cc) is

pub returns-in-None-clause-end : goal.returns-in-None-clause-end
returns-in-None-clause-end g c = λ mode steps plays is. absurd (refused _ _ _ _ _ _ c.refuse.ensures.output (λ e. cc) (λ e. cc) is)

pub returns-in-None-clause-end_of_deploy : goal.returns-in-None-clause-end_of_deploy
returns-in-None-clause-end_of_deploy g c = λ reads is. absurd (refused _ _ _ _ _ _ c.refuse.ensures.output (λ e. cc) (λ e. cc) is)

pub returns-in-Check-clause-read : goal.returns-in-Check-clause-read
returns-in-Check-clause-read g c = λ is. inl (c.check.ensures.read is)

pub returns-in-Check-clause-end : goal.returns-in-Check-clause-end
returns-in-Check-clause-end g c = λ mode steps plays is. absurd (check_never (texts c.args.words.now) c.in-Some.command (sym c.in-Some.ensures.command) c.in-Check.ensures mode steps plays)

pub returns-in-Check-clause-too_large : goal.returns-in-Check-clause-too_large
returns-in-Check-clause-too_large g c = λ is. absurd (check_comes _ _ _ _ _ c.check.ensures.checked (λ e. cc) is)

pub returns-in-Check-clause-end_of_deploy : goal.returns-in-Check-clause-end_of_deploy
returns-in-Check-clause-end_of_deploy g c = λ reads is. c.check.ensures.end is

pub returns-in-Check-clause-deploy_unread : goal.returns-in-Check-clause-deploy_unread
returns-in-Check-clause-deploy_unread g c = λ none. absurd (none (reads (texts c.args.words.now) c.in-Some.command (sym c.in-Some.ensures.command)))

pub returns-in-Check-clause-disk : goal.returns-in-Check-clause-disk
returns-in-Check-clause-disk g c = λ is. absurd (check_comes _ _ _ _ _ c.check.ensures.checked (λ e. cc) is)

pub returns-in-Gen-clause-read : goal.returns-in-Gen-clause-read
returns-in-Gen-clause-read g c = λ is. inl (c.write_generated.ensures.read is)

pub returns-in-Gen-clause-end : goal.returns-in-Gen-clause-end
returns-in-Gen-clause-end g c = λ mode steps plays is. absurd (gen_never (texts c.args.words.now) c.in-Some.command (sym c.in-Some.ensures.command) c.in-Gen.seeded c.in-Gen.ensures mode steps plays)

pub returns-in-Gen-clause-too_large : goal.returns-in-Gen-clause-too_large
returns-in-Gen-clause-too_large g c = λ is. absurd (gen_comes _ _ _ _ _ _ _ c.write_generated.ensures.generated (λ e. cc) is)

pub returns-in-Gen-clause-end_of_deploy : goal.returns-in-Gen-clause-end_of_deploy
returns-in-Gen-clause-end_of_deploy g c = λ reads is. c.write_generated.ensures.end is

pub returns-in-Gen-clause-deploy_unread : goal.returns-in-Gen-clause-deploy_unread
returns-in-Gen-clause-deploy_unread g c = λ none. absurd (none (reads (texts c.args.words.now) c.in-Some.command (sym c.in-Some.ensures.command)))

pub returns-in-Gen-clause-disk : goal.returns-in-Gen-clause-disk
returns-in-Gen-clause-disk g c = λ is. absurd (gen_comes _ _ _ _ _ _ _ c.write_generated.ensures.generated (λ e. cc) is)

pub returns-in-Tend-clause-read : goal.returns-in-Tend-clause-read
returns-in-Tend-clause-read g c = λ is. inl (c.tend.ensures.read is)

pub returns-in-Tend-clause-end : goal.returns-in-Tend-clause-end
returns-in-Tend-clause-end g c = λ mode steps plays is. absurd (task_never (texts c.args.words.now) c.in-Some.command (sym c.in-Some.ensures.command) c.in-Tend.task c.in-Tend.ensures mode steps plays)

pub returns-in-Tend-clause-too_large : goal.returns-in-Tend-clause-too_large
returns-in-Tend-clause-too_large g c = λ is. absurd (task_comes _ _ _ _ _ _ _ _ c.tend.ensures.done (λ e. cc) is)

pub returns-in-Tend-clause-end_of_deploy : goal.returns-in-Tend-clause-end_of_deploy
returns-in-Tend-clause-end_of_deploy g c = λ reads is. c.tend.ensures.end is

pub returns-in-Tend-clause-deploy_unread : goal.returns-in-Tend-clause-deploy_unread
returns-in-Tend-clause-deploy_unread g c = λ none. absurd (none (reads (texts c.args.words.now) c.in-Some.command (sym c.in-Some.ensures.command)))

pub returns-in-Tend-clause-idle : goal.returns-in-Tend-clause-idle
returns-in-Tend-clause-idle g c = λ none. absurd (none (task_opens (texts c.args.words.now) c.in-Some.command (sym c.in-Some.ensures.command) c.in-Tend.task c.in-Tend.ensures))

pub returns-in-Trial-clause-read : goal.returns-in-Trial-clause-read
returns-in-Trial-clause-read g c = λ is. inl (c.try_generated.ensures.read is)

pub returns-in-Trial-clause-end : goal.returns-in-Trial-clause-end
returns-in-Trial-clause-end g c = λ mode steps plays is. absurd (trial_never (texts c.args.words.now) c.in-Some.command (sym c.in-Some.ensures.command) c.in-Trial.seeded c.in-Trial.ensures mode steps plays)

pub returns-in-Trial-clause-too_large : goal.returns-in-Trial-clause-too_large
returns-in-Trial-clause-too_large g c = λ is. absurd (c.try_generated.ensures.quiet is)

pub returns-in-Trial-clause-end_of_deploy : goal.returns-in-Trial-clause-end_of_deploy
returns-in-Trial-clause-end_of_deploy g c = λ reads is. c.try_generated.ensures.end is

pub returns-in-Trial-clause-deploy_unread : goal.returns-in-Trial-clause-deploy_unread
returns-in-Trial-clause-deploy_unread g c = λ none. absurd (none (reads (texts c.args.words.now) c.in-Some.command (sym c.in-Some.ensures.command)))

pub returns-in-Trial-clause-idle : goal.returns-in-Trial-clause-idle
returns-in-Trial-clause-idle g c = λ none. absurd (none (trial_opens (texts c.args.words.now) c.in-Some.command (sym c.in-Some.ensures.command) c.in-Trial.seeded c.in-Trial.ensures))

pub returns-in-Play-clause-end : goal.returns-in-Play-clause-end
returns-in-Play-clause-end g c = λ mode steps plays is. (c.play_sources.ensures.end is).1

pub returns-in-Play-clause-unread : goal.returns-in-Play-clause-unread
returns-in-Play-clause-unread g c = λ none. absurd (none c.in-Play.run'.mode c.in-Play.run'.steps (play_asked (texts c.args.words.now) c.in-Some.command (sym c.in-Some.ensures.command) c.in-Play.run' c.in-Play.ensures))

pub returns-in-Play-clause-end_of_deploy : goal.returns-in-Play-clause-end_of_deploy
returns-in-Play-clause-end_of_deploy g c = λ reads is. (c.play_sources.ensures.end is).0

pub returns-in-Play-clause-deploy_unread : goal.returns-in-Play-clause-deploy_unread
returns-in-Play-clause-deploy_unread g c = λ none. absurd (none (reads (texts c.args.words.now) c.in-Some.command (sym c.in-Some.ensures.command)))

pub returns-in-Play-clause-idle : goal.returns-in-Play-clause-idle
returns-in-Play-clause-idle g c = λ none. absurd (none (play_opens (texts c.args.words.now) c.in-Some.command (sym c.in-Some.ensures.command) c.in-Play.run' c.in-Play.ensures))

pub form_of-requires-clause-range : goal.form_of-requires-clause-range
form_of-requires-clause-range g c = c.in-Some.ensures.in_range

pub form_of-requires-clause-one : goal.form_of-requires-clause-one
form_of-requires-clause-one g c = one_asked (texts c.args.words.now) c.in-Some.command (sym c.in-Some.ensures.command) c.requires

pub play_sources-requires : goal.play_sources-requires
play_sources-requires g c = c.in-Play.ensures.1
