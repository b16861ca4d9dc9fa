use Rattle.worker_gate.proofs.MoveLemmas.{goes_further, line_ends, line_goes}
use Rattle.worker_gate.proofs.moving.take_line.Goals as goal

pub after_step-requires : goal.after_step-requires
after_step-requires g c = let made = c.take_input-made in line_ends (g.D.Disk.disk c.args.container.now.disk) (g.D.Disk.disk made.new.self.disk) c.args.container.now made.result made.new.self c.requires.left made.ensures.step

pub returns-clause-goes : goal.returns-clause-goes
returns-clause-goes g c =
    let made = c.take_input-made in
    goes_further _ _ _ (line_goes (g.D.Disk.disk c.args.container.now.disk) (g.D.Disk.disk made.new.self.disk) c.args.container.now made.result made.new.self c.requires.left made.ensures.step) c.after_step.ensures.goes
