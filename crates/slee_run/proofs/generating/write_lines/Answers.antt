use Rattle.std.proofs.Common.{◌≡◌, ◌∙◌, inl, inr, refl}
use Rattle.slee_disk.proofs.WritesLemmas.{writes_as}
use Rattle.slee_run.specs.Status.{status_line}
use Rattle.slee_run.specs.Text.{lines_text}
use Rattle.slee_run.specs.declared.status.Given.TheVariants as givens
use Rattle.slee_run.specs.declared.status.Status.TheVariants as statuses
use Rattle.slee_run.proofs.EndLemmas.{told_as, write_failed, written}
use Rattle.slee_run.proofs.generating.write_lines.Goals as goal

pub returns-in-Ok-clause-lines : goal.returns-in-Ok-clause-lines
returns-in-Ok-clause-lines g c = record {
  text = lines_text c.args.lines.now;
  stood = statuses.Ok;
  which = inl (refl, refl);
  output = written g.K.Sink.contents g.K.Sink.faults _ _ _ c.write_whole.result statuses.Ok _ (writes_as _ _ _ _ _ _ _ (c.deref.ensures.value ∙ c.in-Ok.ensures) c.write_whole.ensures)
      c.status_written.ensures.ok c.status_written.ensures.err;
}

pub returns-in-Ok-clause-write : goal.returns-in-Ok-clause-write
returns-in-Ok-clause-write g c = λ is. write_failed g.K.Sink.contents g.K.Sink.faults _ _ _ c.write_whole.result statuses.Ok _ c.write_whole.ensures c.status_written.ensures.ok (λ e. cc) is

pub returns-in-Ok-clause-quiet : goal.returns-in-Ok-clause-quiet
unfolding returns-in-Ok-clause-lines
returns-in-Ok-clause-quiet g c =
    let out = (returns-in-Ok-clause-lines g c).output in
    ((λ is. let never : statuses.Ok ≡ statuses.ReadFault = told_as _ _ _ _ _ out (λ e. cc) ∙ is in cc), (λ is. let never : statuses.Ok ≡ statuses.TooLarge givens.Deploy = told_as _ _ _ _ _ out (λ e. cc) ∙ is in cc))

pub returns-in-Err-clause-lines : goal.returns-in-Err-clause-lines
returns-in-Err-clause-lines g c = record {
  text = status_line statuses.NoMemory;
  stood = statuses.NoMemory;
  which = inr (refl, refl);
  output = c.refuse.ensures.output;
}

pub returns-in-Err-clause-write : goal.returns-in-Err-clause-write
returns-in-Err-clause-write g c = λ is. c.refuse.ensures.write (λ e. cc) is

pub returns-in-Err-clause-quiet : goal.returns-in-Err-clause-quiet
returns-in-Err-clause-quiet g c = (
  (λ is. let never : statuses.NoMemory ≡ statuses.ReadFault = told_as _ _ _ _ _ c.refuse.ensures.output (λ e. cc) ∙ is in cc),
  (λ is. let never : statuses.NoMemory ≡ statuses.TooLarge givens.Deploy = told_as _ _ _ _ _ c.refuse.ensures.output (λ e. cc) ∙ is in cc),
)
