use Rattle.std.proofs.Common.{Err, refl, ap, List, ℕ}
use Rattle.slee_disk.proofs.WritesLemmas.{writes_stop, writes_then, writes_as}
use Rattle.deploy_report.specs.Texts.{script_text}
use Rattle.deploy_report.proofs.printing.write_syntax.Goals as goal

pub returns-in_err-write_whole : goal.returns-in_err-write_whole
returns-in_err-write_whole g c =
    writes_stop _ _ _ _ _ _ (Err c.in_err-write_whole.field-0.0) _ refl c.from_residual.ensures.0 c.in_err-write_whole.ensures

pub returns : goal.returns
returns g c =
    writes_then _ _ _ _ _ _ _ _ _ c.in_ok-write_whole.ensures (writes_as _ _ _ _ _ _ _ (ap (λ (word : List ℕ). script_text c.args.pointer.now c.args.line c.args.column word) c.syntax_word.ensures) c.write_in_script.ensures)
