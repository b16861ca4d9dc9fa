use Rattle.std.proofs.Common.{◌+◌, true, Err, refl, sym, ap}
use Rattle.std.proofs.lemmas.List.{take_rest}
use Rattle.slee_value.specs.Escape.{escaped}
use Rattle.slee_disk.proofs.WritesLemmas.{writes_as}
use Rattle.slee_disk.proofs.WordLemmas.{plain_text, plain_stops, escape_stops, run_goes_on}
use Rattle.slee_disk.proofs.word.write_word.Goals as goal

pub returns-in_err-write_whole-in-Some : goal.returns-in_err-write_whole-in-Some
returns-in_err-write_whole-in-Some g c =
    c.runs.invariant c.write_whole-in-Some.new.sink c.from_residual.result
    (plain_stops _ _ _ c.runs.out _ c.runs.rest.now c.in-Some.at (sym c.in-Some.ensures.first) _ (Err c.in_err-write_whole-in-Some.field-0.0) refl c.from_residual.ensures.0 c.in_err-write_whole-in-Some.ensures)

pub returns-in_err-write_escape-in-Some : goal.returns-in_err-write_escape-in-Some
returns-in_err-write_escape-in-Some g c =
    c.runs.invariant c.write_escape.new.out c.from_residual-in_err-write_escape-in-Some.result
    (escape_stops _ _ _ _ _ c.runs.rest.now c.in-Some.at (sym c.in-Some.ensures.first) _ _ (Err c.in_err-write_escape-in-Some.field-0.0) refl c.from_residual-in_err-write_escape-in-Some.ensures.0 c.in_ok-write_whole-in-Some.ensures c.in_err-write_escape-in-Some.ensures)

pub runs-preserved : goal.runs-preserved
runs-preserved g c new r rest =
    c.runs.invariant new r
    (run_goes_on _ _ _ _ _ c.runs.rest.now c.in-Some.at (sym c.in-Some.ensures.first) _ _ _ _ c.in_ok-write_whole-in-Some.ensures c.in_ok-write_escape-in-Some.ensures
    (writes_as _ _ _ _ _ _ _ (ap (escaped true) (take_rest c.runs.rest.now (c.in-Some.at + 1))) rest))

pub returns-in-None : goal.returns-in-None
returns-in-None g c =
    c.runs.invariant c.write_whole.new.sink c.write_whole.result
    (writes_as _ _ _ _ _ _ _ (plain_text c.runs.rest.now (sym c.in-None.ensures.first)) c.write_whole.ensures)
