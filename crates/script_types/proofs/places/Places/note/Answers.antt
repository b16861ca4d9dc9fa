use Rattle.std.proofs.Common.{◌∙◌, sym}
use Rattle.script_types.proofs.PlaceLemmas.{noted, absent_by}
use Rattle.script_types.proofs.places.Places.note.Goals as goal

pub returns : goal.returns
returns c =
    let absent = absent_by c.get.result _ c.get.ensures.value (sym c.is_some.ensures ∙ c.if-is_some.false) in
    record { noted = noted (λ k. k.items) c.args.self.now.found c.insert.new.self c.args.name.now c.args.place (rw (← c.in_ok-from_slice.ensures.items) c.in_ok-insert.ensures.updates) absent; same = tt }
