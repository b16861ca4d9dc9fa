use Rattle.std.proofs.Common.{◌≡◌, Some, Result, Ok, Err, ap, ◌∙◌}
use Rattle.std.specs.Result.{result_ok}
use Rattle.slee_value.specs.declared.fault.PartFault.{PartFault}
use Rattle.slee_value.specs.Reading.{Fault, Gives}
use Rattle.commit_journal.proofs.Spelled.{header_found}
use Rattle.commit_journal.proofs.reading.header_of.Goals as goal

-- the part behind an answer that is one
part_is : {X Y : Type 0} (view : X → Y) (result : Result X PartFault) (read : Result Y Fault) (x : X) → Some x ≡ result_ok result → Gives view result read → read ≡ Ok (view x)
part_is view (Ok y) read x is gives = let same : y ≡ x = cc in gives ∙ ap (λ z. Ok (view z)) same
part_is view (Err e) read x is gives = absurd cc

pub returns-in-len1-up : goal.returns-in-len1-up
returns-in-len1-up c =
    header_found c.args.bytes.now c.in_ok-format.rest.now _ c.in_ok-generation.rest.now c.in_ok-deployment.rest.now c.in_ok-snapshot.rest.now c.in_ok-format.ensures
    (part_is _ c.read_u64.result _ _ c.in_ok-generation.ensures.value c.read_u64.ensures.part)
    (part_is _ c.read_bytes.result _ _ c.in_ok-deployment.ensures.value c.read_bytes.ensures.part)
    (part_is _ c.read_bytes-2.result _ _ c.in_ok-snapshot.ensures.value c.read_bytes-2.ensures.part) c.in-len1-up.len_at_least
