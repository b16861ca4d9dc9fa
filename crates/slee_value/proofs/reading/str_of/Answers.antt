use Rattle.std.proofs.Common.{◌≡◌, sym, ap, ◌∙◌, take, length, Ok}
use Rattle.slee_value.specs.Reading.{text_fault, unless_fault}
use Rattle.slee_value.proofs.TextLemmas.{text_bad, text_short, text_whole}
use Rattle.slee_value.proofs.reading.str_of.Goals as goal

pub returns-in-Err-clause-text : goal.returns-in-Err-clause-text
returns-in-Err-clause-text c = text_bad c.fault_at.result c.args.len c.good_len_of-good.result c.front_of-front.result.now c.args.bytes.now c.front_of-front.ensures c.in-Err.ensures.cases.0 c.good_len_of-good.ensures.value c.fault_at.ensures.fault

pub returns-then-bytes-len-clause-text : goal.returns-then-bytes-len-clause-text
returns-then-bytes-len-clause-text c =
    rw (text_short c.args.len c.front_of-front.result.now c.args.bytes.now c.front_of-front.ensures c.in-Ok.ensures.cases.1 c.if-bytes-len.true)

pub returns-else-bytes-len-clause-text : goal.returns-else-bytes-len-clause-text
returns-else-bytes-len-clause-text c =
    rw (text_whole c.args.len c.front_of-front.result.now c.args.bytes.now c.front_of-front.ensures c.in-Ok.ensures.cases.1 c.if-bytes-len.false) (ap Ok (sym (c.in-Ok.ensures.cases.0 ∙ c.front_of-front.ensures)))
