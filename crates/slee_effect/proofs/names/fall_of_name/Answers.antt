use Rattle.std.proofs.Common.{◌+◌, refl, sym, ap, ◌∙◌, arith}
use Rattle.slee_effect.specs.Rising.{reach}
use Rattle.slee_effect.proofs.NameFallLemmas.{set_next, len_is, len_falls, len_goes_on}
use Rattle.slee_effect.proofs.names.fall_of_name.Goals as goal

pub length-init : goal.length-init
length-init c = record {
  in_bytes = omega arith;
  len = refl;
  most = c.reached-most.ensures ∙ ap (reach c.args.before.now) c.from_le_bytes.ensures;
  same = refl;
}

pub returns-then-most-eq0 : goal.returns-then-most-eq0
returns-then-most-eq0 c =
    let set = set_next c.length.len c.args.bytes.now c.length.at (omega arith) (omega arith) c.length.invariant.len in
    let most = c.reached-most-in-length.ensures ∙ ap (reach c.args.before.now) (c.from_le_bytes-in-length.ensures ∙ len_is _ c.args.bytes.now (c.length.at + 1) (omega arith) set) in
    sym (len_falls c.args.before.now c.args.bytes.now c.length.at (omega arith) (omega arith) (sym most ∙ (omega arith))) ∙ c.length.invariant.same

pub length-preserved : goal.length-preserved
length-preserved c =
    let set = set_next c.length.len c.args.bytes.now c.length.at (omega arith) (omega arith) c.length.invariant.len in
    let most = c.reached-most-in-length.ensures ∙ ap (reach c.args.before.now) (c.from_le_bytes-in-length.ensures ∙ len_is _ c.args.bytes.now (c.length.at + 1) (omega arith) set) in
    record {
      in_bytes = omega arith;
      len = set;
      most = most;
      same = sym (len_goes_on c.args.before.now c.args.bytes.now c.length.at (omega arith) (omega arith) (λ z. omega (arith, most, z))) ∙ c.length.invariant.same;
    }
