use Rattle.std.proofs.Common.{◌∙◌, ◌≡◌, sym, ap, List, ℕ, length, arith}
use Rattle.std.proofs.lemmas.Bool.Decides.{nat_tests}
use Rattle.signal_script.specs.WordText.{unescaped}
use Rattle.signal_script.proofs.WordTextLemmas.{with_bytes, one_byte_more, made_utf8}
use Rattle.signal_script.proofs.unescaping.read_escapes.Goals as goal

pub loop-rest-preserved : goal.loop-rest-preserved
loop-rest-preserved c =
    let more = one_byte_more c.args.word c.loop-rest.made.items c.loop-rest.rest.now c.in-Some.after.now c.in-Some.byte c.in-Some.ensures.some in
    c.loop-rest.invariant ∙ more ∙ ap (λ (bytes : List ℕ). with_bytes bytes (unescaped c.args.word c.in-Some.after.now)) (sym c.in_ok-push.ensures.items)

pub unwrap-requires : goal.unwrap-requires
unwrap-requires c =
    let none : length c.loop-rest.rest.now ≡ 0 = grind (arith, nat_tests) in
    c.from_utf8.ensures.succeeds (made_utf8 c.args.word c.args.text.now c.loop-rest.made.items c.loop-rest.rest.now c.loop-rest.invariant none c.utf8.text)
