use Rattle.std.proofs.Common.{inl, inr, ap, sym, refl, ◌∙◌, subst, ◌+◌, ◌<◌, ◌^◌, length, map, List, ℕ, arith}
use Rattle.commit_journal.specs.Views.{head_view, IsCause, kept_found, payload_of, IsFresh}
use Rattle.commit_journal.proofs.Recovers.{if_ok, if_err, reads_wrong, reads_nothing, reads_records, stands_in, header_fits, head_fits, bytes_on, short_on, same_first, both_blank}
use Rattle.commit_journal.proofs.recovery.recover.Goals as goal

pub keep-requires : goal.keep-requires
keep-requires c =
    let chose = rw c.in-Ok-Some.field-0-is at c.in-Ok-Some.ensures in
    let fits = bytes_on c.in-Ok-Some.side c.args.a.now c.args.b.now (λ i. omega (arith, c.type_inv.a i)) (λ i. omega (arith, c.type_inv.b i)) in
    let size = header_fits (record { a = c.args.a.now; b = c.args.b.now }) c.in-Ok-Some.side (head_view c.in-Ok-Some.heading) c.in-Ok-Some.gates.now fits chose.1 in
    let short = short_on c.in-Ok-Some.side c.args.a.now c.args.b.now c.requires.sizes.0 c.requires.sizes.1 in
    omega (arith, size, short)

pub returns-in-Err-clause-cause : goal.returns-in-Err-clause-cause
returns-in-Err-clause-cause c = reads_wrong c.args.deployment.now (record { a = c.args.a.now; b = c.args.b.now }) c.in-Err.side c.in-Err.kind c.in-Err.ensures

pub returns-in-Ok-Some-clause-found : goal.returns-in-Ok-Some-clause-found
returns-in-Ok-Some-clause-found c =
    let chose = rw c.in-Ok-Some.field-0-is at c.in-Ok-Some.ensures in
    let read = reads_records c.args.deployment.now (record { a = c.args.a.now; b = c.args.b.now }) c.in-Ok-Some.side (head_view c.in-Ok-Some.heading) c.in-Ok-Some.gates.now chose.0 chose.1 in
    if_ok c.keep.result _ _ c.keep.ensures.kept (λ f is. inl (is.0, read ∙ is.1))

pub returns-in-Ok-Some-clause-stands : goal.returns-in-Ok-Some-clause-stands
returns-in-Ok-Some-clause-stands c =
    let chose = rw c.in-Ok-Some.field-0-is at c.in-Ok-Some.ensures in
    let fits = bytes_on c.in-Ok-Some.side c.args.a.now c.args.b.now (λ i. omega (arith, c.type_inv.a i)) (λ i. omega (arith, c.type_inv.b i)) in
    if_ok c.keep.result _ _ c.keep.ensures.kept (λ f is stage.
    stands_in c.args.deployment.now (record { a = c.args.a.now; b = c.args.b.now }) c.in-Ok-Some.side (head_view c.in-Ok-Some.heading) c.in-Ok-Some.gates.now (kept_found f) f.end fits chose.0 chose.1 is.1 is.2)

pub returns-in-Ok-Some-clause-short : goal.returns-in-Ok-Some-clause-short
returns-in-Ok-Some-clause-short c =
    let chose = rw c.in-Ok-Some.field-0-is at c.in-Ok-Some.ensures in
    let fits = bytes_on c.in-Ok-Some.side c.args.a.now c.args.b.now (λ i. omega (arith, c.type_inv.a i)) (λ i. omega (arith, c.type_inv.b i)) in
    let head = head_fits (record { a = c.args.a.now; b = c.args.b.now }) c.in-Ok-Some.side (head_view c.in-Ok-Some.heading) c.in-Ok-Some.gates.now fits chose.1 in
    if_ok c.keep.result _ _ c.keep.ensures.named (λ f is stage. subst (λ (l : List ℕ). length l < 2 ^ 32) (sym is.1) head.deployment)

pub returns-in-Ok-Some-clause-cause : goal.returns-in-Ok-Some-clause-cause
returns-in-Ok-Some-clause-cause c =
    let chose = rw c.in-Ok-Some.field-0-is at c.in-Ok-Some.ensures in
    let read = reads_records c.args.deployment.now (record { a = c.args.a.now; b = c.args.b.now }) c.in-Ok-Some.side (head_view c.in-Ok-Some.heading) c.in-Ok-Some.gates.now chose.0 chose.1 in
    if_err c.keep.result _ _ c.keep.ensures.cause (λ e is. subst (IsCause e) (sym read) is)

pub returns-in-Ok-Some-clause-blank : goal.returns-in-Ok-Some-clause-blank
returns-in-Ok-Some-clause-blank c = if_ok c.keep.result _ _ c.keep.ensures.kept (λ f is stage. absurd (cc (sym is.0 ∙ stage)))

pub returns-in-Ok-Some-clause-first : goal.returns-in-Ok-Some-clause-first
returns-in-Ok-Some-clause-first c = if_ok c.keep.result _ _ c.keep.ensures.kept (λ f is stage. absurd (cc (sym is.0 ∙ stage)))

pub returns-in_ok-kept-in-Ok-None-clause-found : goal.returns-in_ok-kept-in-Ok-None-clause-found
returns-in_ok-kept-in-Ok-None-clause-found c =
    let chose = rw c.in-Ok-None.field-0-is at c.in-Ok-None.ensures in
    inr (
      refl,
      reads_nothing c.args.deployment.now (record { a = c.args.a.now; b = c.args.b.now }) chose,
      same_first c.in_ok-kept-in-Ok-None.kept c.args.deployment.now c.new.result (map payload_of c.new-in-Ok-None.result.items) c.in_ok-kept-in-Ok-None.ensures c.new.ensures (ap (map payload_of) c.new-in-Ok-None.ensures.items),
    )

pub returns-in_ok-kept-in-Ok-None-clause-blank : goal.returns-in_ok-kept-in-Ok-None-clause-blank
returns-in_ok-kept-in-Ok-None-clause-blank c stage = both_blank _ _ (rw c.in-Ok-None.field-0-is at c.in-Ok-None.ensures)

pub returns-in-Ok-Some-clause-fresh : goal.returns-in-Ok-Some-clause-fresh
returns-in-Ok-Some-clause-fresh c = if_ok c.keep.result _ _ c.keep.ensures.kept (λ f is. subst IsFresh (sym is.0) tt)

pub returns-in-Ok-Some-clause-sized : goal.returns-in-Ok-Some-clause-sized
returns-in-Ok-Some-clause-sized c =
    let chose = rw c.in-Ok-Some.field-0-is at c.in-Ok-Some.ensures in
    let fits = bytes_on c.in-Ok-Some.side c.args.a.now c.args.b.now (λ i. omega (arith, c.type_inv.a i)) (λ i. omega (arith, c.type_inv.b i)) in
    let head = head_fits (record { a = c.args.a.now; b = c.args.b.now }) c.in-Ok-Some.side (head_view c.in-Ok-Some.heading) c.in-Ok-Some.gates.now fits chose.1 in
    if_ok c.keep.result _ _ c.keep.ensures.named (λ f is. subst (λ (l : List ℕ). length l + 64 < 2 ^ 63) (sym is.1) (let deployment = head.deployment in omega (arith, deployment)))
