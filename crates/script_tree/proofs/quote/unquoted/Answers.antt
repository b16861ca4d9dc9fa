use Rattle.std.proofs.Common.{List, ℕ, sym, subst, rules, IsCharBoundary, string_bytes}
use Rattle.script_tree.proofs.Quoting.{boundary_run, closes_in, breaks_in, read_on_in, escape_two}
use Rattle.script_tree.proofs.quote.unquoted.Goals as goal

pub split_at-requires : goal.split_at-requires
split_at-requires c = boundary_run c.runs.rest.now c.plain_len-n.result (rw c.as_bytes.ensures.value at c.plain_len-n.ensures.value)

pub returns-in-Closed : goal.returns-in-Closed
returns-in-Closed c =
    closes_in c.args.behind.now (string_bytes c.runs.text) c.runs.rest.now c.split_at.result.0.now c.from.result c.split_at.result.1.now c.runs.size c.plain_len-n.result
    c.runs.invariant.1 (rw c.as_bytes.ensures.value at c.plain_len-n.ensures.value) c.split_at.ensures.front c.split_at.ensures.back
    (rw c.from.ensures c.in_ok-push_str.ensures.bytes) (rw c.as_bytes-in-runs.ensures.value at c.in-Closed.ensures)

pub returns-in-Broken : goal.returns-in-Broken
returns-in-Broken c =
    breaks_in c.args.behind.now (string_bytes c.runs.text) c.runs.rest.now c.split_at.result.1.now c.runs.size c.plain_len-n.result
    c.runs.invariant.1 (rw c.as_bytes.ensures.value at c.plain_len-n.ensures.value) c.split_at.ensures.back (rw c.as_bytes-in-runs.ensures.value at c.in-Broken.ensures)

pub split_at-requires-in-Escape : goal.split_at-requires-in-Escape
split_at-requires-in-Escape c =
    let two = escape_two c.as_bytes-in-runs.result.now c.in-Escape.b c.as_bytes-in-runs.ensures.utf8 (sym c.in-Escape.ensures) in
    subst (λ (xs : List ℕ). IsCharBoundary xs 2) c.as_bytes-in-runs.ensures.value two.boundary

pub runs-preserved : goal.runs-preserved
runs-preserved c =
    let two = escape_two c.as_bytes-in-runs.result.now c.in-Escape.b c.as_bytes-in-runs.ensures.utf8 (sym c.in-Escape.ensures) in
    let long = rw c.as_bytes-in-runs.ensures.value at two.both in (
      search rules,
      read_on_in c.args.behind.now (string_bytes c.runs.text) c.runs.rest.now c.split_at.result.0.now (string_bytes c.push_str.new.self) (string_bytes c.push.new.self) _ c.split_at.result.1.now c.split_at-in-Escape.result.1.now c.runs.size c.plain_len-n.result c.in-Escape.b c.from-in-Escape.result
          c.runs.invariant.1 (rw c.as_bytes.ensures.value at c.plain_len-n.ensures.value) c.split_at.ensures.front c.split_at.ensures.back c.in_ok-push_str.ensures.bytes
          (rw c.as_bytes-in-runs.ensures.value at c.in-Escape.ensures) c.from-in-Escape.ensures c.push.ensures.ascii c.in_ok-push-in-Escape.ensures.bytes c.split_at-in-Escape.ensures.back long,
    )
