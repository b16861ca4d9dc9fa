use Rattle.std.proofs.Common.{◌≡◌, ◌++◌, take, drop}
use Rattle.script_meaning.specs.Overlay.{put}
use Rattle.script_run_reads.proofs.refs.put.Given as goal

-- the thing has its place behind those so far
abbrev pub invariant-loop-place : goal.invariant-loop-place
invariant-loop-place l = (l.refs.items ≡ l.initial.refs.items) × (put l.one l.refs.items ≡ take l.place l.refs.items ++ put l.one (drop l.place l.refs.items))
