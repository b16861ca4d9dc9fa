-- What the check of a text as a script finds.
use Rattle.std.specs.Prelude.{ℕ, Bool, true, false, not, ◌||◌, ◌==◌, nat_le, nat_lt, Result, Ok, Err, if◌then◌else◌}
use Rattle.std.specs.Str.{is_utf8}
use Rattle.script_tree.specs.Tree.{Bytes, Statements}
use Rattle.script_tree.specs.declared.fault.SyntaxFault.{SyntaxFault}
use Rattle.script_tree.specs.Reading.{script_read}
use Rattle.script_types.specs.declared.misuse.CheckBad.{CheckBad}
use Rattle.script_types.specs.declared.misuse.CheckBad.TheVariants as bad
use Rattle.script_types.specs.TypingResult.{Checked}
use Rattle.script_types.specs.TypingExpressions.{Setting}
use Rattle.script_types.specs.Scopes.{Scope}
use Rattle.script_types.specs.ElaborationOfStatements.{MadeAll, statements_made}
use Rattle.check_hints.specs.declared.checking.Finding.{Finding}
use Rattle.check_hints.specs.declared.checking.Finding.TheVariants as findings

abbrev pub probe_check : Checked MadeAll → Finding
probe_check (Ok made) = findings.Fine
probe_check (Err misuse) = findings.At misuse

unfoldable pub probe_script : Setting → Scope → Statements → Finding
probe_script s scope script = probe_check (statements_made s scope 0 script)

unfoldable pub probe_read : Setting → Scope → Result Statements SyntaxFault → Finding
probe_read s scope (Ok script) = probe_script s scope script
probe_read s scope (Err fault) = findings.Unread

-- what the check of a text finds, where these variables are visible at its start
unfoldable pub probe : Setting → Scope → Bytes → Finding
probe s scope text = if is_utf8 text then probe_read s scope (script_read text) else findings.Unread

abbrev pub is_mismatch : CheckBad → Bool
is_mismatch bad.Mismatch = true
is_mismatch bad.Name = false
is_mismatch bad.Count = false
is_mismatch bad.Place = false

-- whether the text is a script whose first misuse, if it has one, isn't at one of the tokens from one place to before another
abbrev pub stands_outside : Finding → ℕ → ℕ → Bool
stands_outside findings.Unread from to = false
stands_outside findings.Fine from to = true
stands_outside (findings.At misuse) from to = nat_lt misuse.at from || nat_le to misuse.at

-- whether the text is a script whose first misuse isn't a type at that place
abbrev pub fits_at : Finding → ℕ → Bool
fits_at findings.Unread at = false
fits_at findings.Fine at = true
fits_at (findings.At misuse) at = not (misuse.at == at) || not (is_mismatch misuse.kind)
