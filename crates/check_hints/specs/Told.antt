-- The types that are told of a place of a text.
use Rattle.std.specs.Prelude.{◌&&◌, ◌==◌, Bool, Option, None, if◌then◌else◌}
use Rattle.script_tree.specs.Tree.{Bytes}
use Rattle.script_tree.specs.declared.scanning.Place.{Place}
use Rattle.script_tree.specs.Reading.{place_of_token}
use Rattle.script_types.specs.declared.misuse.Misuse.{Misuse}
use Rattle.script_types.specs.TypingExpressions.{Setting}
use Rattle.script_types.specs.Scopes.{Scope}
use Rattle.check_hints.specs.declared.checking.Finding.{Finding}
use Rattle.check_hints.specs.declared.checking.Finding.TheVariants as findings
use Rattle.check_hints.specs.Probes.{is_mismatch, probe}
use Rattle.check_hints.specs.Mismatches.{Types, mismatch}

abbrev pub is_place : Place → Place → Bool
is_place p q = p.line == q.line && p.column == q.column

-- whether a misuse is a type, at that place of the text
abbrev pub is_at : Bytes → Misuse → Place → Bool
is_at text misuse place = is_mismatch misuse.kind && is_place (place_of_token text misuse.at) place

abbrev pub told_of : Setting → Scope → Bytes → Place → Finding → Option Types
told_of s scope text place (findings.At misuse) = if is_at text misuse place then mismatch s scope text misuse.at else None
told_of s scope text place findings.Fine = None
told_of s scope text place findings.Unread = None

-- the types at a place, if a text's first misuse is that of a type there
abbrev pub told : Setting → Scope → Bytes → Place → Option Types
told s scope text place = told_of s scope text place (probe s scope text)
