-- What the check of bytes finds, by whether they are a text.
use Rattle.std.proofs.Common.{◌≡◌, ◌∙◌, ap, refl, sym, Bool, true, false, cond, IsUtf8}
use Rattle.std.specs.Str.{is_utf8}
use Rattle.std.proofs.lemmas.Str.{IsUtf8-from_is_utf8, is_utf8-from_IsUtf8}
use Rattle.script_tree.specs.Tree.{Bytes}
use Rattle.script_tree.specs.Reading.{script_read}
use Rattle.script_types.specs.TypingExpressions.{Setting}
use Rattle.script_types.specs.Scopes.{Scope}
use Rattle.check_hints.specs.declared.checking.Finding.{Finding}
use Rattle.check_hints.specs.declared.checking.Finding.TheVariants as findings
use Rattle.check_hints.specs.Probes.{probe, probe_read}

pub read : (s : Setting) (scope : Scope) (bytes text : Bytes) (p : Finding) → text ≡ bytes → IsUtf8 bytes → p ≡ probe_read s scope (script_read text) → p ≡ probe s scope bytes
unfolding probe
read s scope bytes text p same utf8 e = e ∙ (ap (λ t. probe_read s scope (script_read t)) same ∙ sym (ap (λ b. cond b (probe_read s scope (script_read bytes)) findings.Unread) (is_utf8-from_IsUtf8 bytes utf8)))

none : (bytes : Bytes) (b : Bool) (p : Finding) → is_utf8 bytes ≡ b → (IsUtf8 bytes → ⊥) → findings.Unread ≡ cond b p findings.Unread
none bytes true p e h = absurd (h (IsUtf8-from_is_utf8 bytes e))
none bytes false p e h = refl

pub unread : (s : Setting) (scope : Scope) (bytes : Bytes) → (IsUtf8 bytes → ⊥) → findings.Unread ≡ probe s scope bytes
unfolding probe
unread s scope bytes h = none bytes (is_utf8 bytes) (probe_read s scope (script_read bytes)) refl h
