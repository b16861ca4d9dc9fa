-- Fields whose names and values stand one after another in a text.
use Rattle.std.specs.Prelude.{ℕ, Bool, IsTrue, ◌&&◌, ◌==◌, nat_le, List, [], ◌∷◌, length, slice_range}
use Rattle.std.specs.List.{list_all}
use Rattle.std.specs.Str.{is_utf8}
use Rattle.slee_value.specs.Name.{is_name}
use Rattle.signal_script.specs.declared.fields.FieldEnds.{FieldEnds}

-- the fields of which these are the ends, behind so many bytes of the text
abbrev pub fields_behind : List ℕ → ℕ → List FieldEnds → List (List ℕ × List ℕ)
fields_behind text from [] = []
fields_behind text from (e ∷ es) = (slice_range text from e.name, slice_range text e.name e.value) ∷ fields_behind text e.value es

-- the ends never fall, and the last of them is where the text ends
abbrev pub are_ends : ℕ → ℕ → List FieldEnds → Bool
are_ends len from [] = from == len
are_ends len from (e ∷ es) = nat_le from e.name && (nat_le e.name e.value && are_ends len e.value es)

-- a name and a text
abbrev pub is_text_field : List ℕ × List ℕ → Bool
is_text_field field = is_name field.0 && is_utf8 field.1

-- the fields behind so many bytes of a text are names and texts, and the text is all theirs
pub record AreFields (text : List ℕ) (from : ℕ) (ends : List FieldEnds) : Type 0 where
  pub rising : IsTrue (are_ends (length text) from ends)
  pub texts : IsTrue (list_all is_text_field (fields_behind text from ends))
