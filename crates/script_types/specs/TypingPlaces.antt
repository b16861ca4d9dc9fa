-- The line and column of a misuse in the text of a script.
use Rattle.script_types.specs.declared.misuse.Misuse.{Misuse}
use Rattle.script_tree.specs.Tree.{Bytes}
use Rattle.script_tree.specs.declared.scanning.Place.{Place}
use Rattle.script_tree.specs.Reading.{place_of_token}

abbrev pub place_of_misuse : Bytes → Misuse → Place
place_of_misuse text misuse = place_of_token text misuse.at
