-- Where the scripts of a deployment stand: their JSON pointers, and their texts.
use Rattle.std.specs.Prelude.{ℕ, ◌++◌, List, [], Option, codes, decimal, option_and_then, slice_get}
use Rattle.std.specs.Option.{option_map_or}
use Rattle.script_tree.specs.declared.script.Script.{Script}
use Rattle.script_tree.specs.Tree.{Bytes}
use Rattle.script_types.specs.declared.codes.BlockCode.{BlockCode}
use Rattle.script_types.specs.declared.codes.CodePart.{CodePart}
use Rattle.script_types.specs.declared.codes.CodePart.TheVariants as part
use Rattle.script_types.specs.declared.codes.CodePlace.{CodePlace}

-- a method's name by the numbers of its block and of itself
abbrev pub method_name : List BlockCode → ℕ → ℕ → Bytes
method_name blocks block n = option_map_or (λ m. m.name) (option_and_then (λ b. slice_get b.methods n) (slice_get blocks block)) []

-- the members and items that lead from a block to one of its scripts
abbrev pub path_in_block : List BlockCode → ℕ → CodePart → Bytes
path_in_block blocks block (part.Handler n) = codes "/events/" ++ decimal n ++ codes "/on"
path_in_block blocks block (part.Method n) = codes "/methods/" ++ method_name blocks block n ++ codes "/do"
path_in_block blocks block part.Exception = codes "/exception"
path_in_block blocks block part.RolledBack = codes "/rolled_back"
path_in_block blocks block part.Remove = codes "/remove"

-- a script's JSON pointer
abbrev pub path_of : List BlockCode → CodePlace → Bytes
path_of blocks place = codes "/blocks/" ++ decimal place.block ++ path_in_block blocks place.block place.part

-- one of a block's scripts
abbrev pub script_in : BlockCode → CodePart → Option Script
script_in block (part.Handler n) = option_and_then (λ h. Option.Some h.script) (slice_get block.handlers n)
script_in block (part.Method n) = option_and_then (λ m. Option.Some m.script) (slice_get block.methods n)
script_in block part.Exception = block.exception
script_in block part.RolledBack = block.rolled_back
script_in block part.Remove = block.remove

-- a script's text
abbrev pub text_of : List BlockCode → CodePlace → Bytes
text_of blocks place = option_map_or (λ s. s.text) (option_and_then (λ b. script_in b place.part) (slice_get blocks place.block)) []
