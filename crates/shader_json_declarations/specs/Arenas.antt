-- Arenas in the JSON of modules.
use Rattle.std.specs.Prelude.{◌≤◌, List, length}
use Rattle.shader_arena.specs.Positions.{most_items}
use Rattle.shader_json_reader.specs.Shapes.{IsList, Reading}

-- an array stands for a list that has a handle for each item
abbrev pub IsArena : {A : Type 0} → Reading A → Reading (List A)
IsArena R j xs = IsList R j xs × (length xs ≤ most_items)
