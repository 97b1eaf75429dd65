-- The command that command-line arguments select.
use Rattle.std.specs.Prelude.{◌≡◌, ℕ, List, [], ◌∷◌, codes, string_bytes, Option, None, Some, Result, Ok, Err, String}
use Rattle.std.specs.declared.alloc.Global.{Global}
use Rattle.perfdata_cli.specs.declared.args.ArgsError.{ArgsError}
use Rattle.perfdata_cli.specs.declared.args.ArgsError.TheVariants.{Usage}
use Rattle.perfdata_cli.specs.declared.args.Command.{Command}
use Rattle.perfdata_cli.specs.declared.args.Command.TheVariants.{File, Pipe, Jit}

-- the first argument and the path select this command
abbrev pub SelectsBy : List ℕ → Option (String Global) → Command → Type 0
SelectsBy verb (Some path) (File p) = (verb ≡ codes "file") × (p ≡ path)
SelectsBy verb (Some path) (Jit p) = (verb ≡ codes "jit") × (p ≡ path)
SelectsBy verb None Pipe = verb ≡ codes "pipe"
SelectsBy verb _ _ = ⊥

-- these arguments, of which the first is the program's name, select this command
abbrev pub Selects : List (String Global) → Command → Type 0
Selects (program ∷ (verb ∷ [])) command = SelectsBy (string_bytes verb) None command
Selects (program ∷ (verb ∷ (path ∷ []))) command = SelectsBy (string_bytes verb) (Some path) command
Selects _ _ = ⊥

-- the command that the arguments select, or an error if they select none
abbrev pub ParsesArgs : List (String Global) → Result Command ArgsError → Type 0
ParsesArgs args (Ok command) = Selects args command
ParsesArgs args (Err e) = (e ≡ Usage) × ((command : Command) → ¬ Selects args command)
