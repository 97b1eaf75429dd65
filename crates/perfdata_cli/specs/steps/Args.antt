-- Steps of private functions: the command that command-line arguments select.
use Rattle.std.specs.Prelude.{◌≡◌, ◌≢◌, ℕ, List, codes, Option, None, Some, Result, Ok, Err, String}
use Rattle.std.specs.declared.alloc.Global.{Global}
use Rattle.perfdata_cli.specs.declared.args.ArgsError.{ArgsError}
use Rattle.perfdata_cli.specs.declared.args.ArgsError.TheVariants.{Usage}
use Rattle.perfdata_cli.specs.declared.args.Command.{Command}
use Rattle.perfdata_cli.specs.Args.{SelectsBy}

-- the command that the first argument and the path select, or an error if they select none
abbrev pub ParsesVerb : List ℕ → Option (String Global) → Result Command ArgsError → Type 0
ParsesVerb verb path (Ok command) = SelectsBy verb path command
ParsesVerb verb (Some path) (Err e) = (e ≡ Usage) × ((verb ≢ codes "file") × (verb ≢ codes "jit"))
ParsesVerb verb None (Err e) = (e ≡ Usage) × (verb ≢ codes "pipe")
