use Rattle.std.proofs.Common.{◌≡◌, ◌++◌, drop, map}
use Rattle.perfdata_profile.specs.Profiles.{lists_of}
use Rattle.perfdata_profile.specs.Values.{name_at}
use Rattle.perfdata_views.specs.Lines.{names_text}
use Rattle.perfdata_views.proofs.lines.push_line.Given as goal

abbrev pub invariant-frames : goal.invariant-frames
invariant-frames l = l.line.items ≡ l.initial.line.items ++ names_text (drop l.index (map (name_at (lists_of l.tables)) l.functions))
