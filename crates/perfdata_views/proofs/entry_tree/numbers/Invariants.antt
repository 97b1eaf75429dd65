use Rattle.std.proofs.Common.{◌∷◌, drop, map, reverse}
use Rattle.perfdata_profile.specs.Names.{names_of}
use Rattle.perfdata_profile.specs.Profiles.{lists_of}
use Rattle.perfdata_profile.specs.Values.{name_at, thread_key}
use Rattle.perfdata_views.specs.Lines.{thread_text}
use Rattle.perfdata_views.specs.steps.Numbering.{HasNumbers}
use Rattle.perfdata_views.proofs.entry_tree.numbers.Given as goal

abbrev pub invariant-frames : goal.invariant-frames
invariant-frames l = HasNumbers (names_of l.fn.texts) (names_of l.texts) (thread_text (thread_key (lists_of l.tables) l.key.thread) ∷ reverse (drop l.index (map (name_at (lists_of l.tables)) l.functions))) l.numbers.items
