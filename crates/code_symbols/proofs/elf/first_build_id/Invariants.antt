use Rattle.std.proofs.Common.{◌≡◌, None, take}
use Rattle.std.specs.Prelude.{All, IfSome}
use Rattle.perfdata_sources.specs.Source.{all_bytes_of}
use Rattle.code_symbols.specs.BuildIds.{IsIdInRange}
use Rattle.code_symbols.proofs.elf.first_build_id.Given as goal

abbrev pub invariant-notes : goal.invariant-notes
invariant-notes g l = record {
  bytes : all_bytes_of (g.R.Source.state l.source).position ≡ all_bytes_of (g.R.Source.state l.fn.source).position;
  none : IfSome (all_bytes_of (g.R.Source.state l.fn.source).position) (λ all. All (λ r. IsIdInRange l.encoding all r None) (take l.range-index l.notes));
}
