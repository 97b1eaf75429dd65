use Rattle.std.proofs.Common.{take}
use Rattle.std.specs.List.{flat_map}
use Rattle.std.specs.String.{string_bytes}
use Rattle.pprof.specs.Wire.{bytes_field}
use Rattle.pprof.specs.steps.Wire.{Appends}
use Rattle.pprof.proofs.encode.push_texts.Given as goal

abbrev pub invariant-texts : goal.invariant-texts
invariant-texts l = Appends l.initial.bytes.items (flat_map (λ text. bytes_field l.field (string_bytes text)) (take l.text-index l.texts)) l.bytes.items
