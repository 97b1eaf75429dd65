use Rattle.std.proofs.Common.{false, ℕ, ◌+◌, ◌++◌, List, take, drop, get_or, sym, ap, subst, ◌∙◌, arith}
use Rattle.std.specs.Prelude.{All}
use Rattle.std.proofs.lemmas.List.{drop_more, take-append-drop, take_all}
use Rattle.code_symbols.specs.LoadedBytes.{HasBytesAt}
use Rattle.code_symbols.specs.declared.elf.header.Segment.{Segment}
use Rattle.code_symbols.proofs.elf.code.loaded_from.Goals as goal

abbrev none : Segment
none = record { offset = 0; address = 0; memory_size = 0; file_size = 0; is_executable = false }

pub returns-in-Some : goal.returns-in-Some
returns-in-Some c =
    let segments : List Segment = c.args.segments.now in
    let i : ℕ = c.segments.segment-index in
    record {
      before = take i segments;
      segment = get_or segments i none;
      after = drop (i + 1) segments;
      list = sym (take-append-drop i segments) ∙ ap (λ rest. take i segments ++ rest) (drop_more segments i none c.segments-test.true);
      is = c.in-Some.ensures.some;
      first = c.segments.invariant;
    }

pub returns : goal.returns
returns c = subst (All (λ s. ¬ HasBytesAt s c.args.address)) (take_all c.segments.segment-index c.args.segments.now (omega (arith, c.segments-test.false))) c.segments.invariant
