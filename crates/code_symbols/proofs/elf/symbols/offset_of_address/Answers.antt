use Rattle.std.proofs.Common.{false, ℕ, ◌+◌, ◌++◌, List, take, drop, get_or, refl, sym, ap, subst, ◌∙◌, arith}
use Rattle.std.specs.Prelude.{All}
use Rattle.std.proofs.lemmas.List.{drop_more, take-append-drop, take_all}
use Rattle.code_symbols.specs.ElfSymbols.{Loads}
use Rattle.code_symbols.specs.declared.elf.header.Segment.{Segment}
use Rattle.code_symbols.proofs.elf.symbols.offset_of_address.Goals as goal

abbrev none : Segment
none = record { offset = 0; address = 0; memory_size = 0; file_size = 0; is_executable = false }

pub returns-then-address-segment : goal.returns-then-address-segment
returns-then-address-segment c =
    let segments : List Segment = c.args.segments.now in
    let i : ℕ = c.segments.segment-index in
    record {
      before = take i segments;
      segment = get_or segments i none;
      after = drop (i + 1) segments;
      list = sym (take-append-drop i segments) ∙ ap (λ rest. take i segments ++ rest) (drop_more segments i none c.segments-test.true);
      loads = record { starts = c.if-segment-address.true; ends = omega (arith, c.if-segment-address.true, c.if-address-segment.true) };
      first = c.segments.invariant;
      is = refl;
    }

pub returns : goal.returns
returns c = subst (All (λ s. ¬ Loads s c.args.address)) (take_all c.segments.segment-index c.args.segments.now (omega (arith, c.segments-test.false))) c.segments.invariant
