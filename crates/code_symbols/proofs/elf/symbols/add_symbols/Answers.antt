use Rattle.std.proofs.Common.{ℕ, ◌+◌, ◌≤◌, List, [], length, sym, subst, arith}
use Rattle.std.proofs.lemmas.List.{append-nil}
use Rattle.std.proofs.lemmas.List.Elements.{All-nil}
use Rattle.code_symbols.specs.ElfSymbols.{AddsEntries, AddsFirst, IsOfEntry}
use Rattle.code_symbols.proofs.EntryLemmas.{adds_more, first_left_out, first_listed, first_none, next_offset, of_entry}
use Rattle.code_symbols.proofs.elf.symbols.add_symbols.Goals as goal
use Rattle.code_symbols.proofs.elf.symbols.add_symbols.Goals.{in-Some+in_ok-push, in_default}

pub entries-init : goal.entries-init
entries-init c =
    let context = c.args.context.now in
    let entries : List ℕ = c.args.entries.now in
    let size : ℕ = c.args.entry_size in
    let old = c.args.symbols.now.items in
    record {
      within = omega arith;
      counted = omega arith;
      added = record { added = []; appended = sym (append-nil old); each = All-nil (IsOfEntry context entries size) };
      first = first_none context entries size old;
    }

pub entries-preserved : goal.entries-preserved
entries-preserved c =
    let context = c.args.context.now in
    let entries : List ℕ = c.args.entries.now in
    let size : ℕ = c.args.entry_size in
    let at : ℕ = c.entries.at in
    let index : ℕ = c.entries.index in
    let old = c.args.symbols.now.items in
    let symbol = c.parse_symbol-symbol.result in
    let within : at + size ≤ length entries = omega (arith, c.entries.invariant.within, c.entries-test.true) in
    record {
      within = within;
      counted = next_offset index at size c.entries.invariant.counted;
      added = elim c.match-ranked.branch [
        | in-Some+in_ok-push w ↦
            subst (λ v. AddsEntries context entries size old v.items) (sym w.symbols-is)
            (subst (AddsEntries context entries size old) (sym w.in_ok-push.ensures.items)
            (adds_more context entries size old c.entries.symbols.items w.in-Some.ranked c.entries.invariant.added
            (of_entry context entries size index at symbol w.in-Some.ranked c.entries.invariant.counted within c.parse_symbol-symbol.ensures w.in-Some.ensures.ranked)))
        | in_default w ↦ subst (λ v. AddsEntries context entries size old v.items) (sym w.symbols-is) c.entries.invariant.added
      ];
      first = elim c.match-ranked.branch [
        | in-Some+in_ok-push w ↦
            subst (λ v. AddsFirst context entries size (index + 1) old v.items) (sym w.symbols-is)
            (subst (AddsFirst context entries size (index + 1) old) (sym w.in_ok-push.ensures.items)
            (first_listed context entries size index at old c.entries.symbols.items symbol w.in-Some.ranked c.entries.invariant.first
            c.entries.invariant.counted c.parse_symbol-symbol.ensures w.in-Some.ensures.ranked w.in-Some.ensures.listed))
        | in_default w ↦
            subst (λ v. AddsFirst context entries size (index + 1) old v.items) (sym w.symbols-is)
            (first_left_out context entries size index at old c.entries.symbols.items symbol c.entries.invariant.first
            c.entries.invariant.counted c.parse_symbol-symbol.ensures w.in_default.ensures.none)
      ];
    }

pub returns-clause-all : goal.returns-clause-all
returns-clause-all c =
    let size : ℕ = c.args.entry_size in
    let next = next_offset c.entries.index c.entries.at size c.entries.invariant.counted in
    record {
      count = c.entries.index;
      adds = c.entries.invariant.first;
      complete = omega (arith, next, c.entries-test.false, c.entries.invariant.within);
    }
