use Rattle.std.proofs.Common.{sym, subst, inl, inr}
use Rattle.code_symbols.specs.PltEntries.{AddsPlt}
use Rattle.code_symbols.proofs.elf.plt.PltRelocations.add_coded.Goals as goal
use Rattle.code_symbols.proofs.elf.plt.PltRelocations.add_coded.Goals.{in-Some+in_ok-add_entries, in_default}

pub returns-in_err-add_entries-clause-adds : goal.returns-in_err-add_entries-clause-adds
returns-in_err-add_entries-clause-adds c =
    inr (record {
      entries = c.deref.result.now;
      relocations = c.in-Some.relocations.now;
      of_table = inr (c.in_ok-entries.field-0, c.in_ok-entries.ensures, c.deref.ensures.value);
      in_order = c.in-Some.ensures;
      adds = c.add_entries.ensures;
    })

pub returns-clause-adds : goal.returns-clause-adds
returns-clause-adds c =
    elim c.match-with_count.branch [
      | in-Some+in_ok-add_entries w ↦ inr (record {
        entries = w.deref.result.now;
        relocations = w.in-Some.relocations.now;
        of_table = inr (c.in_ok-entries.field-0, c.in_ok-entries.ensures, w.deref.ensures.value);
        in_order = w.in-Some.ensures;
        adds = subst (AddsPlt c.args.context.now c.args.section.now w.deref.result.now w.in-Some.relocations.now c.args.symbols.now) (sym w.symbols-is) w.add_entries.ensures;
      })
      | in_default w ↦ inl w.symbols-is
    ]
