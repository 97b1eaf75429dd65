use Rattle.std.proofs.Common.{◌++◌, sym, subst, arith}
use Rattle.std.specs.Prelude.{codes}
use Rattle.code_symbols.specs.PltEntries.{AddsPlt, HasText}
use Rattle.code_symbols.specs.declared.elf.plt.PltEntry.{PltEntry}
use Rattle.code_symbols.specs.declared.elf.plt.Relocation.{Relocation}
use Rattle.code_symbols.specs.declared.elf.plt.RelocationKind.TheVariants.{Function}
use Rattle.code_symbols.proofs.PltLemmas.{plt_more, plt_names, plt_none}
use Rattle.code_symbols.proofs.elf.plt.add_entries.Goals as goal
use Rattle.code_symbols.proofs.elf.plt.add_entries.Goals.{then-not-is_empty+in_ok-add_entry, else-not-is_empty}

abbrev none : Relocation
none = record { offset = 0; symbol = 0; kind = Function }

abbrev no_entry : PltEntry
no_entry = record { offset = 0; size = 0 }

pub relocations-init : goal.relocations-init
relocations-init c = plt_none c.args.context.now c.args.section.now c.args.entries.now c.args.relocations.now c.args.symbols.now

pub relocations-preserved : goal.relocations-preserved
relocations-preserved c =
    let context = c.args.context.now in
    let section = c.args.section.now in
    let entries = c.args.entries.now in
    let relocations = c.args.relocations.now in
    let old = c.args.symbols.now in
    elim c.if-not-is_empty.branch [
      | then-not-is_empty+in_ok-add_entry w ↦
          let added = w.in_ok-add_entry.ensures.ok in
          let names = w.in_ok-add_entry.ensures.names in
          subst (AddsPlt context section entries relocations old) (sym w.symbols-is)
          (plt_more context section entries relocations old c.relocations.symbols w.add_entry.new.symbols c.relocations.index none no_entry names.0 added.0 c.relocations.invariant c.relocations-test.true
          (omega (arith, c.if-index-entries.false)) names.1 added.1 added.2
          (subst (λ text. HasText w.add_entry.new.symbols.names.items (text ++ codes "@plt") added.0) c.relocation_name-name.ensures added.3))
      | else-not-is_empty w ↦ subst (AddsPlt context section entries relocations old) (sym w.symbols-is) c.relocations.invariant
    ]

pub returns-in_err-add_entry : goal.returns-in_err-add_entry
returns-in_err-add_entry c =
    let names = c.in_err-add_entry.ensures.names in
    plt_names c.args.context.now c.args.section.now c.args.entries.now c.args.relocations.now c.args.symbols.now c.relocations.symbols c.add_entry.new.symbols names.0
    c.relocations.invariant c.in_err-add_entry.ensures.err names.1
