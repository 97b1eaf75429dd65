use Rattle.std.proofs.Common.{refl}
use Rattle.code_symbols.proofs.TableLemmas.{of_context}
use Rattle.code_symbols.proofs.elf.symbols_of_parts.Goals as goal

pub returns : goal.returns
returns c =
    of_context _ c.args.header c.args.sections.now c.args.segments.now c.args.entry_size _ _ c.args.parts (record { names = c.into_bytes.result; symbols = c.add_symbols.new.symbols })
    c.in_ok-add_symbols.ensures.all c.new-symbols.ensures.items c.deref-4.ensures.value refl refl refl c.deref.ensures.value c.deref-2.ensures.value
    c.deref-3.ensures.value refl c.into_bytes.ensures
