use Rattle.std.proofs.Common.{◌∙◌, ap, subst, refl, inl, inr, List}
use Rattle.std.specs.Prelude.{map}
use Rattle.perfdata_simpleperf.specs.FileRecord.{FileValue, record_value}
use Rattle.perfdata_arrays.specs.Status.{error_status}
use Rattle.perfdata_arrays.specs.SymbolTables.{SymbolArrays, WritesFilesOrPrefix}
use Rattle.perfdata_arrays.proofs.symbol_tables.symbol_tables.Goals as goal

pub returns-in-Ok : goal.returns-in-Ok
returns-in-Ok c =
    let old : SymbolArrays = record { files = c.args.files.now; symbols = c.args.symbols.now; names = c.args.names.now; offsets = c.args.offsets.now } in
    let new : SymbolArrays = record { files = c.write_files.new.files; symbols = c.write_files.new.symbols; names = c.write_files.new.names; offsets = c.write_files.new.offsets } in
    let all : List FileValue = map record_value c.in-Ok.records.items in
    let written = subst (λ l. WritesFilesOrPrefix (map record_value l) old c.write_files.result new) c.as_slice.ensures.value c.write_files.ensures in
    record {
      outcome = inl (all, c.in-Ok.ensures.parses, written);
      valid = λ vs is. inl (subst (λ l. WritesFilesOrPrefix l old c.write_files.result new) (c.in-Ok.ensures.no_other vs is) written);
    }

pub returns-in-Err : goal.returns-in-Err
returns-in-Err c = record {
  outcome = inr ((c.in-Err.error, c.status_of_error.ensures, λ other. elim c.in-Err.ensures.parses [ inl memory ↦ absurd (other memory) | inr cause ↦ cause ]), c.no_totals.ensures, refl);
  valid = λ vs is. inr (c.status_of_error.ensures ∙ ap error_status (c.in-Err.ensures.no_other vs is));
}
