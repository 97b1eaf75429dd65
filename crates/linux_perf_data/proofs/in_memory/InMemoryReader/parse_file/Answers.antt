use Rattle.std.proofs.Common.{◌≡◌, refl, sym, subst}
use Rattle.std.proofs.lemmas.Result.{err_from_is_err_and}
use Rattle.perfdata_sources.specs.Source.{memory_source_at}
use Rattle.linux_perf_data.specs.OpenedFile.{FileParsed, FileParseError}
use Rattle.linux_perf_data.specs.InMemory.{memory_state, IsInPlace}
use Rattle.linux_perf_data.proofs.InMemoryPlaces.{file_in_place}
use Rattle.linux_perf_data.proofs.in_memory.InMemoryReader.parse_file.Goals as goal

pub invariant_of-records : goal.invariant_of-records
invariant_of-records c =
    let reader = c.in_ok-reader.reader in
    let start : memory_state c.new.result ≡ memory_source_at c.args.bytes.now 0 = λ i. memory_source_at (c.new.ensures.inner i).now (c.new.ensures.position i) in
    let parsed = subst (λ s. FileParsed memory_state s reader.perf_file reader.record_iter) start c.in_ok-reader.ensures.parses in
    record { in_place = subst (λ n. IsInPlace reader.record_iter c.args.bytes.now n) (sym c.position-first_record_offset.ensures) (file_in_place c.args.bytes.now reader.perf_file reader.record_iter parsed) }

pub returns : goal.returns
returns c =
    let reader = c.in_ok-reader.reader in
    let start : memory_state c.new.result ≡ memory_source_at c.args.bytes.now 0 = λ i. memory_source_at (c.new.ensures.inner i).now (c.new.ensures.position i) in
    (subst (λ s. FileParsed memory_state s reader.perf_file reader.record_iter) start c.in_ok-reader.ensures.parses, refl)

pub returns-in_err-reader : goal.returns-in_err-reader
returns-in_err-reader c =
    let p = err_from_is_err_and c.from_residual.result c.from_residual.ensures.1 in
    let start : memory_state c.new.result ≡ memory_source_at c.args.bytes.now 0 = λ i. memory_source_at (c.new.ensures.inner i).now (c.new.ensures.position i) in
    rw (p.1, p.2) (subst (λ s. FileParseError s c.in_err-reader.field-0.0) start c.in_err-reader.ensures.parses)
