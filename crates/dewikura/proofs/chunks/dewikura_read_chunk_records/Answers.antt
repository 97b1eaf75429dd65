use Rattle.std.proofs.Common.{subst}
use Rattle.perfdata_chunks.specs.Chunks.{ReadsChunk}
use Rattle.dewikura.proofs.chunks.dewikura_read_chunk_records.Goals as goal

pub returns : goal.returns
returns c =
    let outcome = c.chunk_records-outcome.result in (
      outcome.status,
      c.code.ensures,
      subst (λ e. ReadsChunk e c.args.chunk.now c.args.attrs.now c.args.cursor.now c.args.entries.now outcome c.chunk_records-outcome.new.position c.chunk_records-outcome.new.entries)
          c.endian_from_flag-endian.ensures c.chunk_records-outcome.ensures,
    )
