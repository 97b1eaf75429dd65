use Rattle.std.proofs.Common.{◌∙◌, ap}
use Rattle.std.specs.Io.Cursor.{cursor_position}
use Rattle.perfdata_sources.specs.Source.{memory_source_at}
use Rattle.perfdata_sources.specs.declared.endian.Endianness.TheVariants.{LittleEndian, BigEndian}
use Rattle.linux_perf_data.proofs.FileAttributes.{event_desc_read}
use Rattle.linux_perf_data.proofs.attributes.names.read_event_desc.Goals as goal

pub returns-in-LittleEndian : goal.returns-in-LittleEndian
returns-in-LittleEndian c =
    let cursor = c.new-cursor.result in
    let state = ap (λ b. memory_source_at b.now (cursor_position cursor)) c.new-cursor.ensures.inner ∙ ap (memory_source_at c.args.bytes.now) c.new-cursor.ensures.position in
    rw (c.in-LittleEndian.is) (event_desc_read LittleEndian c.args.bytes.now _ _ _ state c.parse_event_desc_section_from.ensures.reads)

pub returns-in-BigEndian : goal.returns-in-BigEndian
returns-in-BigEndian c =
    let cursor = c.new-cursor.result in
    let state = ap (λ b. memory_source_at b.now (cursor_position cursor)) c.new-cursor.ensures.inner ∙ ap (memory_source_at c.args.bytes.now) c.new-cursor.ensures.position in
    rw (c.in-BigEndian.is) (event_desc_read BigEndian c.args.bytes.now _ _ _ state c.parse_event_desc_section_from-in-BigEndian.ensures.reads)
