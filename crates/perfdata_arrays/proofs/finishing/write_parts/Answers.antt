use Rattle.perfdata_arrays.proofs.WrittenLemmas.{writes_then}
use Rattle.perfdata_arrays.proofs.finishing.write_parts.Goals as goal

pub returns : goal.returns
returns c =
    writes_then c.write_header.ensures (writes_then c.write_records.ensures (writes_then c.write_section_table.ensures
    (writes_then c.write_sections.ensures c.write_event_types.ensures)))
