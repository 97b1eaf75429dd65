use Rattle.std.proofs.Common.{rules, ◌≡◌, ◌∙◌, ◌∷◌, [], ap, take}
use Rattle.std.proofs.lemmas.List.{take_rest}
use Rattle.perfdata_sources.specs.Endian.{number_in}
use Rattle.perfdata_base.specs.Header.{file_header_in, file_header_of}
use Rattle.perfdata_base.proofs.header.parse_header.Goals as goal

pub returns : goal.returns
returns c =
    let order = c.endian_by_first_byte-endian.ensures in
    let parsed : file_header_in (number_in c.endian_by_first_byte-endian.result) c.args.bytes.now ≡ file_header_of c.args.bytes.now = ap (λ endian. file_header_in (number_in endian) c.args.bytes.now) order in
    let magic : c.copy_from_slice.new.self ≡ take 8 c.args.bytes.now = search rules in
    let header_size = rw take_rest at c.read_u64.ensures in
    let attr_size = rw take_rest at c.read_u64-2.ensures in
    let attrs = rw take_rest at c.section_entry.ensures in
    let records = rw take_rest at c.section_entry-2.ensures in
    let types = rw take_rest at c.section_entry-3.ensures in
    let first = rw take_rest at c.read_u64-3.ensures in
    let second = rw take_rest at c.read_u64-4.ensures in
    let third = rw take_rest at c.read_u64-5.ensures in
    let fourth = rw take_rest at c.read_u64-6.ensures in
    (λ i. record {
      magic = magic i;
      header_size = header_size i;
      attr_size = attr_size i;
      attr_section = attrs i;
      data_section = records i;
      event_types_section = types i;
      features = record { 0 = first i ∷ second i ∷ third i ∷ fourth i ∷ [] };
    }) ∙ parsed
