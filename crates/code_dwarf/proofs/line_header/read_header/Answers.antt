use Rattle.std.proofs.Common.{◌≡◌, ◌+◌, ◌-◌, ◌%◌, ◌≤◌, ℕ, length, refl, sym, subst, arith, rules}
use Rattle.std.proofs.lemmas.Grind.{common_steps}
use Rattle.std.proofs.lemmas.Int.{ints}
use Rattle.code_dwarf.specs.steps.Numbers.{NumberAt, SkippedAt}
use Rattle.code_dwarf.specs.steps.LineHeaders.{AddressSizeAt, ParametersAt}
use Rattle.code_dwarf.proofs.line_header.read_header.Goals as goal

pub returns : goal.returns
returns c =
    let endian = c.args.endian in
    let given = c.args.has_64_bit_addresses in
    let version = c.in_ok-version.version in
    let low = c.if-version-lt2.false in
    let high = c.if-version-gt5.false in
    let same : version % 65536 ≡ version = omega (arith, high) in
    let to_bytes = c.in_ok-bytes.ensures.shorter in
    let to_mid = c.in_ok-length.ensures.shorter in
    let contents_sizes = c.in_ok-contents.ensures.sizes in
    let to_version = c.in_ok-version.ensures.shorter in
    let to_size = c.in_ok-is_wide.ensures.shorter in
    let to_length = c.in_ok-size.ensures.shorter in
    let header_sizes = c.in_ok-header.ensures.sizes in
    let to_counts = c.in_ok-parameters.ensures.shorter in
    let to_tables = c.in_ok-tables.ensures.shorter in
    let end : c.saturating_sub-end.result ≡ length c.args.section.now - length c.in_ok-contents.rest.now = c.saturating_sub-end.ensures in
    let tables_end : c.saturating_sub-tables_end.result ≡ c.saturating_sub-end.result - length c.in_ok-header.instructions.now = c.saturating_sub-tables_end.ensures in
    let counts_start : c.saturating_sub-counts_start.result ≡ c.saturating_sub-tables_end.result - length c.in_ok-parameters.counts.now = c.saturating_sub-counts_start.ensures in
    let tables_start : c.saturating_sub-tables_start.result ≡ c.saturating_sub-tables_end.result - length c.in_ok-tables.tables.now = c.saturating_sub-tables_start.ensures in
    let count : c.saturating_sub-count.result ≡ c.in_ok-parameters.parameters.opcode_base - 1 = c.saturating_sub-count.ensures in
    record {
      bytes = c.in_ok-bytes.bytes.now;
      is_64 = c.in_ok-length.length.is_64_bit;
      len = c.in_ok-length.length.size;
      mid = c.in_ok-length.after.now;
      contents = c.in_ok-contents.contents.now;
      rest = c.in_ok-contents.rest.now;
      after_version = c.in_ok-version.after_version.now;
      after_size = c.in_ok-is_wide.after_size.now;
      size = c.in_ok-size.size;
      after_length = c.in_ok-size.after_length.now;
      header = c.in_ok-header.header.now;
      instructions = c.in_ok-header.instructions.now;
      parameters = c.in_ok-parameters.parameters;
      counts = c.in_ok-parameters.counts.now;
      tables = c.in_ok-tables.tables.now;
      bytes_at = c.in_ok-bytes.ensures.found;
      length_at = c.in_ok-length.ensures.found;
      contents_at = c.in_ok-contents.ensures.found;
      version_at = subst (λ (v : ℕ). NumberAt endian 2 c.in_ok-contents.contents.now v c.in_ok-version.after_version.now) (sym same) c.in_ok-version.ensures.found;
      lowest_version = omega (arith, same, low);
      highest_version = omega (arith, same, high);
      size_at = subst (λ (v : ℕ). AddressSizeAt v given c.in_ok-version.after_version.now c.in_ok-is_wide.is_wide c.in_ok-is_wide.after_size.now) (sym same) c.in_ok-is_wide.ensures.found;
      header_length_at = c.in_ok-size.ensures.found;
      header_at = c.in_ok-header.ensures.found;
      parameters_at = subst (λ (v : ℕ). ParametersAt v c.in_ok-header.header.now c.in_ok-parameters.parameters c.in_ok-parameters.counts.now) (sym same) c.in_ok-parameters.ensures.found;
      tables_at = subst (λ (n : ℕ). SkippedAt n c.in_ok-parameters.counts.now c.in_ok-tables.tables.now) count c.in_ok-tables.ensures.found;
      endian_is = refl;
      format_is = refl;
      minimum_is = refl;
      maximum_is = refl;
      line_base_is = first_of (search rules, grind (arith, common_steps, ints, c.signed_byte-line_base.ensures));
      line_range_is = refl;
      opcode_base_is = refl;
      ends = omega (arith, end, to_bytes, to_mid, contents_sizes);
      instructions_start = omega (arith, end, tables_end, to_bytes, to_mid, contents_sizes, to_version, to_size, to_length, header_sizes);
      tables_end = refl;
      header_end = refl;
      tables_start = omega (arith, end, tables_end, tables_start, to_bytes, to_mid, contents_sizes, to_version, to_size, to_length, header_sizes, to_counts, to_tables);
      counts_start = omega (arith, end, tables_end, counts_start, to_bytes, to_mid, contents_sizes, to_version, to_size, to_length, header_sizes, to_counts);
      counts_end = refl;
    }
