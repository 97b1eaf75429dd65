use Rattle.std.proofs.Common.{rules, arith, ◌≡◌, ◌≢◌, ◌≤◌, length, sym, ap, ◌∙◌, subst}
use Rattle.perfdata_sources.specs.Endian.{number_in}
use Rattle.perfdata_sources.specs.RecordHeader.{record_header_of}
use Rattle.linux_perf_data.specs.Layout.{IsCompressed, record_type_of, record_size_of}
use Rattle.linux_perf_data.proofs.BufferedRecords.{whole_first_part}
use Rattle.linux_perf_data.proofs.RecordHeaders.{total_size_plain}
use Rattle.perfdata_chunks.proofs.framing.next_frame.Goals as goal

pub returns : goal.returns
returns c =
    let order = c.args.endian in
    let bytes = c.args.bytes.now in
    let header = c.in-Some.header in
    let n = header.size in
    let is : header ≡ record_header_of (number_in order) bytes = search rules in
    let kind : header.type_ ≡ record_type_of order bytes = ap (λ h. h.type_) is in
    let size : n ≡ record_size_of order bytes = ap (λ h. h.size) is in
    let least : 8 ≤ n = search rules in
    let within : n ≤ length bytes = search rules in
    let plain : ¬ IsCompressed header.type_ = search rules in
    let other : header.type_ ≢ 71 = search rules in
    let isnt : record_type_of order bytes ≢ 71 = λ e. other (kind ∙ e) in
    record {
      header = is;
      has_header = least;
      within = within;
      is_record = whole_first_part order bytes n least within (omega (arith, size, least)) (λ k. plain (subst IsCompressed (sym kind) k)) (λ t. absurd (isnt t)) (λ t. absurd (isnt t)) (size ∙ sym (total_size_plain order bytes isnt));
      end = search rules;
      end_fits = search rules;
    }
