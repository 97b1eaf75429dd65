use Rattle.std.proofs.Common.{rules, arith, inl, inr, ◌≡◌, ◌+◌, ◌^◌, ◌<◌, ◌≤◌, length, sym, ap, ◌∙◌}
use Rattle.std.proofs.lemmas.List.{take_rest}
use Rattle.perfdata_sources.specs.Endian.{number_in}
use Rattle.linux_perf_data.specs.Layout.{IsCompressed, record_type_of, record_size_of, aux_size_of}
use Rattle.linux_perf_data.proofs.BufferedRecords.{whole_first_part}
use Rattle.linux_perf_data.proofs.RecordHeaders.{total_size_auxtrace}
use Rattle.perfdata_chunks.proofs.framing.with_aux_data.Goals as goal

pub returns : goal.returns
returns c =
    let order = c.args.endian in
    let bytes = c.args.bytes.now in
    let n = c.args.frame.size in
    let m = c.read_u64-aux_size.result in
    let kind : c.args.frame.header.type_ ≡ record_type_of order bytes = ap (λ h. h.type_) c.requires.header in
    let size : n ≡ record_size_of order bytes = c.requires.size ∙ ap (λ h. h.size) c.requires.header in
    let aux : m ≡ aux_size_of order bytes = c.read_u64-aux_size.ensures ∙ ap (number_in order 8) (take_rest bytes 8) in
    let is_auxtrace : record_type_of order bytes ≡ 71 = sym kind ∙ c.requires.is_auxtrace in
    let least : 48 ≤ n = search rules in
    let whole : n + m ≤ length bytes = search rules in
    let added : c.in-Some.end ≡ c.args.frame.end + m = search rules in
    let fits : c.in-Some.end < 2 ^ 64 = search rules in
    let end = c.requires.end in
    let total = total_size_auxtrace order bytes is_auxtrace in
    let plain : ¬ IsCompressed (record_type_of order bytes) = λ k. elim k [ inl e ↦ omega (arith, e, is_auxtrace) | inr e ↦ omega (arith, e, is_auxtrace) ] in
    record {
      header = c.requires.header;
      has_header = omega (arith, least);
      within = whole;
      is_record = whole_first_part order bytes (n + m) (omega (arith, least)) whole (omega (arith, size, least)) plain (λ t. omega (arith, size, least)) (λ t. omega (arith, least)) (omega (arith, total, size, aux));
      end = omega (arith, added, end);
      end_fits = fits;
    }
