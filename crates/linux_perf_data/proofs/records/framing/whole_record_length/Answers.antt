use Rattle.std.proofs.Common.{rules, arith, ◌≡◌, ◌≢◌, ◌+◌, ◌≤◌, length, sym, ap, ◌∙◌, subst}
use Rattle.std.proofs.lemmas.List.{take_rest}
use Rattle.perfdata_sources.specs.Endian.{number_in}
use Rattle.linux_perf_data.specs.Layout.{IsCompressed, record_type_of, record_size_of, aux_size_of}
use Rattle.linux_perf_data.proofs.BufferedRecords.{whole_first_part}
use Rattle.linux_perf_data.proofs.RecordHeaders.{total_size_plain, total_size_auxtrace}
use Rattle.linux_perf_data.proofs.records.framing.whole_record_length.Goals as goal

pub returns-then-header-ne-PERF_RECORD_AUXTRACE : goal.returns-then-header-ne-PERF_RECORD_AUXTRACE
returns-then-header-ne-PERF_RECORD_AUXTRACE c =
    let order = c.args.endian in
    let bytes = c.args.bytes.now in
    let header = c.args.header in
    let n = header.size in
    let kind : header.type_ ≡ record_type_of order bytes = ap (λ h. h.type_) c.requires.1 in
    let size : n ≡ record_size_of order bytes = ap (λ h. h.size) c.requires.1 in
    let least : 8 ≤ n = c.in-Ok.ensures.0 in
    let within : n ≤ length bytes = search rules in
    let plain : ¬ IsCompressed header.type_ = search rules in
    let other : header.type_ ≢ 71 = search rules in
    let isnt : record_type_of order bytes ≢ 71 = λ e. other (kind ∙ e) in
    (least, within, whole_first_part order bytes n least within (omega (arith, size, least)) (λ k. plain (subst IsCompressed (sym kind) k)) (λ t. absurd (isnt t)) (λ t. absurd (isnt t)) (size ∙ sym (total_size_plain order bytes isnt)))

pub returns : goal.returns
returns c =
    let order = c.args.endian in
    let bytes = c.args.bytes.now in
    let header = c.args.header in
    let n = header.size in
    let m = c.read_u64-aux_size.result in
    let kind : header.type_ ≡ record_type_of order bytes = ap (λ h. h.type_) c.requires.1 in
    let size : n ≡ record_size_of order bytes = ap (λ h. h.size) c.requires.1 in
    let aux : m ≡ aux_size_of order bytes = c.read_u64-aux_size.ensures ∙ ap (number_in order 8) (take_rest bytes 8) in
    let body = c.in-Ok.ensures in
    let least : 48 ≤ n = search (rules, body) in
    let whole : n + m ≤ length bytes = search rules in
    let plain : ¬ IsCompressed header.type_ = search rules in
    let is_auxtrace : header.type_ ≡ 71 = search rules in
    let total = total_size_auxtrace order bytes (sym kind ∙ is_auxtrace) in
    (omega arith, whole, whole_first_part order bytes (n + m) (omega arith) whole (omega (arith, size, least)) (λ k. plain (subst IsCompressed (sym kind) k)) (λ t. omega (arith, size, least)) (λ t. omega arith) (omega (arith, total, size, aux)))
