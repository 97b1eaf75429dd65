use Rattle.std.proofs.Common.{rules, arith, ◌≡◌, ◌≢◌, ◌^◌, ◌<◌, ◌≤◌, length, inl, inr, sym, ap, ◌∙◌, subst}
use Rattle.linux_perf_data.specs.Layout.{IsCompressed, record_type_of, record_size_of}
use Rattle.linux_perf_data.proofs.BufferedRecords.{whole_first_part}
use Rattle.linux_perf_data.proofs.RecordHeaders.{total_size_plain}
use Rattle.linux_perf_data.proofs.records.framing.peek_kernel_record.Goals as goal

pub returns : goal.returns
returns c =
    let order = c.args.endian in
    let bytes = c.args.bytes.now in
    let header = c.in_ok-header.header in
    let n = header.size in
    let kind : header.type_ ≡ record_type_of order bytes = ap (λ h. h.type_) c.in_ok-header.ensures.1 in
    let size : n ≡ record_size_of order bytes = ap (λ h. h.size) c.in_ok-header.ensures.1 in
    let least : 8 ≤ n = search rules in
    let within : n ≤ length bytes = search rules in
    let kernel : header.type_ < 64 = search rules in
    let plain : ¬ IsCompressed header.type_ = λ k. elim k [ inl one ↦ omega (arith, one, kernel) | inr two ↦ omega (arith, two, kernel) ] in
    let isnt : record_type_of order bytes ≢ 71 = λ e. omega (arith, e, kind, kernel) in
    let small : n < 2 ^ 16 = search rules in
    (kernel, small, (c.in_ok-header.ensures.1, (least, within, whole_first_part order bytes n least within (omega (arith, size, least)) (λ k. plain (subst IsCompressed (sym kind) k)) (λ t. absurd (isnt t)) (λ t. absurd (isnt t)) (size ∙ sym (total_size_plain order bytes isnt)))))
