use Rattle.std.proofs.Common.{ap, ◌∙◌, ◌+◌}
use Rattle.perfdata_sources.specs.Raw.{bytes_of}
use Rattle.perfdata_sources.specs.Endian.{number_in}
use Rattle.perfdata_events.specs.Format.{IsBlock}
use Rattle.perfdata_events.specs.Fields.{u16_at, u64_at}
use Rattle.perfdata_events.proofs.Blocks.{two_blocks_at, block_len}
use Rattle.perfdata_events.proofs.kernel.TextPokeRecord.parse.Goals as goal

pub returns-clause-decodes : goal.returns-clause-decodes
returns-clause-decodes c =
    let number = number_in c.args.endian in
    let header = c.in_ok-read_exact.ensures in
    let old = c.in_ok-old_bytes.ensures in
    let new = c.in_ok-new_bytes.ensures in
    let one : IsBlock c.field_u16-old_len.result (bytes_of c.read_exact.new.self) (bytes_of c.in_ok-old_bytes.old_bytes) (bytes_of c.split_off_prefix.new.self) =
    record { enough = old.rest.enough; block_is = old.prefix; rest_is = old.rest.rest } in
    let two : IsBlock c.field_u16-new_len.result (bytes_of c.split_off_prefix.new.self) (bytes_of c.in_ok-new_bytes.new_bytes) (bytes_of c.split_off_prefix-2.new.self) =
    record { enough = new.rest.enough; block_is = new.prefix; rest_is = new.rest.rest } in
    let old_size = c.field_u16-old_len.ensures ∙ ap (u16_at number 8) header.read in
    let new_size = c.field_u16-new_len.ensures ∙ ap (u16_at number 10) header.read in
    record {
      enough = header.rest.enough;
      value_is = λ i. record {
        address = (c.field_u64.ensures ∙ ap (u64_at number 0) header.read) i;
        old_len = (block_len _ _ _ _ one ∙ old_size) i;
        new_len = (block_len _ _ _ _ two ∙ new_size) i;
      };
      block_is = two_blocks_at _ _ _ _ _ _ _ _ _ (λ i. old_size i + new_size i) header.rest.rest one two;
    }
