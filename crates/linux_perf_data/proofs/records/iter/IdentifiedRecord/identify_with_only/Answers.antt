use Rattle.std.proofs.Common.{◌<◌, List, length, refl, sym, ap, ◌∙◌, rules}
use Rattle.std.specs.Prelude.{slice_get}
use Rattle.std.specs.Option.{unwrap_or}
use Rattle.perfdata_identifiers.specs.RecordFields.{read_time}
use Rattle.perfdata_identifiers.specs.declared.place.parse_info.RecordParseInfo.{RecordParseInfo}
use Rattle.linux_perf_data.specs.steps.AttributeLookup.{event_at}
use Rattle.linux_perf_data.proofs.LookupIds.{kernel_found, resolves_one}
use Rattle.linux_perf_data.proofs.records.iter.IdentifiedRecord.identify_with_only.Goals as goal

pub returns-in-Some-only-clause-identifies : goal.returns-in-Some-only-clause-identifies
returns-in-Some-only-clause-identifies c =
    let kernel : c.args.header.type_ < 64 = search rules in
    let kind = c.args.header.type_ in
    let body = c.args.body.now in
    let lookup = c.args.lookup.now in
    let only = rw c.in-Some-only.is at c.requires in
    let at : List RecordParseInfo → RecordParseInfo = λ l. unwrap_or (slice_get l 0) lookup.first_parse_info in
    let is = ap at only in
    record {
      offset_matches = refl;
      round_matches = refl;
      record_type = refl;
      kernel_type = λ index is. kernel;
      matches = λ order attrs k.
          kernel_found order attrs c.args.offset c.args.round kind c.args.header.misc body (event_at lookup 0) c.read_time-time.result (resolves_one order lookup attrs kind body k kernel (ap length only)) (c.read_time-time.ensures ∙ ap (λ p. read_time p kind body) (sym is));
    }

pub returns-in-None-only-clause-identifies : goal.returns-in-None-only-clause-identifies
returns-in-None-only-clause-identifies c =
    let kernel : c.args.header.type_ < 64 = search rules in
    let kind = c.args.header.type_ in
    let body = c.args.body.now in
    let event = event_at c.find_attr_index-index.new.self c.find_attr_index-index.result in
    record {
      offset_matches = refl;
      round_matches = refl;
      record_type = refl;
      kernel_type = λ index is. kernel;
      matches = λ order attrs k.
          kernel_found order attrs c.args.offset c.args.round kind c.args.header.misc body event c.read_time-time-in-None-only.result (c.find_attr_index-index.ensures.resolves order attrs k kernel) (c.read_time-time-in-None-only.ensures ∙ ap (λ p. read_time p kind body) c.parse_info.ensures);
    }
