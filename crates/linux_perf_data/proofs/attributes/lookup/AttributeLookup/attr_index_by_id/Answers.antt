use Rattle.std.proofs.Common.{◌≡◌, ◌∙◌, ap}
use Rattle.std.specs.Option.{unwrap_or}
use Rattle.linux_perf_data.specs.Attribute.{last_index_listing}
use Rattle.linux_perf_data.proofs.LookupIds.{cache_put}
use Rattle.linux_perf_data.proofs.attributes.lookup.AttributeLookup.attr_index_by_id.Goals as goal

pub returns-in-None-clause-keeps_attributes : goal.returns-in-None-clause-keeps_attributes
returns-in-None-clause-keeps_attributes c = λ order attrs k.
    let old = c.args.self.now in
    let is = c.unwrap_or-index.ensures ∙ ap (λ o. unwrap_or o 0) c.get-in-None.ensures ∙ k.table c.args.id in
    record {
      first_attribute = k.first_attribute;
      other_attributes = k.other_attributes;
      elements = k.elements;
      consistent = k.consistent;
      first_parse_info = k.first_parse_info;
      parse_infos = k.parse_infos;
      first_without_identifier = k.first_without_identifier;
      table = k.table;
      cache = cache_put old.cache c.put.new.self c.args.id c.unwrap_or-index.result (λ id i. i ≡ last_index_listing id 0 0 attrs) is c.put.ensures.stored c.put.ensures.evicted c.put.ensures.others k.cache;
    }
