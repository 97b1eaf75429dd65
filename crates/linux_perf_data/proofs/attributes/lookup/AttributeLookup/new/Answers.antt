use Rattle.std.proofs.Common.{◌≡◌, ◌<◌, ◌∙◌, ap, sym, subst, length, vec_len, rules, arith, None, Some, Option, ℕ, drop}
use Rattle.perfdata_identifiers.specs.ParseInfo.{parse_info_of}
use Rattle.linux_perf_data.specs.Descriptions.{described_attribute, described_attributes}
use Rattle.linux_perf_data.specs.IdBounds.{TableIndicesBelow}
use Rattle.linux_perf_data.proofs.LookupIds.{all_counted, described_counted, first_more}
use Rattle.linux_perf_data.proofs.attributes.lookup.AttributeLookup.new.Goals as goal

none_some : (n : ℕ) → ◌≡◌ {A = Option ℕ} None (Some n) → ⊥
none_some n e = cc

pub invariant_of-result : goal.invariant_of-result
invariant_of-result c =
    let attrs = described_attributes c.args.attributes.now in
    let counted : length c.in_ok-parse_infos.parse_infos.items ≡ vec_len c.in_ok-parse_infos.parse_infos = search rules in
    let count : length attrs ≡ vec_len c.in_ok-parse_infos.parse_infos = omega (arith, counted, ap length c.in_ok-parse_infos.ensures, all_counted c.args.endian attrs) in
    let given = c.requires.nonempty in
    let some : 0 < vec_len c.in_ok-parse_infos.parse_infos = omega (arith, count, described_counted c.args.attributes.now, given) in
    record {
      nonempty = some;
      table_indices_below = subst (TableIndicesBelow c.in_ok-table.table) count c.in_ok-table.ensures.in_bounds;
      cache_indices_below = λ id i described. absurd (none_some i (sym (c.new-2.ensures id) ∙ described));
    }

pub returns : goal.returns
returns c =
    let ds = c.args.attributes.now in
    let attrs = described_attributes ds in
    record {
      first_attribute = described_attribute c.index-attributes-0.result;
      other_attributes = described_attributes (drop 1 ds);
      elements = first_more ds c.index-attributes-0.result c.requires.nonempty c.index-attributes-0.is;
      consistent = c.requires.consistent;
      first_parse_info = c.new.ensures ∙ ap (λ a. parse_info_of a c.args.endian) c.attributes.ensures;
      parse_infos = c.in_ok-parse_infos.ensures;
      first_without_identifier = c.first_without_identifier.ensures;
      table = c.in_ok-table.ensures.resolves;
      cache = λ id i described. absurd (none_some i (sym (c.new-2.ensures id) ∙ described));
    }
