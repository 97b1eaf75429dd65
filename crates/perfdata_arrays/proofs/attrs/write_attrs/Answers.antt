use Rattle.std.proofs.Common.{arith, ◌≡◌, ◌+◌, ◌++◌, ◌∷◌, [], ap, sym, subst, length, take}
use Rattle.std.proofs.lemmas.List.{length-take-le}
use Rattle.perfdata_arrays.specs.Attrs.{WritesAttrs, all_ids, all_names}
use Rattle.perfdata_arrays.proofs.AttrsLemmas.{length-all_ids-snoc, length-all_names-snoc, writes_prefix, take-suc, writes_attrs-snoc}
use Rattle.perfdata_arrays.proofs.attrs.write_attrs.Goals as goal

pub returns-in_default : goal.returns-in_default
returns-in_default c =
    let inv = c.attributes.invariant in
    writes_prefix c.args.all.now c.args.status c.args.entries.now c.attributes.entries c.args.names.now c.args.ids.now c.attributes.names c.attributes.ids c.attributes.index c.attributes.name_offset c.attributes.ids_start c.index-all-index.result c.attributes-test.true c.index-all-index.is c.in_default.ensures inv.names_count inv.ids_count inv.writes

pub attributes-preserved : goal.attributes-preserved
attributes-preserved c =
    let all = c.args.all.now in
    let index = c.attributes.index in
    let inv = c.attributes.invariant in
    let descriptions = take index all in
    let d = c.index-all-index.result in
    let test = c.attributes-test.true in
    let prefix : take (index + 1) all ≡ descriptions ++ d ∷ [] = take-suc all index d test c.index-all-index.is in
    let names_counted = inv.names_count in
    let ids_counted = inv.ids_count in
    let name = c.attr_name.ensures in
    let own = c.ids.ensures in
    let names_end = c.in-Some.ensures.0 in
    let ids_end = c.in-Some.ensures.1 in
    record {
      within = omega (arith, test);
      names_count = omega (arith, names_end, names_counted, length-all_names-snoc descriptions d, ap (λ l. length (all_names l)) prefix);
      ids_count = omega (arith, ids_end, ids_counted, length-all_ids-snoc descriptions d, ap (λ l. length (all_ids l)) prefix);
      writes = subst (λ l. WritesAttrs l c.args.entries.now c.args.names.now c.args.ids.now c.write_entry.new.array c.copy_entries.new.array c.copy_entries-in-attributes.new.array) (sym prefix)
          (writes_attrs-snoc descriptions d c.args.entries.now c.attributes.entries c.write_entry.new.array c.args.names.now c.args.ids.now c.attributes.names c.attributes.ids c.copy_entries.new.array c.copy_entries-in-attributes.new.array
          index c.attributes.name_offset c.attributes.ids_start c.attr_entry-entry.result c.attr_name.result.now c.ids.result.now inv.writes (sym (length-take-le index all inv.within)) names_counted ids_counted c.attr_entry-entry.ensures name own c.write_entry.ensures.one_more c.copy_entries.ensures c.copy_entries-in-attributes.ensures);
    }
