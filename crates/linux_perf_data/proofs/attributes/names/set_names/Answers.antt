use Rattle.std.proofs.Common.{◌≡◌, ◌∙◌, ◌<◌, length, get_or, subst, sym, arith, length-set}
use Rattle.linux_perf_data.proofs.Naming.{renamed, named_more, remaining_more}
use Rattle.linux_perf_data.proofs.attributes.names.set_names.Goals as goal

pub attributes-preserved : goal.attributes-preserved
attributes-preserved c =
    let ds = c.attributes.attributes in
    let i = c.attributes.index in
    let names = c.args.names.items in
    let remaining = c.attributes.names.items in
    let there : i < length ds = omega arith in
    let within : i < length names = omega arith in
    let consumed_bytes : c.take.result ≡ get_or remaining i c.take.result = subst (λ n. n ≡ get_or remaining i n) (sym c.take.ensures.value) c.index_mut.ensures.value in record {
      names = named_more ds i c.index-attributes-index.result c.set_name.new.self there names remaining c.take.result within c.attributes.invariant.names c.attributes.invariant.remaining consumed_bytes c.set_name.ensures.name;
      remaining = remaining_more names remaining i c.take.new.self c.attributes.invariant.remaining;
      long = c.attributes.invariant.long ∙ sym (length-set ds i c.set_name.new.self);
      same = renamed ds i c.index-attributes-index.result c.set_name.new.self there c.set_name.ensures.attr c.set_name.ensures.ids ∙ c.attributes.invariant.same;
    }
