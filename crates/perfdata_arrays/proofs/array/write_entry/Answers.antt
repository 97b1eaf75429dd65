use Rattle.std.proofs.Common.{◌≡◌, ◌-◌, [], ◌∷◌, subst, arith}
use Rattle.std.specs.Prelude.{slice_set}
use Rattle.perfdata_arrays.proofs.OverwriteLemmas.{with_entries_at-past_end, write_entry-past_capacity, write_entry-in_range}
use Rattle.perfdata_arrays.specs.Overwrites.{WritesOneMore}
use Rattle.perfdata_arrays.proofs.Arrays.{set_as_entries}
use Rattle.perfdata_arrays.proofs.array.write_entry.Goals as goal

pub returns-then-index-array : goal.returns-then-index-array
returns-then-index-array g c =
    let test = c.if-index-array.true in
    let same : c.args.index - 0 ≡ c.args.index = omega arith in
    record {
      one_more = subst (λ n. WritesOneMore 0 c.args.index c.args.entry c.args.array.now (slice_set c.args.array.now n c.args.entry)) same
          (write_entry-in_range 0 c.args.index c.args.entry c.args.array.now (omega arith) (omega (arith, test)));
      written = set_as_entries c.args.index c.args.entry c.args.array.now test;
    }

pub returns-else-index-array : goal.returns-else-index-array
returns-else-index-array g c =
    let test = c.if-index-array.false in
    record {
      one_more = write_entry-past_capacity 0 c.args.index c.args.entry c.args.array.now (omega arith) (omega (arith, test));
      written = with_entries_at-past_end c.args.index (c.args.entry ∷ []) c.args.array.now test;
    }
