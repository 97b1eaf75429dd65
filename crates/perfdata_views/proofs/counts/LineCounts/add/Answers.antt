use Rattle.std.proofs.Common.{◌≡◌, ◌≤◌, ◌+◌, arith, rules, sym, ◌∙◌, ap, inr, None, Some}
use Rattle.std.specs.List.{sum_by}
use Rattle.std.specs.Option.{unwrap_or}
use Rattle.std.specs.Map.{values_of}
use Rattle.std.specs.Ordering.{is_eq}
use Rattle.std.specs.BTreeMap.{get}
use Rattle.std.proofs.lemmas.Cmp.{nat_list_cmp_total, on_total}
use Rattle.perfdata_views.specs.Counts.{count_of, line_cmp}
use Rattle.perfdata_views.proofs.Counting.{count_at_most_sum, counts_after, others_kept, sum_with}
use Rattle.perfdata_views.proofs.counts.LineCounts.add.Goals as goal
use Rattle.perfdata_views.proofs.counts.LineCounts.add.Goals.{in-Ok, in-Err}

pub overflow_add-old : goal.overflow_add-old
overflow_add-old c =
    let old : c.unwrap_or-old.result ≡ unwrap_or (get line_cmp c.args.self.now.counts c.extend_from_slice.new.self) 0 = search rules in
    let most : unwrap_or (get line_cmp c.args.self.now.counts c.extend_from_slice.new.self) 0 ≤ sum_by (λ count. count) (values_of c.args.self.now.counts.entries) =
    count_at_most_sum (λ line. is_eq (line_cmp c.extend_from_slice.new.self line)) c.args.self.now.counts.entries in
    let summed : c.args.self.now.total ≡ sum_by (λ count. count) (values_of c.args.self.now.counts.entries) = c.args.self.now.summed in
    omega (arith, c.in-Some.ensures.0)

pub invariant_of-self : goal.invariant_of-self
invariant_of-self c =
    let old : c.unwrap_or-old.result ≡ unwrap_or (get line_cmp c.args.self.now.counts c.extend_from_slice.new.self) 0 = search rules in
    let count = ap (λ n. n + c.args.weight) old in
    let sum : sum_by (λ n. n) (values_of c.insert.new.self.entries) ≡ sum_by (λ n. n) (values_of c.args.self.now.counts.entries) + c.args.weight =
    rw c.in-Ok.ensures.entries (sum_with line_cmp (on_total (λ v. v.items) nat_list_cmp_total) c.args.self.now.counts.entries c.extend_from_slice.new.self (c.unwrap_or-old.result + c.args.weight) c.args.weight c.insert.ensures.was_ordered count) in
    record { summed = c.in-Some.ensures.1 ∙ (ap (λ n. n + c.args.weight) c.args.self.now.summed ∙ sym sum) }

pub returns-clause-line : goal.returns-clause-line
returns-clause-line c =
    let old : c.unwrap_or-old.result ≡ unwrap_or (get line_cmp c.args.self.now.counts c.extend_from_slice.new.self) 0 = search rules in
    let bytes : c.extend_from_slice.new.self.items ≡ c.args.line.now = search rules in
    elim c.match-insert.branch [
      | in-Ok w ↦
          let count = ap (λ n. n + c.args.weight) old in
          let sum : sum_by (λ n. n) (values_of c.insert.new.self.entries) ≡ sum_by (λ n. n) (values_of c.args.self.now.counts.entries) + c.args.weight =
          rw w.in-Ok.ensures.entries (sum_with line_cmp (on_total (λ v. v.items) nat_list_cmp_total) c.args.self.now.counts.entries c.extend_from_slice.new.self (c.unwrap_or-old.result + c.args.weight) c.args.weight c.insert.ensures.was_ordered count) in
          rw (w.result-is, w.self-is, sym bytes) (record {
            counted = w.in-Ok.ensures.updates.1 ∙ ap (λ n. Some n) count;
            others = λ other apart. others_kept c.args.self.now.counts.entries c.insert.new.self.entries c.extend_from_slice.new.self other w.in-Ok.ensures.updates.3 apart;
            sum = sum;
          })
      | in-Err w ↦
          let absent : count_of c.args.self.now c.args.line.now ≡ None = ap (λ line. count_of c.args.self.now line) (sym bytes) ∙ w.in-Err.ensures.absent in
          rw (w.result-is, w.self-is) (w.in-Err.ensures.err, inr absent)
    ]

pub returns-clause-counts : goal.returns-clause-counts
returns-clause-counts c = counts_after c.args.self.now c.match-insert.self c.args.line.now c.args.weight c.match-insert.result (returns-clause-line c)
