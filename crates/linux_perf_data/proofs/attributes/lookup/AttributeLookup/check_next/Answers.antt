use Rattle.std.proofs.Common.{◌≡◌, ◌∙◌, not, length, ap, sym, refl, rules}
use Rattle.linux_perf_data.specs.Attribute.{missing_identifier, sample_id_all_differs}
use Rattle.linux_perf_data.proofs.ConsistencyChecks.{offsets_equal, offsets_apart}
use Rattle.linux_perf_data.proofs.LookupGrowth.{keeps_more, old_inconsistent, new_missing, new_differs}
use Rattle.linux_perf_data.proofs.attributes.lookup.AttributeLookup.check_next.Goals as goal

pub returns-then-eq : goal.returns-then-eq
returns-then-eq c = λ order ids attrs k.
    let is = offsets_equal c.new.result c.args.self.now.first_parse_info.id_parse_info (ap not (sym c.eq.ensures ∙ c.if-eq.true)) in
    keeps_more order c.args.self.now attrs k (record { attr = c.args.attr.now; ids = ids }) (sym c.new.ensures ∙ is)

pub returns-in-Some : goal.returns-in-Some
returns-in-Some c =
    let apart = offsets_apart c.new.result c.args.self.now.first_parse_info.id_parse_info (ap not (sym c.eq.ensures ∙ c.if-eq.false)) in (
      missing_identifier c.in-Some.index,
      refl,
      λ order ids attrs k.
          old_inconsistent order c.args.self.now attrs k (record { attr = c.args.attr.now; ids = ids }) c.in-Some.index (λ same. apart (c.new.ensures ∙ same)) c.in-Some.is,
    )

pub returns-then-has_identifier : goal.returns-then-has_identifier
returns-then-has_identifier c =
    let apart = offsets_apart c.new.result c.args.self.now.first_parse_info.id_parse_info (ap not (sym c.eq.ensures ∙ c.if-eq.false)) in
    let count : c.len.result ≡ length c.args.self.now.parse_infos.items = search rules in (
      sample_id_all_differs c.len.result,
      refl,
      λ order ids attrs k.
          new_differs order c.args.self.now attrs k (record { attr = c.args.attr.now; ids = ids }) c.len.result (λ same. apart (c.new.ensures ∙ same)) c.in-None.is count (sym c.has_identifier.ensures ∙ c.if-has_identifier.true),
    )

pub returns-else-has_identifier : goal.returns-else-has_identifier
returns-else-has_identifier c =
    let apart = offsets_apart c.new.result c.args.self.now.first_parse_info.id_parse_info (ap not (sym c.eq.ensures ∙ c.if-eq.false)) in
    let n = c.len-else-has_identifier.result in
    let count : n ≡ length c.args.self.now.parse_infos.items = search rules in (
      missing_identifier n,
      refl,
      λ order ids attrs k.
          new_missing order c.args.self.now attrs k (record { attr = c.args.attr.now; ids = ids }) n (λ same. apart (c.new.ensures ∙ same)) c.in-None.is count (sym c.has_identifier.ensures ∙ c.if-has_identifier.false),
    )
