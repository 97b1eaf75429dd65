use Rattle.std.proofs.Common.{lit<, ◌≡◌}
use Rattle.std.specs.Str.Iter.{split_steps}
use Rattle.std.specs.Str.Pattern.{FindsChar}
use Rattle.std.proofs.lemmas.Iterator.Splits.{YieldsList-from_str_split}
use Rattle.perfdata_simpleperf.specs.EventTypeInfo.{line_fields}
use Rattle.perfdata_simpleperf.proofs.EventLines.{three_lack_second, three_lack_third, three_items}
use Rattle.perfdata_simpleperf.proofs.simpleperf.event_types.first_three.Goals as goal

pub returns-in_default-next : goal.returns-in_default-next
returns-in_default-next c =
    let split = c.split-fields.ensures in
    three_lack_second (split_steps FindsChar (λ a b. b ≡ a)) (line_fields c.args.line.now) c.split-fields.result c.next.new.self c.next-2.new.self c.in-Some.first
    (YieldsList-from_str_split {s = c.split-fields.result} 44 c.args.line.now (lit< tt) split.text split.has_more split.pattern).runs c.in-Some.ensures.steps c.in_default-next.ensures.steps

pub returns-in-None : goal.returns-in-None
returns-in-None c =
    let split = c.split-fields.ensures in
    three_lack_third (split_steps FindsChar (λ a b. b ≡ a)) (line_fields c.args.line.now) c.split-fields.result c.next.new.self c.next-2.new.self c.next-3.new.self c.in-Some.first c.in-Some-next.second
    (YieldsList-from_str_split {s = c.split-fields.result} 44 c.args.line.now (lit< tt) split.text split.has_more split.pattern).runs c.in-Some.ensures.steps c.in-Some-next.ensures.steps c.in-None.ensures.steps

pub returns-in-Some-next-2 : goal.returns-in-Some-next-2
returns-in-Some-next-2 c =
    let split = c.split-fields.ensures in
    three_items (split_steps FindsChar (λ a b. b ≡ a)) (line_fields c.args.line.now) c.split-fields.result c.next.new.self c.next-2.new.self c.next-3.new.self c.in-Some.first c.in-Some-next.second c.in-Some-next-2.third
    (YieldsList-from_str_split {s = c.split-fields.result} 44 c.args.line.now (lit< tt) split.text split.has_more split.pattern).runs c.in-Some.ensures.steps c.in-Some-next.ensures.steps c.in-Some-next-2.ensures.steps
