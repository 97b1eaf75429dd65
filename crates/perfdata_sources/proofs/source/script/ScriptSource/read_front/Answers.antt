use Rattle.std.proofs.Common.{◌≡◌, ◌+◌, ◌≤◌, ◌++◌, length, take, drop, rules, arith, ◌∙◌, sym, length-append}
use Rattle.std.proofs.lemmas.List.{take-append-le}
use Rattle.perfdata_sources.proofs.VisibleLengths.{read_visible}
use Rattle.perfdata_sources.proofs.source.script.ScriptSource.read_front.Goals as goal

pub returns-clause-reads : goal.returns-clause-reads
returns-clause-reads c = λ _.
    let t = c.next_read_limit.new.self in
    let n = c.copy_from_offset-count.result in
    let part = c.copy_from_offset-count.new.buf in
    let rest = drop c.min-most.result c.args.place.now in
    let within : n ≤ length part = search rules in
    let copied : take n part ≡ take n (drop t.position (take t.shown t.bytes.items)) = search rules in
    let fits : t.position + n ≤ t.shown = search rules in
    rw (sym c.in-Ok.ensures) (read_visible t.bytes.items (part ++ rest) t.shown t.position n t.errors t.pauses (omega arith) (omega (arith, length-append part rest)) (take-append-le n part rest within ∙ copied) fits)
