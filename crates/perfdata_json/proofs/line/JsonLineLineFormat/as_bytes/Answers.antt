use Rattle.std.proofs.Common.{rules, sym, length, ◌≤◌}
use Rattle.std.proofs.lemmas.List.{drop_all}
use Rattle.perfdata_json.proofs.line.JsonLineLineFormat.as_bytes.Goals as goal

pub returns-in-None : goal.returns-in-None
returns-in-None c =
    let short : length c.args.self.now.bytes.items ≤ c.args.self.now.start = search rules in
    sym (drop_all c.args.self.now.start c.args.self.now.bytes.items short)
