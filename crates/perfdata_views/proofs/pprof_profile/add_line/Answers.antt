use Rattle.std.proofs.Common.{ℕ, List, rules, subst}
use Rattle.std.specs.Str.Lossy.{utf8_lossy}
use Rattle.perfdata_profile.specs.Profiles.{lists_of}
use Rattle.perfdata_profile.specs.Values.{name_at}
use Rattle.perfdata_views.specs.PprofSamples.{IsFunction, shown_name}
use Rattle.pprof.specs.Builders.{tables_of}
use Rattle.perfdata_views.proofs.pprof_profile.add_line.Goals as goal

pub returns-clause-ok : goal.returns-clause-ok
returns-clause-ok c =
    let last = tables_of c.add_function.new.builder in
    let id = c.in_ok-function_id.function_id in
    let named = subst (λ (name : List ℕ). IsFunction last id (utf8_lossy name) (utf8_lossy c.find_name-file.result.now)) c.name_or_unknown-name.ensures c.in_ok-function_id.ensures.ok in
    let function = subst (λ (file : List ℕ). IsFunction last id (shown_name (name_at (lists_of c.args.tables.now) c.args.line.function)) (utf8_lossy file)) c.find_name-file.ensures named in
    record { function = function; number = search rules }
