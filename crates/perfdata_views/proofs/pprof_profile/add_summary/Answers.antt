use Rattle.std.specs.Str.Lossy.{utf8_lossy}
use Rattle.perfdata_views.proofs.PprofTables.{interned_extends}
use Rattle.pprof.specs.Builders.{tables_of}
use Rattle.perfdata_views.proofs.pprof_profile.add_summary.Goals as goal

pub returns : goal.returns
returns c = interned_extends (tables_of c.args.builder.now) (tables_of c.text.new.self) (utf8_lossy c.args.description.command_line.now) c.in_ok-comment.comment
    c.in_ok-comment.ensures.ok c.text.ensures.once c.text.ensures.rest
