use Rattle.std.proofs.Common.{◌≡◌, true, rules}
use Rattle.perfdata_sources.specs.Raw.{bytes_of}
use Rattle.perfdata_sources.specs.Endian.{number_in}
use Rattle.perfdata_identifiers.specs.ParseInfo.{is_set}
use Rattle.perfdata_events.specs.Sample.{branch_stack, branches_of}
use Rattle.perfdata_events.specs.SampleFormat.{BRANCH_STACK}
use Rattle.perfdata_events.proofs.Optional.{decodes_some}
use Rattle.perfdata_events.proofs.sample.parts.BranchStack.parse_if.Goals as goal

pub returns-clause-decodes : goal.returns-clause-decodes
returns-clause-decodes c =
    let present : is_set c.args.format.now.sample_format.0 BRANCH_STACK ≡ true = search rules in
    decodes_some (branch_stack (number_in c.args.format.now.endian) c.args.format.now.branch_sample_type.0) branches_of (is_set c.args.format.now.sample_format.0 BRANCH_STACK) (bytes_of c.args.fields.now) (bytes_of c.parse.new.fields) present c.parse.result c.map.result c.parse.ensures.decodes c.map.ensures.cases
