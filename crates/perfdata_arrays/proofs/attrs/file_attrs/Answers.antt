use Rattle.perfdata_arrays.proofs.MetadataReports.{reports_file}
use Rattle.perfdata_arrays.specs.Attrs.{WritesAttrsOf, WritesNothing}
use Rattle.perfdata_arrays.proofs.attrs.file_attrs.Goals as goal

pub returns : goal.returns
returns c =
    reports_file c.args.bytes.now (WritesAttrsOf c.args.entries.now c.args.names.now c.args.ids.now c.attrs_result.result c.attrs_result.new.entries c.attrs_result.new.names c.attrs_result.new.ids)
    (WritesNothing c.args.entries.now c.args.names.now c.args.ids.now c.attrs_result.result c.attrs_result.new.entries c.attrs_result.new.names c.attrs_result.new.ids) c.file_metadata.result c.file_metadata.ensures c.attrs_result.ensures
