use Rattle.std.proofs.Common.{rules}
use Rattle.perfdata_simpleperf.proofs.protobuf.messages.previous_offsets.Goals as goal

pub returns-in-Some-SimpleperfDexFileInfo : goal.returns-in-Some-SimpleperfDexFileInfo
returns-in-Some-SimpleperfDexFileInfo c = search rules
