use Rattle.std.proofs.Common.{refl}
use Rattle.linux_perf_data.proofs.records.iter.IdentifiedRecord.into_record.Goals as goal

pub returns-in-Kernel : goal.returns-in-Kernel
returns-in-Kernel c = rw c.in-Kernel.is (record { view = refl; same_body = refl })

pub returns-in-User : goal.returns-in-User
returns-in-User c = rw c.in-User.is (record { view = refl; same_body = refl })
