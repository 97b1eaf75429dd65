-- Steps of private functions: records as users see them, from their fields and their bodies, and how they are held.
use Rattle.std.specs.Prelude.{◌≡◌, Result, Ok, Err}
use Rattle.std.specs.declared.alloc.AllocError.{AllocError}
use Rattle.perfdata_order.specs.declared.held_record.BodyFormat.{BodyFormat}
use Rattle.perfdata_order.specs.declared.held_record.HeldFormat.{HeldFormat}
use Rattle.perfdata_order.specs.declared.parse_infos.ParseInfos.{ParseInfos}
use Rattle.perfdata_order.specs.steps.ParseInfos.{KeepsFound}
use Rattle.perfdata_order.specs.HeldRecord.{format_of, IsKnown}

abbrev pub HoldsFormat : ParseInfos → BodyFormat → Result HeldFormat AllocError → ParseInfos → Type 0
HoldsFormat old format (Ok held) new = (format_of held ≡ format) × (IsKnown new held × KeepsFound old new)
HoldsFormat old format (Err e) new = KeepsFound old new
