-- Values whose bytes are in one slice, as the bytes of their record are.
use Rattle.std.specs.Prelude.{Result, Ok, Err, ⊤}
use Rattle.std.specs.declared.io.Error.{Error}
use Rattle.perfdata_sources.specs.Raw.{IsSingle}
use Rattle.perfdata_sources.specs.declared.raw.RawData.{RawData}

-- If the bytes before a call are in one slice, so are the parts of its value and the bytes after the call.
abbrev pub KeepsSingle : {R : Type 0} → (R → Type 0) → RawData → Result R Error → RawData → Type 0
KeepsSingle parts old (Ok value) new = IsSingle old → parts value × IsSingle new
KeepsSingle parts old (Err e) new = ⊤

-- A value without bytes.
abbrev pub NoParts : {R : Type 0} → R → Type 0
NoParts value = ⊤
