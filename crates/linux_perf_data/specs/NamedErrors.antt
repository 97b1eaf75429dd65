-- The errors that opening and reading can return, whatever the bytes of the source are, known or unknown.
use Rattle.std.specs.Prelude.{◌≡◌, ◌⊎◌}
use Rattle.perfdata_sections.specs.declared.error.Error.{Error}
use Rattle.perfdata_sections.specs.declared.error.Error.TheVariants.{IoError, Read, UnrecognizedMagicValue, NoAttributes, InconsistentAttributeSizes, NoIdentifierDespiteMultiEvent, InconsistentSampleIdAllWithMultiEvent, NoEventTypesInSimpleperfMetaInfo, StringUtf8, InvalidPerfEventSize, Failed, Memory}
use Rattle.perfdata_sections.specs.declared.error.ReadError.TheVariants.{FeatureSection, PerfEventAttr, PerfEventData}

-- The errors of opening a file.
abbrev pub IsFileOpeningError : Error → Type 0
IsFileOpeningError (IoError _) = Unit {0}
IsFileOpeningError (Read part) = (part ≡ FeatureSection) ⊎ (part ≡ PerfEventAttr)
IsFileOpeningError (UnrecognizedMagicValue _) = Unit {0}
IsFileOpeningError NoAttributes = Unit {0}
IsFileOpeningError (InconsistentAttributeSizes _ _) = Unit {0}
IsFileOpeningError (NoIdentifierDespiteMultiEvent _) = Unit {0}
IsFileOpeningError (InconsistentSampleIdAllWithMultiEvent _) = Unit {0}
IsFileOpeningError NoEventTypesInSimpleperfMetaInfo = Unit {0}
IsFileOpeningError StringUtf8 = Unit {0}
IsFileOpeningError Memory = Unit {0}
IsFileOpeningError _ = ⊥

-- The errors of opening a pipe.
abbrev pub IsPipeOpeningError : Error → Type 0
IsPipeOpeningError (IoError _) = Unit {0}
IsPipeOpeningError (Read part) = (part ≡ PerfEventData) ⊎ (part ≡ PerfEventAttr)
IsPipeOpeningError (UnrecognizedMagicValue _) = Unit {0}
IsPipeOpeningError InvalidPerfEventSize = Unit {0}
IsPipeOpeningError NoAttributes = Unit {0}
IsPipeOpeningError (InconsistentAttributeSizes _ _) = Unit {0}
IsPipeOpeningError (NoIdentifierDespiteMultiEvent _) = Unit {0}
IsPipeOpeningError (InconsistentSampleIdAllWithMultiEvent _) = Unit {0}
IsPipeOpeningError Memory = Unit {0}
IsPipeOpeningError _ = ⊥

-- The errors of reading a record.
abbrev pub IsRecordError : Error → Type 0
IsRecordError (IoError _) = Unit {0}
IsRecordError (Read part) = (part ≡ PerfEventData) ⊎ (part ≡ PerfEventAttr)
IsRecordError InvalidPerfEventSize = Unit {0}
IsRecordError (InconsistentAttributeSizes _ _) = Unit {0}
IsRecordError (NoIdentifierDespiteMultiEvent _) = Unit {0}
IsRecordError (InconsistentSampleIdAllWithMultiEvent _) = Unit {0}
IsRecordError Failed = Unit {0}
IsRecordError Memory = Unit {0}
IsRecordError _ = ⊥
