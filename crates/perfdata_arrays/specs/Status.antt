-- The statuses of calls, their codes and their texts.
use Rattle.std.specs.Prelude.{◌≡◌, ℕ, List, [], ◌∷◌, codes, find, Result, Ok, Err}
use Rattle.std.specs.Bool.{nat_eq}
use Rattle.std.specs.IoError.{error_kind}
use Rattle.std.specs.Option.{option_map, unwrap_or}
use Rattle.std.specs.declared.io.ErrorKind.{ErrorKind}
use Rattle.std.specs.declared.io.ErrorKind.TheVariants as kind
use Rattle.perfdata_sections.specs.declared.error.Error.{Error}
use Rattle.perfdata_sections.specs.declared.error.Error.TheVariants as error
use Rattle.perfdata_sections.specs.declared.error.ReadError.{ReadError}
use Rattle.perfdata_sections.specs.declared.error.ReadError.TheVariants as part
use Rattle.perfdata_jit.specs.declared.error.JitDumpError.{JitDumpError}
use Rattle.perfdata_jit.specs.declared.error.JitDumpError.TheVariants as jit
use Rattle.perfdata_arrays.specs.declared.status.Status.{Status}
use Rattle.perfdata_arrays.specs.declared.status.Status.TheVariants.{Success, OutOfMemory, Truncated, InvalidData, InvalidHeaderSize, Compressed, Other, BadMagic, NoAttributes, BadDataSection, BadAttribute, AttributeTooLarge, MissingIdentifier, SampleIdAllMismatch, NoEventTypes, InvalidUtf8, BadRecordSize, TruncatedRecord, JitTruncatedHeader, JitBadHeaderSize, JitBadMagic, JitBadRecordSize, JitWrongType, JitBadBody, BadSymbolTable, NoSpace, NotElf, BadElf, TracingData}

-- the code of a status
abbrev pub status_code : Status → ℕ
status_code Success = 0
status_code OutOfMemory = 1
status_code Truncated = 2
status_code InvalidData = 3
status_code InvalidHeaderSize = 4
status_code Compressed = 5
status_code Other = 6
status_code BadMagic = 7
status_code NoAttributes = 8
status_code BadDataSection = 9
status_code BadAttribute = 10
status_code AttributeTooLarge = 11
status_code MissingIdentifier = 12
status_code SampleIdAllMismatch = 13
status_code NoEventTypes = 14
status_code InvalidUtf8 = 15
status_code BadRecordSize = 16
status_code TruncatedRecord = 17
status_code JitTruncatedHeader = 18
status_code JitBadHeaderSize = 19
status_code JitBadMagic = 20
status_code JitBadRecordSize = 21
status_code JitWrongType = 22
status_code JitBadBody = 23
status_code BadSymbolTable = 24
status_code NoSpace = 25
status_code NotElf = 26
status_code BadElf = 27
status_code TracingData = 28

-- the number is the code of a status with this property
abbrev pub IsCodeOf : ℕ → (Status → Type 0) → Type 0
IsCodeOf code P = (s : Status) × (code ≡ status_code s) × P s

-- the texts of statuses, by their codes
abbrev pub status_texts : List (ℕ × List ℕ)
status_texts =
    (0, codes "no error") ∷
    (1, codes "out of memory") ∷
    (2, codes "the input is truncated") ∷
    (3, codes "a metadata record has an invalid attribute size") ∷
    (4, codes "the header size is out of range") ∷
    (5, codes "compressed records are not supported") ∷
    (6, codes "the input can't be read") ∷
    (7, codes "not a perf.data file or pipe") ∷
    (8, codes "the input declares no event attributes") ∷
    (9, codes "the data section ends past 2^64 - 1") ∷
    (10, codes "an event attribute or its id section is truncated or out of range") ∷
    (11, codes "an event attribute is larger than its entry") ∷
    (12, codes "several event attributes, and one without PERF_SAMPLE_IDENTIFIER") ∷
    (13, codes "several event attributes that disagree about sample_id_all") ∷
    (14, codes "simpleperf's meta info lists no event types") ∷
    (15, codes "simpleperf's meta info is not UTF-8") ∷
    (16, codes "a record header contains a size below 8") ∷
    (17, codes "a record is truncated, or ends past 2^64 - 1") ∷
    (18, codes "the jitdump header is truncated, or larger than 4096 bytes") ∷
    (19, codes "the jitdump header contains a size below 40") ∷
    (20, codes "not a jitdump") ∷
    (21, codes "a jitdump record contains a size below 16, or ends past 2^64 - 1") ∷
    (22, codes "the jitdump record has another type") ∷
    (23, codes "the body of the jitdump record is malformed") ∷
    (24, codes "a record of simpleperf's symbol tables is malformed") ∷
    (25, codes "the array is too small for the next record") ∷
    (26, codes "not an ELF file") ∷
    (27, codes "a table of the ELF file is truncated, or its entries are too small") ∷
    (28, codes "tracing data in a pipe isn't supported: record to a file") ∷ []

-- the text of a status code
unfoldable pub code_text : ℕ → List ℕ
code_text code = unwrap_or (option_map (λ row. row.1) (find (λ row. nat_eq code row.0) status_texts)) (codes "unknown status")

-- the status of a kind of I/O error
abbrev pub io_kind_status : ErrorKind → Status
io_kind_status kind.UnexpectedEof = Truncated
io_kind_status kind.InvalidData = InvalidData
io_kind_status kind.InvalidInput = InvalidHeaderSize
io_kind_status kind.Unsupported = Compressed
io_kind_status _ = Other

-- the status of a part that can't be read
abbrev pub read_error_status : ReadError → Status
read_error_status part.FeatureSection = BadDataSection
read_error_status part.PerfEventAttr = BadAttribute
read_error_status part.PerfEventData = TruncatedRecord
read_error_status _ = Other

-- the status of an error
abbrev pub error_status : Error → Status
error_status error.Memory = OutOfMemory
error_status (error.IoError e) = io_kind_status (error_kind e)
error_status (error.Read p) = read_error_status p
error_status (error.UnrecognizedMagicValue magic) = BadMagic
error_status error.NoAttributes = NoAttributes
error_status (error.InconsistentAttributeSizes own size) = AttributeTooLarge
error_status (error.NoIdentifierDespiteMultiEvent i) = MissingIdentifier
error_status (error.InconsistentSampleIdAllWithMultiEvent i) = SampleIdAllMismatch
error_status error.NoEventTypesInSimpleperfMetaInfo = NoEventTypes
error_status error.StringUtf8 = InvalidUtf8
error_status error.InvalidPerfEventSize = BadRecordSize
error_status error.FeatureSectionTooSmall = Truncated
error_status (error.ProtobufParsingSimpleperfFileSection e) = BadSymbolTable
error_status (error.ParsingSimpleperfFileV1Section e) = BadSymbolTable
error_status _ = Other

-- the status for the end of a walk over records
abbrev pub walk_status : {A : Type 0} → Result A Error → Status
walk_status (Ok _) = Success
walk_status (Err e) = error_status e

-- the status of a jitdump header's error
abbrev pub jit_error_status : JitDumpError → Status
jit_error_status jit.NotEnoughBytesForHeader = JitTruncatedHeader
jit_error_status (jit.InvalidHeaderSize size) = JitBadHeaderSize
jit_error_status (jit.InvalidMagicBytes magic) = JitBadMagic
jit_error_status (jit.UnrecognizedVersion version) = Other
jit_error_status (jit.Io e) = io_kind_status (error_kind e)
