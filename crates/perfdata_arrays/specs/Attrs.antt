-- The results for attributes, with their names and IDs.
use Rattle.std.specs.Prelude.{◌≡◌, ◌⊎◌, ℕ, ◌+◌, ◌^◌, ◌≤◌, List, [], ◌∷◌, ◌++◌, length, flat_map, Option, None, Some}
use Rattle.perfdata_sections.specs.AttributeDescription.{attr_in, ids_in, name_in}
use Rattle.perfdata_sections.specs.declared.feature_sections.AttributeDescription.{AttributeDescription}
use Rattle.linux_perf_data.specs.declared.perf_file.PerfFile.{PerfFile}
use Rattle.linux_perf_data.specs.PerfFile.{descriptions_of_file}
use Rattle.linux_perf_data.specs.RecordEntries.{with_prefix, one_if_some}
use Rattle.perfdata_arrays.specs.Metadata.{ReportsFile, ReportsPipe}
use Rattle.perfdata_arrays.specs.declared.attrs.Attr.{Attr}
use Rattle.perfdata_arrays.specs.declared.attrs.AttrsResult.{AttrsResult}
use Rattle.perfdata_arrays.specs.declared.status.Status.{Status}
use Rattle.perfdata_arrays.specs.declared.status.Status.TheVariants.{OutOfMemory}

-- the text, or no bytes for `None`
abbrev pub text_or_empty : Option (List ℕ) → List ℕ
text_or_empty None = []
text_or_empty (Some text) = text

-- the bytes of an attribute's name; empty if it has none
abbrev pub name_bytes : AttributeDescription → List ℕ
name_bytes d = text_or_empty (name_in d)

abbrev pub has_name_number : AttributeDescription → ℕ
has_name_number d = one_if_some (name_in d)

-- the entry of an attribute whose name is at offset `names` and whose first ID has index `ids`
abbrev pub attr_entry_at : ℕ → ℕ → AttributeDescription → Attr
attr_entry_at names ids d = record {
  config = (attr_in d).config;
  sample_period_or_freq = (attr_in d).period_or_freq;
  sample_type = (attr_in d).sample_format.0;
  read_format = (attr_in d).read_format;
  flags = (attr_in d).flags.0;
  config1 = (attr_in d).config1;
  config2 = (attr_in d).config2;
  branch_sample_type = (attr_in d).branch_sample_type;
  sample_regs_user = (attr_in d).sample_regs_user;
  sample_regs_intr = (attr_in d).sample_regs_intr;
  sig_data = (attr_in d).sig_data;
  config3 = (attr_in d).config3;
  name_offset = names;
  name_size = length (name_bytes d);
  ids_start = ids;
  ids_count = length (ids_in d);
  type_ = (attr_in d).type_;
  size = (attr_in d).size;
  wakeup_events = (attr_in d).wakeup;
  bp_type = (attr_in d).bp_type;
  sample_stack_user = (attr_in d).sample_stack_user;
  clockid = (attr_in d).clockid;
  aux_watermark = (attr_in d).aux_watermark;
  aux_sample_size = (attr_in d).aux_sample_size;
  sample_max_stack = (attr_in d).sample_max_stack;
  has_name = has_name_number d;
}

-- the concatenated names of attributes, and their concatenated IDs
abbrev pub all_names : List AttributeDescription → List ℕ
all_names ds = flat_map name_bytes ds

abbrev pub all_ids : List AttributeDescription → List ℕ
all_ids ds = flat_map ids_in ds

-- the entries of attributes; the first name is at offset `names`, the first ID has index `ids`
abbrev pub attr_entries_at : ℕ → ℕ → List AttributeDescription → List Attr
attr_entries_at names ids [] = []
attr_entries_at names ids (d ∷ ds) = attr_entry_at names ids d ∷ attr_entries_at (names + length (name_bytes d)) (ids + length (ids_in d)) ds

-- These attributes, their names and their IDs are written, each as a prefix of its array.
pub record WritesAttrs (descriptions : List AttributeDescription) (entries : List Attr) (names ids : List ℕ) (entries' : List Attr)
    (names' ids' : List ℕ) : Type 0 where
  pub entries_written : entries' ≡ with_prefix (attr_entries_at 0 0 descriptions) entries
  pub names_written : names' ≡ with_prefix (all_names descriptions) names
  pub ids_written : ids' ≡ with_prefix (all_ids descriptions) ids

-- The end of the attribute's name or of its IDs doesn't fit in 64 bits. The name starts at offset `names`, the IDs start at index
-- `ids`.
abbrev pub ExceedsU64 : ℕ → ℕ → AttributeDescription → Type 0
ExceedsU64 names ids d = (2 ^ 64 ≤ names + length (name_bytes d)) ⊎ (2 ^ 64 ≤ ids + length (ids_in d))

-- These attributes are written and counted. Either they are all, and the status is the one given; or they are a prefix, and the
-- name end or the ID end of the next attribute doesn't fit in 64 bits. No memory can contain so many names or IDs.
pub record WritesAttrsOrPrefix (all : List AttributeDescription) (status : Status) (entries : List Attr) (names ids : List ℕ) (outcome : AttrsResult)
    (entries' : List Attr) (names' ids' : List ℕ) : Type 0 where
  pub written : List AttributeDescription
  pub unwritten : List AttributeDescription
  pub split : all ≡ written ++ unwritten
  pub count : outcome.totals.attr_count ≡ length written
  pub names_count : outcome.totals.names_size ≡ length (all_names written)
  pub ids_count : outcome.totals.ids_count ≡ length (all_ids written)
  pub writes : WritesAttrs written entries names ids entries' names' ids'
  pub ends : ((unwritten ≡ []) × (outcome.status ≡ status))
      ⊎ ((outcome.status ≡ OutOfMemory) × ((d : AttributeDescription)
      × ((rest : List AttributeDescription) × (unwritten ≡ d ∷ rest) × ExceedsU64 outcome.totals.names_size outcome.totals.ids_count d)))

-- all totals are 0
abbrev pub no_attrs_with : Status → AttrsResult
no_attrs_with status = record { totals = record { attr_count = 0; names_size = 0; ids_count = 0 }; status = status }

module _ (entries : List Attr) (names ids : List ℕ) (outcome : AttrsResult) (entries' : List Attr) (names' ids' : List ℕ) where
  abbrev pub WritesAttrsOf : PerfFile → Status → Type 0
  WritesAttrsOf file status = WritesAttrsOrPrefix (descriptions_of_file file) status entries names ids outcome entries' names' ids'

  -- nothing is written, and all totals are 0
  abbrev pub WritesNothing : Status → Type 0
  WritesNothing status = (outcome ≡ no_attrs_with status) × (entries' ≡ entries) × (names' ≡ names) × (ids' ≡ ids)

-- The result for a file's attributes. If the file doesn't open, nothing is written.
abbrev pub ReadsFileAttrs : List ℕ → List Attr → List ℕ → List ℕ → AttrsResult → List Attr → List ℕ → List ℕ → Type 0
ReadsFileAttrs bytes entries names ids outcome entries' names' ids' =
    ReportsFile bytes (WritesAttrsOf entries names ids outcome entries' names' ids') (WritesNothing entries names ids outcome entries' names' ids')

-- The result for a pipe's attributes, up to the pipe's end or first error. If the pipe doesn't open, nothing is written.
abbrev pub ReadsPipeAttrs : List ℕ → List Attr → List ℕ → List ℕ → AttrsResult → List Attr → List ℕ → List ℕ → Type 0
ReadsPipeAttrs bytes entries names ids outcome entries' names' ids' =
    ReportsPipe bytes (WritesAttrsOf entries names ids outcome entries' names' ids') (WritesNothing entries names ids outcome entries' names' ids')
