-- The entries that records add are determined by the records.
use Rattle.std.proofs.Common.{◌≡◌, ◌⊎◌, ℕ, ◌+◌, ◌≤◌, Bool, true, false, List, [], ◌∷◌, length, refl, sym, ap, ◌∙◌, subst, inl, inr, arith, Option, None, Some}
use Rattle.std.specs.Prelude.{map, pos, min, replicate}
use Rattle.perfdata_sources.specs.Raw.{bytes_of}
use Rattle.perfdata_base.specs.declared.event.raw_event_record.RawEventRecord.{RawEventRecord}
use Rattle.perfdata_sources.specs.declared.endian.Endianness.{Endianness}
use Rattle.linux_perf_data.specs.Attribute.{Attribute}
use Rattle.linux_perf_data.specs.Layout.{RecordView}
use Rattle.perfdata_events.specs.Event.{IsParsed, ParseFails}
use Rattle.perfdata_events.specs.EventView.{EventView, comm_view, event_view, exit_view, fork_view, mmap2_view, mmap_view}
use Rattle.perfdata_events.specs.FileId.{FileId, build_id, file_id_of, inode}
use Rattle.perfdata_events.specs.Mmap.{Mapping}
use Rattle.perfdata_events.specs.Mmap2.{Protection}
use Rattle.perfdata_events.specs.declared.event.EventRecord.{EventRecord}
use Rattle.perfdata_events.specs.declared.event.EventRecord.TheVariants.{Comm, Exit, Fork, Mmap, Mmap2}
use Rattle.perfdata_events.specs.declared.fields.file_id.Mmap2FileId.{Mmap2FileId}
use Rattle.perfdata_events.specs.declared.fields.file_id.Mmap2FileId.TheVariants.{BuildId, InodeAndVersion}
use Rattle.perfdata_arrays.proofs.ParsedOnce.{both, never_both, one_event, with_raw}
use Rattle.perfdata_arrays.proofs.KindLaws.{KindLaws, counts_same}
use Rattle.perfdata_arrays.specs.Entries.{FailsToParse, HasEntries, ParsesEntries, entry_envelope, event_kind, list_of}
use Rattle.perfdata_arrays.specs.Mappings.{event_mapping, event_mappings, identity_of, is_mapping_type, mapping_kind, padded_build_id}
use Rattle.perfdata_arrays.specs.SampleRecords.{format_of_event}
use Rattle.perfdata_arrays.specs.Tasks.{event_task, event_tasks, fork_or_exit_entry, is_task_type, one_if_true, task_kind}
use Rattle.perfdata_arrays.specs.declared.envelope.EntryEnvelope.{EntryEnvelope}
use Rattle.perfdata_arrays.specs.declared.mappings.FileIdentity.{FileIdentity}
use Rattle.perfdata_arrays.specs.declared.mappings.MappingEntry.{MappingEntry}
use Rattle.perfdata_arrays.specs.declared.tasks.TaskEntry.{TaskEntry}

-- Says which entries a record has, by a byte order, attributes and the offset of the first record.
abbrev EntryRelation : Type 0 → Type 1
EntryRelation E = Endianness → List Attribute → ℕ → RecordView → List E → Type 0

-- a record has the same entries each time
abbrev pub IsUnique : {E : Type 0} → EntryRelation E → Type 0
IsUnique {E} IsOf = (order : Endianness) (attrs : List Attribute) (base : ℕ) (h : RecordView) (s t : List E) → IsOf order attrs base h s → IsOf order attrs base h t → s ≡ t

map_same : {T : Type 0} (s : List T) → s ≡ map (λ x. x) s
map_same [] = refl
map_same (x ∷ xs) = ap (λ l. x ∷ l) (map_same xs)

-- ---- entries of parsed records

-- Entries that are determined by what a record contains are unique.
module _ {E : Type 0} (has_type : ℕ → Bool) (entries_of : EntryEnvelope → EventRecord → List E) (of_view : EntryEnvelope → EventView → List E) (by_view : (envelope : EntryEnvelope) (raw : RawEventRecord) (e : EventRecord) → entries_of envelope e ≡ of_view envelope (event_view (with_raw raw e)))
    (order : Endianness) (attrs : List Attribute) (base : ℕ) (h : RecordView) where
  parsed_alike : (s t : List E) → ParsesEntries has_type entries_of order attrs base h s → ParsesEntries has_type entries_of order attrs base h t → s ≡ t
  parsed_alike s t p q =
      let formats : Some p.format ≡ Some q.format = sym p.format_is ∙ q.format_is in
      let same_format : p.format ≡ q.format = cc in
      let same_type = p.raw_is.record_type ∙ sym q.raw_is.record_type in
      let same_misc = p.raw_is.misc ∙ sym q.raw_is.misc in
      let same_body = p.raw_is.body ∙ sym q.raw_is.body in
      let parsed = subst (λ f. IsParsed f q.raw q.parsed) (sym same_format) q.is_parsed in
      let raw = both p.format p.raw q.raw same_type same_misc same_body in
      let envelope = entry_envelope base h in
      p.entries_are ∙ by_view envelope raw p.parsed ∙ ap (of_view envelope) (one_event p.format p.raw q.raw same_type same_misc same_body p.parsed q.parsed p.is_parsed parsed) ∙ sym (by_view envelope raw q.parsed) ∙ sym q.entries_are

  parses_or_not : (s : List E) → has_type h.record_type ≡ true → ParsesEntries has_type entries_of order attrs base h s → (has_type h.record_type ≡ false) ⊎ ((format_of_event order attrs h.event ≡ None) ⊎ FailsToParse order attrs h) → ⊥
  parses_or_not s is p (inl no_type) = (let e : true ≡ false = sym is ∙ no_type in absurd cc)
  parses_or_not s is p (inr (inl no_format)) = (let e : Some p.format ≡ None = sym p.format_is ∙ no_format in absurd cc)
  parses_or_not s is p (inr (inr q)) =
      let formats : Some p.format ≡ Some q.format = sym p.format_is ∙ q.format_is in
      let same_format : p.format ≡ q.format = cc in
      never_both p.format p.raw q.raw (p.raw_is.record_type ∙ sym q.raw_is.record_type) (p.raw_is.misc ∙ sym q.raw_is.misc) (p.raw_is.body ∙ sym q.raw_is.body) p.parsed q.kind p.is_parsed (subst (λ f. ParseFails f q.raw q.kind) (sym same_format) q.fails)

  pub has_unique_entries : (s t : List E) → HasEntries has_type entries_of order attrs base h s → HasEntries has_type entries_of order attrs base h t → s ≡ t
  has_unique_entries s t (inl p) (inl q) = parsed_alike s t p.1 q.1
  has_unique_entries s t (inl p) (inr q) = absurd (parses_or_not s p.0 p.1 q.1)
  has_unique_entries s t (inr p) (inl q) = absurd (parses_or_not t q.0 q.1 p.1)
  has_unique_entries s t (inr p) (inr q) = p.0 ∙ sym q.0

-- ---- kinds of entries

module _ {E : Type 0} (has_type : ℕ → Bool) (entries_of : EntryEnvelope → EventRecord → List E) (is_single : Bool) (unique : IsUnique (HasEntries has_type entries_of)) (single : is_single ≡ true → (envelope : EntryEnvelope) (e : EventRecord) → length (entries_of envelope e) ≤ 1) where
  -- a record of such a kind has one entry at most
  one_at_most : is_single ≡ true → (order : Endianness) (attrs : List Attribute) (base : ℕ) (h : RecordView) (s : List E) → HasEntries has_type entries_of order attrs base h s → length s ≤ 1
  one_at_most is order attrs base h s (inl p) = (let few = single is (entry_envelope base h) p.1.parsed in omega (arith, few, ap length p.1.entries_are))
  one_at_most is order attrs base h s (inr q) = (let none = ap length q.0 in omega (arith, none))

  pub event_laws : KindLaws (event_kind has_type entries_of is_single)
  event_laws = record {
    unique = λ wants order attrs base used h s t f g p q. (unique order attrs base h s t p.0 q.0, p.1 ∙ sym q.1);
    none = λ wants order attrs base used h f p. p.1;
    unshifted = λ x. refl;
    moves = λ wants order attrs base n used h s f p. (subst (HasEntries has_type entries_of order attrs base h) (map_same s) p.0, p.1);
    too_many = λ capacity frames_capacity count used s f needed exceeds. inl exceeds.2;
    one_report = λ capacity frames_capacity count used s f a b p q. counts_same a b (p.0 ∙ sym q.0) (p.1 ∙ sym q.1);
    fits = λ frames_capacity is order attrs base capacity count used h s f needed adds fewer within exceeds.
        (let few = one_at_most is order attrs base h s adds.0 in let many = exceeds.2 in omega (arith, few, many, fewer));
  }

-- a record has one entry at most
few_of : {E : Type 0} (entry : Option E) → length (list_of entry) ≤ 1
few_of None = omega arith
few_of (Some entry) = omega arith

-- ---- tasks

abbrev task_of_view : EntryEnvelope → EventView → Option TaskEntry
task_of_view envelope (comm_view v) = Some (record {
  offset = envelope.offset;
  timestamp = envelope.timestamp;
  name_offset = envelope.body_offset + 8;
  name_size = length v.1;
  kind = 3;
  is_exec = one_if_true v.0.is_execve;
  pid = v.0.pid;
  tid = v.0.tid;
  parent_pid = pos 0;
  parent_tid = pos 0;
})
task_of_view envelope (exit_view v) = Some (fork_or_exit_entry envelope 4 v)
task_of_view envelope (fork_view v) = Some (fork_or_exit_entry envelope 7 v)
task_of_view envelope _ = None

task_by_view : (envelope : EntryEnvelope) (raw : RawEventRecord) (e : EventRecord) → event_task envelope e ≡ task_of_view envelope (event_view (with_raw raw e))
task_by_view envelope raw (Comm v) = refl
task_by_view envelope raw (Exit v) = refl
task_by_view envelope raw (Fork v) = refl
task_by_view envelope raw _ = refl

pub task_laws : KindLaws task_kind
task_laws = event_laws is_task_type event_tasks true (has_unique_entries is_task_type event_tasks (λ envelope v. list_of (task_of_view envelope v)) (λ envelope raw e. ap list_of (task_by_view envelope raw e))) (λ is envelope e. few_of (event_task envelope e))

-- ---- mappings

abbrev identity_of_view : FileId → FileIdentity
identity_of_view (inode v) = record {
  inode = v.inode;
  inode_generation = v.inode_generation;
  major = v.major;
  minor = v.minor;
  build_id = replicate 20 0;
  build_id_size = 0;
}
identity_of_view (build_id bytes) = record {
  inode = 0;
  inode_generation = 0;
  major = 0;
  minor = 0;
  build_id = padded_build_id bytes;
  build_id_size = min 20 (length bytes);
}

identity_by_view : (id : Mmap2FileId) → identity_of id ≡ identity_of_view (file_id_of id)
identity_by_view (InodeAndVersion v) = refl
identity_by_view (BuildId bytes) = refl

-- the entry of a mapping with a file, at this offset in its record, and of these kind and numbers
abbrev mapping_entry : EntryEnvelope → Mapping → List ℕ → FileIdentity → Protection → ℕ → ℕ → MappingEntry
mapping_entry envelope mapping path file protection kind path_offset = record {
  offset = envelope.offset;
  timestamp = envelope.timestamp;
  address = mapping.address;
  length = mapping.byte_length;
  page_offset = mapping.page_offset;
  inode = file.inode;
  inode_generation = file.inode_generation;
  path_offset = envelope.body_offset + path_offset;
  path_size = length path;
  kind = kind;
  major = file.major;
  minor = file.minor;
  protection = protection.protection;
  flags = protection.flags;
  pid = mapping.pid;
  tid = mapping.tid;
  build_id = file.build_id;
  build_id_size = file.build_id_size;
  is_data = one_if_true mapping.is_data;
  misc = envelope.misc;
  reserved = 0;
}

abbrev mapping_of_view : EntryEnvelope → EventView → Option MappingEntry
mapping_of_view envelope (mmap_view v) = Some (mapping_entry envelope v.0 v.1 (record { inode = 0; inode_generation = 0; major = 0; minor = 0; build_id = replicate 20 0; build_id_size = 0 }) (record { protection = 0; flags = 0 }) 1 32)
mapping_of_view envelope (mmap2_view v) = Some (mapping_entry envelope v.0 v.1.1.1 (identity_of_view v.1.0) v.1.1.0 10 64)
mapping_of_view envelope _ = None

mapping_by_view : (envelope : EntryEnvelope) (raw : RawEventRecord) (e : EventRecord) → event_mapping envelope e ≡ mapping_of_view envelope (event_view (with_raw raw e))
mapping_by_view envelope raw (Mmap v) = refl
mapping_by_view envelope raw (Mmap2 v) = λ i. Some (mapping_entry envelope (record { pid = v.pid; tid = v.tid; address = v.address; byte_length = v.length; page_offset = v.page_offset; is_data = v.is_data }) (bytes_of v.path) (identity_by_view v.file_id i) (record { protection = v.protection; flags = v.flags }) 10 64)
mapping_by_view envelope raw _ = refl

pub mapping_laws : KindLaws mapping_kind
mapping_laws =
    event_laws is_mapping_type event_mappings true (has_unique_entries is_mapping_type event_mappings (λ envelope v. list_of (mapping_of_view envelope v)) (λ envelope raw e. ap list_of (mapping_by_view envelope raw e))) (λ is envelope e. few_of (event_mapping envelope e))
