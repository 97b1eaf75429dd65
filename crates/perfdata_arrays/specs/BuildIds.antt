-- The result for an entry of a BUILD_ID section.
use Rattle.std.specs.Prelude.{◌≡◌, ◌⊎◌, ℕ, ◌+◌, ◌%◌, ◌++◌, List, length, drop, Option, None, Some}
use Rattle.perfdata_sources.specs.Endian.{number_in}
use Rattle.perfdata_sources.specs.CpuMode.{cpu_mode_of}
use Rattle.perfdata_sources.specs.declared.endian.Endianness.{Endianness}
use Rattle.perfdata_records.specs.BuildIdEvent.{BuildIdEntry as Entry, IsTruncatedBuildIdEntry, IsBuildIdEntry}
use Rattle.perfdata_records.specs.DsoKey.{Key, kernel, guest_kernel, vdso_32, vdso_x32, vdso_64, vsyscall, kernel_module, user, key_of, HasTexts}
use Rattle.linux_perf_data.specs.RecordEntries.{HasBytesAt}
use Rattle.perfdata_arrays.specs.declared.build_ids.BuildId.{BuildId}
use Rattle.perfdata_arrays.specs.declared.status.Status.{Status}
use Rattle.perfdata_arrays.specs.declared.status.Status.TheVariants.{Success, OutOfMemory, Truncated}

-- the number of a key's DSO kind, and 0 for `None`
abbrev pub dso_kind_number : Option Key → ℕ
dso_kind_number None = 0
dso_kind_number (Some kernel) = 1
dso_kind_number (Some guest_kernel) = 2
dso_kind_number (Some vdso_32) = 3
dso_kind_number (Some vdso_x32) = 4
dso_kind_number (Some vdso_64) = 5
dso_kind_number (Some vsyscall) = 6
dso_kind_number (Some (kernel_module name)) = 7
dso_kind_number (Some (user file_name full_path)) = 8

-- the kind of a path in the CPU mode of a record header is written; or memory ran out for the strings of its key, and the old value is unchanged
abbrev pub FindsDsoKind : List ℕ → ℕ → ℕ → Status → ℕ → Type 0
FindsDsoKind path misc old status new =
    ((status ≡ Success) × (new ≡ dso_kind_number (key_of path (cpu_mode_of (misc % 8)))))
    ⊎ ((status ≡ OutOfMemory) × HasTexts (key_of path (cpu_mode_of (misc % 8))) × (new ≡ old))

-- the key of an entry's path, in the CPU mode of its record header
abbrev pub dso_key_of_entry : Entry → Option Key
dso_key_of_entry e = key_of e.path (cpu_mode_of (e.header.misc % 8))

-- an entry of `size` bytes at offset `offset`, as plain numbers
abbrev pub build_id_entry : ℕ → ℕ → Entry → BuildId
build_id_entry offset size e = record {
  id_offset = offset + 12;
  id_size = length e.build_id;
  path_offset = offset + 36;
  path_size = length e.path;
  next_offset = offset + size;
  pid = e.pid;
  dso_kind = dso_kind_number (dso_key_of_entry e);
  misc = e.header.misc;
  reserved = 0;
  reserved_2 = 0;
}

module _ (endian : Endianness) where
  -- The section has an entry at offset `offset`. Its build ID and its path are at the offsets in `out`.
  pub record HasBuildIdAt (section : List ℕ) (offset : ℕ) (out : BuildId) : Type 0 where
    pub entry_bytes : List ℕ
    pub rest : List ℕ
    pub split : drop offset section ≡ entry_bytes ++ rest
    pub entry : Entry
    pub is : IsBuildIdEntry (number_in endian) entry_bytes entry
    pub matches_entry : out ≡ build_id_entry offset (length entry_bytes) entry
    pub id_bytes : HasBytesAt section (offset + 12) entry.build_id
    pub path_bytes : HasBytesAt section (offset + 36) entry.path

  -- The entry is written; or the section has no complete entry at the offset, or it has one and memory ran out, and the old value is
  -- unchanged.
  abbrev pub ReadsBuildId : List ℕ → ℕ → BuildId → Status → BuildId → Type 0
  ReadsBuildId section offset old status new =
      ((status ≡ Success) × HasBuildIdAt section offset new)
      ⊎ (((status ≡ Truncated) × IsTruncatedBuildIdEntry (number_in endian) (drop offset section) × (new ≡ old))
      ⊎ ((status ≡ OutOfMemory) × (¬ IsTruncatedBuildIdEntry (number_in endian) (drop offset section)) × (new ≡ old)))
