-- The result for a string of a feature section.
use Rattle.std.specs.Prelude.{◌≡◌, ◌⊎◌, ℕ, ◌+◌, List, length, drop}
use Rattle.perfdata_sources.specs.Endian.{number_in}
use Rattle.perfdata_sources.specs.declared.endian.Endianness.{Endianness}
use Rattle.linux_perf_data.specs.Values.{BeginsWithString, string_text}
use Rattle.linux_perf_data.specs.RecordEntries.{HasBytesAt}
use Rattle.perfdata_arrays.specs.declared.status.Status.{Status}
use Rattle.perfdata_arrays.specs.declared.status.Status.TheVariants.{Success, Truncated}
use Rattle.perfdata_arrays.specs.declared.strings.StringEntry.{StringEntry}

-- the positions of the string at an offset: its text follows its length of four bytes
abbrev pub string_entry : Endianness → List ℕ → ℕ → StringEntry
string_entry endian section at = record {
  text_offset = at + 4;
  text_size = length (string_text endian (drop at section));
  next_offset = at + 4 + number_in endian 4 (drop at section);
}

-- The positions of the complete string at an offset are written, and its text is at its offset; or there is none, and the old value
-- is unchanged.
abbrev pub ReadsString : Endianness → List ℕ → ℕ → StringEntry → Status → StringEntry → Type 0
ReadsString endian section at old status new =
    ((status ≡ Success) × BeginsWithString endian (drop at section) × HasBytesAt section (at + 4) (string_text endian (drop at section))
    × (new ≡ string_entry endian section at))
    ⊎ ((status ≡ Truncated) × (¬ BeginsWithString endian (drop at section)) × (new ≡ old))
