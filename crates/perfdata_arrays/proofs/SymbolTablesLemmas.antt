-- Lemmas on the files of a symbol table section that are written one after another.
use Rattle.std.proofs.Common.{◌≡◌, ℕ, zero, suc, ◌+◌, ◌<◌, ◌≤◌, ◌++◌, List, [], ◌∷◌, length, take, drop, refl, sym, ap, ◌∙◌, arith, inr, append_assoc, length-append, get_or}
use Rattle.std.specs.Prelude.{flat_map, map}
use Rattle.std.proofs.lemmas.List.{append-nil, take-append-drop, map-append}
use Rattle.std.proofs.lemmas.Grind.{flat_map-append, take_at_read}
use Rattle.perfdata_simpleperf.specs.FileRecord.{FileValue, SymbolValue, record_value, symbol_value}
use Rattle.perfdata_simpleperf.specs.declared.simpleperf.file_record.SimpleperfFileRecord.{SimpleperfFileRecord}
use Rattle.perfdata_simpleperf.specs.declared.simpleperf.file_record.SimpleperfSymbol.{SimpleperfSymbol}
use Rattle.linux_perf_data.specs.RecordEntries.{with_prefix}
use Rattle.perfdata_arrays.specs.Overwrites.{with_entries_at}
use Rattle.perfdata_arrays.specs.SymbolTables.{ExceedsU64, SymbolArrays, WritesFiles, WritesFilesOrPrefix, all_symbols_at, dex_offsets_of, file_entries_at, file_entry_at, file_names, symbol_entries_at, symbol_entry_at, symbol_names, totals_after, totals_after_all, zero_totals}
use Rattle.perfdata_arrays.specs.declared.status.Status.TheVariants.{OutOfMemory}
use Rattle.perfdata_arrays.specs.declared.symbol_tables.Symbol.{Symbol}
use Rattle.perfdata_arrays.specs.declared.symbol_tables.SymbolFile.{SymbolFile}
use Rattle.perfdata_arrays.specs.declared.symbol_tables.SymbolTotals.{SymbolTotals}
use Rattle.perfdata_arrays.proofs.OverwriteLemmas.{with_entries_at-more, with_entries_at-with_prefix}
use Rattle.perfdata_arrays.proofs.AttrsLemmas.{flat_map-snoc}

-- ---- prefixes of a list

-- the values of a prefix, one longer
pub values-snoc : {A B : Type 0} (f : A → B) (all : List A) (index : ℕ) (x : A) → index < length all → x ≡ get_or all index x → map f (take (index + 1) all) ≡ map f (take index all) ++ f x ∷ []
values-snoc f all index x inside is = ap (map f) ((take_at_read all index x inside).1 ∙ ap (λ y. take index all ++ y ∷ []) (sym is)) ∙ map-append f (take index all) (x ∷ [])

-- the next value is the first after a prefix
drop-next : {A : Type 0} (all : List A) (index : ℕ) (x : A) → index < length all → x ≡ get_or all index x → drop index all ≡ x ∷ drop (suc index) all
drop-next [] index x inside is = absurd (omega (arith, inside))
drop-next (y ∷ all) zero x inside is = ap (λ e. e ∷ all) (sym is)
drop-next (y ∷ all) (suc index) x inside is = drop-next all index x (omega (arith, inside)) is

-- ---- symbols

-- the names of the symbols in a prefix aren't longer than those of all
pub names-prefix : (all : List SimpleperfSymbol) (index : ℕ) → length (symbol_names (map symbol_value (take index all))) ≤ length (symbol_names (map symbol_value all))
names-prefix all index =
    let e : symbol_names (map symbol_value all) ≡ symbol_names (map symbol_value (take index all)) ++ symbol_names (map symbol_value (drop index all)) =
    ap (λ l. symbol_names (map symbol_value l)) (sym (take-append-drop index all)) ∙ ap symbol_names (map-append symbol_value (take index all) (drop index all)) ∙ flat_map-append (λ s. s.name) (map symbol_value (take index all)) (map symbol_value (drop index all)) in
    omega (arith, ap length e, length-append (symbol_names (map symbol_value (take index all))) (symbol_names (map symbol_value (drop index all))))

pub symbol_names-snoc : (symbols : List SymbolValue) (s : SymbolValue) → symbol_names (symbols ++ s ∷ []) ≡ symbol_names symbols ++ s.name
symbol_names-snoc symbols s = flat_map-snoc (λ t. t.name) symbols s

pub length-symbol_names-snoc : (symbols : List SymbolValue) (s : SymbolValue) → length (symbol_names (symbols ++ s ∷ [])) ≡ length (symbol_names symbols) + length s.name
length-symbol_names-snoc symbols s = ap length (symbol_names-snoc symbols s) ∙ length-append (symbol_names symbols) s.name

symbol_entries_at-snoc : (offset : ℕ) (symbols : List SymbolValue) (s : SymbolValue) → symbol_entries_at offset (symbols ++ s ∷ []) ≡ symbol_entries_at offset symbols ++ symbol_entry_at (offset + length (symbol_names symbols)) s ∷ []
symbol_entries_at-snoc offset [] s = (let e : offset ≡ offset + 0 = omega arith in ap (λ n. symbol_entry_at n s ∷ []) e)
symbol_entries_at-snoc offset (t ∷ symbols) s =
    let e : (offset + length t.name) + length (symbol_names symbols) ≡ offset + length (symbol_names (t ∷ symbols)) = omega (arith, length-append t.name (symbol_names symbols)) in
    ap (λ l. symbol_entry_at offset t ∷ l) (symbol_entries_at-snoc (offset + length t.name) symbols s ∙ ap (λ n. symbol_entries_at (offset + length t.name) symbols ++ symbol_entry_at n s ∷ []) e)

length-symbol_entries_at : (offset : ℕ) (symbols : List SymbolValue) → length (symbol_entries_at offset symbols) ≡ length symbols
length-symbol_entries_at offset [] = refl
length-symbol_entries_at offset (s ∷ symbols) = ap (λ n. suc n) (length-symbol_entries_at (offset + length s.name) symbols)

-- one more symbol is written
pub symbols_written-snoc : (symbols : List SymbolValue) (s : SymbolValue) (start next name_start name_offset : ℕ) (entry : Symbol) (old now new : List Symbol) → next ≡ start + length symbols → name_offset ≡ name_start + length (symbol_names symbols)
    → entry ≡ symbol_entry_at name_offset s → now ≡ with_entries_at start (symbol_entries_at name_start symbols) old → new ≡ with_entries_at next (entry ∷ []) now
    → new ≡ with_entries_at start (symbol_entries_at name_start (symbols ++ s ∷ [])) old
symbols_written-snoc symbols s start next name_start name_offset entry old now new counted names_counted is written copied =
    copied ∙ (λ i. with_entries_at next (is i ∷ []) (written i))
    ∙ with_entries_at-more start next (symbol_entries_at name_start symbols) (symbol_entry_at name_offset s ∷ []) old (omega (arith, counted, length-symbol_entries_at name_start symbols))
    ∙ ap (λ n. with_entries_at start (symbol_entries_at name_start symbols ++ symbol_entry_at n s ∷ []) old) names_counted ∙ ap (λ l. with_entries_at start l old) (sym (symbol_entries_at-snoc name_start symbols s))

pub names_written-snoc : (symbols : List SymbolValue) (s : SymbolValue) (name_start name_offset : ℕ) (name old now new : List ℕ) → name_offset ≡ name_start + length (symbol_names symbols) → name ≡ s.name
    → now ≡ with_entries_at name_start (symbol_names symbols) old → new ≡ with_entries_at name_offset name now → new ≡ with_entries_at name_start (symbol_names (symbols ++ s ∷ [])) old
names_written-snoc symbols s name_start name_offset name old now new counted is written copied =
    copied ∙ (λ i. with_entries_at name_offset (is i) (written i)) ∙ with_entries_at-more name_start name_offset (symbol_names symbols) s.name old counted
    ∙ ap (λ l. with_entries_at name_start l old) (sym (symbol_names-snoc symbols s))

-- ---- files

totals_after_all-snoc : (t : SymbolTotals) (vs : List FileValue) (v : FileValue) → totals_after_all t (vs ++ v ∷ []) ≡ totals_after (totals_after_all t vs) v
totals_after_all-snoc t [] v = refl
totals_after_all-snoc t (w ∷ vs) v = totals_after_all-snoc (totals_after t w) vs v

file_entries_at-snoc : (t : SymbolTotals) (vs : List FileValue) (v : FileValue) → file_entries_at t (vs ++ v ∷ []) ≡ file_entries_at t vs ++ file_entry_at (totals_after_all t vs) v ∷ []
file_entries_at-snoc t [] v = refl
file_entries_at-snoc t (w ∷ vs) v = ap (λ l. file_entry_at t w ∷ l) (file_entries_at-snoc (totals_after t w) vs v)

-- the entries of a file's symbols, after files with these totals
abbrev own_symbols_at : SymbolTotals → FileValue → List Symbol
own_symbols_at t v = symbol_entries_at (t.names_size + length v.path) v.symbol

all_symbols_at-snoc : (t : SymbolTotals) (vs : List FileValue) (v : FileValue) → all_symbols_at t (vs ++ v ∷ []) ≡ all_symbols_at t vs ++ own_symbols_at (totals_after_all t vs) v
all_symbols_at-snoc t [] v = append-nil (own_symbols_at t v)
all_symbols_at-snoc t (w ∷ vs) v = ap (λ l. own_symbols_at t w ++ l) (all_symbols_at-snoc (totals_after t w) vs v) ∙ sym (append_assoc (own_symbols_at t w) (all_symbols_at (totals_after t w) vs) (own_symbols_at (totals_after_all (totals_after t w) vs) v))

-- what the totals of files count
record Counts (t : SymbolTotals) (vs : List FileValue) : Type 0 where
  files : (totals_after_all t vs).file_count ≡ t.file_count + length (file_entries_at t vs)
  symbols : (totals_after_all t vs).symbol_count ≡ t.symbol_count + length (all_symbols_at t vs)
  names : (totals_after_all t vs).names_size ≡ t.names_size + length (flat_map file_names vs)
  offsets : (totals_after_all t vs).dex_offset_count ≡ t.dex_offset_count + length (flat_map dex_offsets_of vs)

counts : (t : SymbolTotals) (vs : List FileValue) → Counts t vs
counts t [] = record { files = omega arith; symbols = omega arith; names = omega arith; offsets = omega arith }
counts t (v ∷ vs) =
    let more = counts (totals_after t v) vs in
    let files = more.files in
    let symbols = more.symbols in
    let names = more.names in
    let offsets = more.offsets in
    record {
      files = omega (arith, files);
      symbols = omega (arith, symbols, length-append (own_symbols_at t v) (all_symbols_at (totals_after t v) vs), length-symbol_entries_at (t.names_size + length v.path) v.symbol);
      names = omega (arith, names, length-append (file_names v) (flat_map file_names vs));
      offsets = omega (arith, offsets, length-append (dex_offsets_of v) (flat_map dex_offsets_of vs));
    }

-- one more file is written
pub writes_files-snoc : (vs : List FileValue) (v : FileValue) (t : SymbolTotals) (old now new : SymbolArrays) (name_start : ℕ) (entry : SymbolFile) (path paths offsets : List ℕ) → t ≡ totals_after_all zero_totals vs → WritesFiles vs old now
    → name_start ≡ t.names_size + length v.path → entry ≡ file_entry_at t v → path ≡ v.path → offsets ≡ dex_offsets_of v
    → new.files ≡ with_entries_at t.file_count (entry ∷ []) now.files → paths ≡ with_entries_at t.names_size path now.names → new.offsets ≡ with_entries_at t.dex_offset_count offsets now.offsets
    → new.symbols ≡ with_entries_at t.symbol_count (symbol_entries_at name_start v.symbol) now.symbols → new.names ≡ with_entries_at name_start (symbol_names v.symbol) paths → WritesFiles (vs ++ v ∷ []) old new
writes_files-snoc vs v t old now new name_start entry path paths offsets totals w start entry_is path_is offsets_are files_copied path_copied offsets_copied symbols_copied names_copied =
    let c = counts zero_totals vs in
    let file_count : t.file_count ≡ length (file_entries_at zero_totals vs) = ap (λ u. u.file_count) totals ∙ c.files ∙ omega arith in
    let symbol_count : t.symbol_count ≡ length (all_symbols_at zero_totals vs) = ap (λ u. u.symbol_count) totals ∙ c.symbols ∙ omega arith in
    let names_size : t.names_size ≡ length (flat_map file_names vs) = ap (λ u. u.names_size) totals ∙ c.names ∙ omega arith in
    let offset_count : t.dex_offset_count ≡ length (flat_map dex_offsets_of vs) = ap (λ u. u.dex_offset_count) totals ∙ c.offsets ∙ omega arith in
    record {
      files_written = files_copied ∙ (λ i. with_entries_at (file_count i) (entry_is i ∷ []) (w.files_written i)) ∙ with_entries_at-with_prefix (file_entries_at zero_totals vs) (file_entry_at t v ∷ []) old.files
          ∙ ap (λ u. with_prefix (file_entries_at zero_totals vs ++ file_entry_at u v ∷ []) old.files) totals ∙ ap (λ l. with_prefix l old.files) (sym (file_entries_at-snoc zero_totals vs v));
      symbols_written = symbols_copied ∙ (λ i. with_entries_at (symbol_count i) (symbol_entries_at (start i) v.symbol) (w.symbols_written i)) ∙ with_entries_at-with_prefix (all_symbols_at zero_totals vs) (own_symbols_at t v) old.symbols
          ∙ ap (λ u. with_prefix (all_symbols_at zero_totals vs ++ own_symbols_at u v) old.symbols) totals ∙ ap (λ l. with_prefix l old.symbols) (sym (all_symbols_at-snoc zero_totals vs v));
      names_written = names_copied ∙ ap (with_entries_at name_start (symbol_names v.symbol)) (path_copied ∙ ap (λ p. with_entries_at t.names_size p now.names) path_is) ∙ with_entries_at-more t.names_size name_start v.path (symbol_names v.symbol) now.names start
          ∙ (λ i. with_entries_at (names_size i) (file_names v) (w.names_written i)) ∙ with_entries_at-with_prefix (flat_map file_names vs) (file_names v) old.names ∙ ap (λ l. with_prefix l old.names) (sym (flat_map-snoc file_names vs v));
      offsets_written = offsets_copied ∙ (λ i. with_entries_at (offset_count i) (offsets_are i) (w.offsets_written i)) ∙ with_entries_at-with_prefix (flat_map dex_offsets_of vs) (dex_offsets_of v) old.offsets
          ∙ ap (λ l. with_prefix l old.offsets) (sym (flat_map-snoc dex_offsets_of vs v));
    }

-- the totals with one more file
pub totals-snoc : (vs : List FileValue) (v : FileValue) (t next : SymbolTotals) → t ≡ totals_after_all zero_totals vs → next ≡ totals_after t v → next ≡ totals_after_all zero_totals (vs ++ v ∷ [])
totals-snoc vs v t next is after = after ∙ ap (λ u. totals_after u v) is ∙ sym (totals_after_all-snoc zero_totals vs v)

-- a prefix of the files is written if a total with the next doesn't fit in 64 bits
pub writes_prefix : (all : List SimpleperfFileRecord) (index : ℕ) (r : SimpleperfFileRecord) (t : SymbolTotals) (old now : SymbolArrays) → index < length all → r ≡ get_or all index r → t ≡ totals_after_all zero_totals (map record_value (take index all))
    → WritesFiles (map record_value (take index all)) old now → ExceedsU64 t (record_value r) → WritesFilesOrPrefix (map record_value all) old (record { totals = t; status = OutOfMemory }) now
writes_prefix all index r t old now inside is totals w exceeds = record {
  written = map record_value (take index all);
  unwritten = map record_value (drop index all);
  split = ap (map record_value) (sym (take-append-drop index all)) ∙ map-append record_value (take index all) (drop index all);
  totals = totals;
  writes = w;
  ends = inr (refl, (record_value r, (map record_value (drop (suc index) all), ap (map record_value) (drop-next all index r inside is), exceeds)));
}
