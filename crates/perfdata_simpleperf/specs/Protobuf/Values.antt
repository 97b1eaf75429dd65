-- The value of a message, field by field.
use Rattle.std.specs.Prelude.{◌≡◌, ◌⊎◌, ℕ, ◌<◌, ◌%◌, ◌^◌, ◌==◌, ◌||◌, Bool, if◌then◌else◌, List, [], ◌∷◌, ◌++◌, length, map}
use Rattle.std.specs.List.{flat_map}
use Rattle.perfdata_simpleperf.specs.declared.protobuf.field.Message.TheVariants as messages
use Rattle.perfdata_simpleperf.specs.FileRecord.{SymbolValue, FileValue, Info, no_info, dex_file, elf_file, kernel_module}
use Rattle.perfdata_simpleperf.specs.Protobuf.WireFormat.{Contents, number, bytes, skipped}
use Rattle.perfdata_simpleperf.specs.Protobuf.Fields.{FieldValue}
use Rattle.perfdata_simpleperf.specs.Protobuf.Messages.{ArePacked, IsLeaf, IsFileMessage}

abbrev pub number_list : Contents → List ℕ
number_list (number n) = n ∷ []
number_list _ = []

abbrev pub bytes_list : Contents → List (List ℕ)
bytes_list (bytes b) = b ∷ []
bytes_list _ = []

abbrev pub numbers_in : ℕ → FieldValue → List ℕ
numbers_in k p = if p.field_number == k then number_list p.contents else []

abbrev pub texts_in : ℕ → FieldValue → List (List ℕ)
texts_in k p = if p.field_number == k then bytes_list p.contents else []

-- the numbers, or the bytes, of the fields with this number, in order
abbrev pub numbers_of : ℕ → List FieldValue → List ℕ
numbers_of k ps = flat_map (numbers_in k) ps

abbrev pub texts_of : ℕ → List FieldValue → List (List ℕ)
texts_of k ps = flat_map (texts_in k) ps

-- the last item, or `start` if there is none
abbrev pub last_or : {A : Type 0} → A → List A → A
last_or start [] = start
last_or start (x ∷ xs) = last_or x xs

abbrev pub low_u32 : ℕ → ℕ
low_u32 n = n % 2 ^ 32

-- ---- a symbol

abbrev pub no_symbol : SymbolValue
no_symbol = record { vaddr = 0; len = 0; name = [] }

-- `start` with the values of these fields
abbrev pub symbol_from : SymbolValue → List FieldValue → SymbolValue
symbol_from start ps = record {
  vaddr = last_or start.vaddr (numbers_of 1 ps);
  len = last_or start.len (map low_u32 (numbers_of 2 ps));
  name = last_or start.name (texts_of 3 ps);
}

-- the bytes are a message of this value
abbrev pub IsSymbol : List ℕ → SymbolValue → Type 0
IsSymbol bs s = (ps : List FieldValue) × IsLeaf messages.Symbol bs ps × (s ≡ symbol_from no_symbol ps)

-- ---- infos

abbrev pub contents_in : ℕ → FieldValue → List Contents
contents_in k p = if p.field_number == k then p.contents ∷ [] else []

abbrev pub contents_of : ℕ → List FieldValue → List Contents
contents_of k ps = flat_map (contents_in k) ps

-- the numbers in a field's contents, single or packed
abbrev pub IsOffsets : Contents → List ℕ → Type 0
IsOffsets (number n) xs = xs ≡ n ∷ []
IsOffsets (bytes b) xs = ArePacked b xs
IsOffsets skipped xs = xs ≡ []

-- the numbers in all the contents, in order
abbrev pub AreOffsets : List Contents → List ℕ → Type 0
AreOffsets [] xs = xs ≡ []
AreOffsets (x ∷ more) xs = (first : List ℕ) × (others : List ℕ) × IsOffsets x first × AreOffsets more others × (xs ≡ first ++ others)

abbrev pub IsDex : List ℕ → List ℕ → Type 0
IsDex bs xs = (ps : List FieldValue) × IsLeaf messages.Dex bs ps × AreOffsets (contents_of 1 ps) xs

-- the last address, or `start` if there is none
abbrev pub IsAddressFrom : ℕ → List ℕ → ℕ → Type 0
IsAddressFrom start bs n = (ps : List FieldValue) × IsLeaf messages.Address bs ps × (n ≡ last_or start (numbers_of 1 ps))

-- ---- the file record

-- these are the messages of these symbols
abbrev pub AreSymbols : List (List ℕ) → List SymbolValue → Type 0
AreSymbols [] ss = ss ≡ []
AreSymbols (b ∷ bs) ss = (s : SymbolValue) × (rest : List SymbolValue) × IsSymbol b s × AreSymbols bs rest × (ss ≡ s ∷ rest)

-- an info field has the number 5, 6 or 7; in the lists below it is a pair of its number and its bytes
abbrev pub is_info : ℕ → Bool
is_info n = (n == 5) || (n == 6) || (n == 7)

abbrev pub with_field_number : ℕ → List (List ℕ) → List (ℕ × List ℕ)
with_field_number k bs = map (λ b. (k, b)) bs

abbrev pub infos_in : FieldValue → List (ℕ × List ℕ)
infos_in p = if is_info p.field_number then with_field_number p.field_number (bytes_list p.contents) else []

abbrev pub infos_of : List FieldValue → List (ℕ × List ℕ)
infos_of ps = flat_map infos_in ps

abbrev pub last_info_field : List (ℕ × List ℕ) → ℕ
last_info_field xs = last_or 0 (map (λ x. x.0) xs)

-- the longest suffix of fields with this number; `run` contains their bytes
pub record IsLastRun (k : ℕ) (xs : List (ℕ × List ℕ)) (run : List (List ℕ)) : Type 0 where
  pub earlier : List (ℕ × List ℕ)
  pub split : xs ≡ earlier ++ with_field_number k run
  pub is_nonempty : 0 < length run
  pub longest : last_info_field earlier ≡ k → ⊥

abbrev pub concat_runs : List (List ℕ) → List ℕ
concat_runs run = flat_map (λ b. b) run

-- of the info fields, the longest suffix with one number is decoded as one message
abbrev pub IsInfo : List (ℕ × List ℕ) → Info → Type 0
IsInfo xs no_info = xs ≡ []
IsInfo xs (dex_file offsets) = (run : List (List ℕ)) × IsLastRun 5 xs run × IsDex (concat_runs run) offsets
IsInfo xs (elf_file n) = (run : List (List ℕ)) × IsLastRun 6 xs run × IsAddressFrom 0 (concat_runs run) n
IsInfo xs (kernel_module n) = (run : List (List ℕ)) × IsLastRun 7 xs run × IsAddressFrom 0 (concat_runs run) n

pub record HasValue (ps : List FieldValue) (v : FileValue) : Type 0 where
  pub path : v.path ≡ last_or [] (texts_of 1 ps)
  pub type_ : v.type_ ≡ last_or 0 (map low_u32 (numbers_of 2 ps))
  pub min_vaddr : v.min_vaddr ≡ last_or 0 (numbers_of 3 ps)
  pub symbol : AreSymbols (texts_of 4 ps) v.symbol
  pub info : IsInfo (infos_of ps) v.info

-- the bytes are the message of a file record, and this is its value
abbrev pub IsFileRecord : List ℕ → FileValue → Type 0
IsFileRecord bs v = (ps : List FieldValue) × IsFileMessage bs ps × HasValue ps v

-- ---- the value of an info that a further field of its number is merged with

abbrev pub previous_offsets : Info → List ℕ
previous_offsets (dex_file xs) = xs
previous_offsets _ = []

abbrev pub previous_elf_offset : Info → ℕ
previous_elf_offset (elf_file n) = n
previous_elf_offset _ = 0

abbrev pub previous_module_offset : Info → ℕ
previous_module_offset (kernel_module n) = n
previous_module_offset _ = 0

-- merging a field 5, 6 or 7 with these bytes changes the info from `old` to `new`
abbrev pub MergesInfo : ℕ → List ℕ → Info → Info → Type 0
MergesInfo k bs old new =
    ((k ≡ 5) × (ns : List ℕ) × IsDex bs ns × (new ≡ dex_file (previous_offsets old ++ ns)))
    ⊎ ((k ≡ 6) × (n : ℕ) × IsAddressFrom (previous_elf_offset old) bs n × (new ≡ elf_file n))
    ⊎ ((k ≡ 7) × (n : ℕ) × IsAddressFrom (previous_module_offset old) bs n × (new ≡ kernel_module n))

abbrev pub MergesInfos : List (ℕ × List ℕ) → Info → Info → Type 0
MergesInfos [] old new = new ≡ old
MergesInfos (x ∷ xs) old new = (mid : Info) × MergesInfo x.0 x.1 old mid × MergesInfos xs mid new
