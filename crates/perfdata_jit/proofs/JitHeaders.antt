-- A header that is read in two parts: its fixed part, and then the bytes up to its declared size.
use Rattle.std.proofs.Common.{◌≡◌, ◌≢◌, ℕ, ◌+◌, ◌<◌, ◌≤◌, ◌⊎◌, List, ◌++◌, take, drop, length, slice_index, refl, sym, ap, ◌∙◌, arith, inl, inr, length-drop, length-append}
use Rattle.std.proofs.lemmas.List.{take-append-le, drop-append-le}
use Rattle.std.specs.IoError.{error_kind}
use Rattle.std.specs.declared.io.Error.{Error}
use Rattle.std.specs.declared.io.ErrorKind.TheVariants.{UnexpectedEof}
use Rattle.perfdata_sources.proofs.Numbers.{ReadsFirst, number_drop_prefix}
use Rattle.perfdata_sources.specs.Endian.{number_in}
use Rattle.perfdata_sources.specs.declared.endian.Endianness.{Endianness}
use Rattle.perfdata_sources.specs.declared.endian.Endianness.TheVariants.{LittleEndian, BigEndian}
use Rattle.perfdata_jit.specs.JitHeader.{header_after_magic, jit_magic_of, size_after_magic, IsEndianOfMagic, IsJitHeader, IsHeaderAfterMagic, IsTruncatedAfterMagic, DeclaresSize, BeginsWithJitHeader, HasTruncatedFixedPart, HasTruncatedHeader}
use Rattle.perfdata_jit.specs.declared.header.JitDumpHeader.{JitDumpHeader}
use Rattle.perfdata_jit.proofs.Fields.{number_at}

module _ (number : ℕ → List ℕ → ℕ) (first : ReadsFirst number) (magic xs known : List ℕ) (header : JitDumpHeader) (long : 36 ≤ length xs) (are : known ≡ take 36 xs)
    (is : header ≡ header_after_magic number magic known) where
  same : header ≡ header_after_magic number magic xs
  same =
      let version = number_at number first 4 0 36 xs known are long (omega arith) in
      let size = number_at number first 4 4 36 xs known are long (omega arith) in
      let machine = number_at number first 4 8 36 xs known are long (omega arith) in
      let process = number_at number first 4 16 36 xs known are long (omega arith) in
      let time = number_at number first 8 20 36 xs known are long (omega arith) in
      let flags = number_at number first 8 28 36 xs known are long (omega arith) in
      is ∙ (λ i. record { magic = magic; version = version i; total_size = size i; elf_machine_arch = machine i; pid = process i; timestamp = time i; flags = flags i })

  pub header_whole : header.total_size ≤ 4 + length xs → IsHeaderAfterMagic number magic xs header
  header_whole there = record { min_len = long; complete = let size = ap (λ h. h.total_size) same in omega (arith, size, there); matches = same }

  pub header_truncated : (e : Error) → 4 + length xs < header.total_size → error_kind e ≡ UnexpectedEof → IsTruncatedAfterMagic number xs e
  header_truncated e fewer kind = record { cause = inr (long, let size = ap (λ h. h.total_size) same in omega (arith, size, fewer)); kind = kind }

-- the magic is read first, and these are the bytes after it
module _ (endian : Endianness) (xs magic rest : List ℕ) (long : 4 ≤ length xs) (is_magic : magic ≡ take 4 xs) (is_rest : rest ≡ drop 4 xs) (one : magic ≡ jit_magic_of endian) where
  rest_long : length xs ≡ 4 + length rest
  rest_long = omega (arith, length-drop 4 xs, ap length is_rest)

  size_same : size_after_magic (number_in endian) rest ≡ size_after_magic (number_in endian) (drop 4 xs)
  size_same = ap (size_after_magic (number_in endian)) is_rest

  pub header_declares : (header : JitDumpHeader) → IsHeaderAfterMagic (number_in endian) magic rest header → DeclaresSize xs header.total_size
  header_declares header is = record {
    endian = endian;
    magic = sym is_magic ∙ one;
    min_len = let enough = is.min_len in omega (arith, rest_long, enough);
    matches = ap (λ h. h.total_size) is.matches ∙ size_same;
  }

  pub header_begins : (header : JitDumpHeader) → IsHeaderAfterMagic (number_in endian) magic rest header → 40 ≤ header.total_size → BeginsWithJitHeader xs header
  header_begins header is least = record {
    endian = endian;
    matches = record {
      magic = ap (λ h. h.magic) is.matches ∙ one;
      min_len = let enough = is.min_len in omega (arith, rest_long, enough);
      matches = is.matches ∙ (λ i. header_after_magic (number_in endian) (is_magic i) (is_rest i));
      min_size = least;
      complete = let there = is.complete in let size = ap (λ h. h.total_size) is.matches in omega (arith, rest_long, there, size);
    };
  }

  pub header_missing : (e : Error) → IsTruncatedAfterMagic (number_in endian) rest e → HasTruncatedFixedPart xs ⊎ HasTruncatedHeader xs
  header_missing e truncated = elim truncated.cause [
    | inl fewer ↦ inl (record { endian = endian; magic = sym is_magic ∙ one; too_few = omega (arith, rest_long, fewer) })
    | inr whole ↦
        let enough = whole.0 in
        let more = whole.1 in
        inr (record {
          size = size_after_magic (number_in endian) (drop 4 xs);
          declares_size = record { endian = endian; magic = sym is_magic ∙ one; min_len = omega (arith, rest_long, enough); matches = refl };
          min_size = omega (arith, size_same, more, enough);
          too_few = omega (arith, size_same, more, rest_long);
        })
  ]

-- bytes after a header don't change its parsed form
pub header_longer : (endian : Endianness) (prefix rest : List ℕ) (header : JitDumpHeader) → IsJitHeader endian prefix header → IsJitHeader endian (prefix ++ rest) header
header_longer endian prefix rest header is =
    let number = number_in endian in
    let long = is.min_len in
    let there = is.complete in
    let long_enough : 36 ≤ length (drop 4 prefix) = omega (arith, length-drop 4 prefix) in
    let split = drop-append-le 4 prefix rest (omega arith) in
    let same : (n k : ℕ) → k + n ≤ 36 → number n (drop k (drop 4 (prefix ++ rest))) ≡ number n (drop k (drop 4 prefix)) =
    λ n k within. ap (λ l. number n (drop k l)) split ∙ number_drop_prefix endian n k (drop 4 prefix) rest (omega (arith, long_enough, within))
    in
    let magic = take-append-le 4 prefix rest (omega arith) in
    let version = same 4 0 (omega arith) in
    let size = same 4 4 (omega arith) in
    let machine = same 4 8 (omega arith) in
    let process = same 4 16 (omega arith) in
    let time = same 8 20 (omega arith) in
    let flags = same 8 28 (omega arith) in
    record {
      magic = is.magic;
      min_len = omega (arith, length-append prefix rest);
      matches = is.matches ∙ sym (λ i. record { magic = magic i; version = version i; total_size = size i; elf_machine_arch = machine i; pid = process i; timestamp = time i; flags = flags i });
      min_size = is.min_size;
      complete = omega (arith, length-append prefix rest);
    }

-- the first byte of the magic determines the byte order
pub little_endian_by : (magic : List ℕ) → slice_index magic 0 ≡ 68 → IsEndianOfMagic magic LittleEndian
little_endian_by magic first = record { of_magic = go; little_endian = λ _. refl; big_endian = λ other. absurd (other first) }
  where
    go : (endian : Endianness) → magic ≡ jit_magic_of endian → LittleEndian ≡ endian
    go LittleEndian is = refl
    go BigEndian is = (let other : slice_index magic 0 ≡ 74 = ap (λ l. slice_index l 0) is in absurd (omega (arith, other, first)))

pub big_endian_by : (magic : List ℕ) → slice_index magic 0 ≢ 68 → IsEndianOfMagic magic BigEndian
big_endian_by magic other = record { of_magic = go; little_endian = λ first. absurd (other first); big_endian = λ _. refl }
  where
    go : (endian : Endianness) → magic ≡ jit_magic_of endian → BigEndian ≡ endian
    go LittleEndian is = absurd (other (ap (λ l. slice_index l 0) is))
    go BigEndian is = refl
