-- From the parts of a build id entry that were read to the entry, or to the error.
use Rattle.std.proofs.Common.{◌≡◌, ℕ, suc, ◌-◌, ◌++◌, true, List, length, take, drop, nat_eq, refl, sym, ap, ◌∙◌, subst, inl, inr, arith, length-append, length-drop, append_assoc}
use Rattle.std.specs.Prelude.{Option, None, Some, Err}
use Rattle.std.specs.Int.{cast_signed, w32}
use Rattle.std.specs.List.{ends_with}
use Rattle.std.proofs.lemmas.List.{take-append-drop, drop-append-le, take_all}
use Rattle.std.proofs.lemmas.Slice.Eq.{bytes_eq-Decides}
use Rattle.std.proofs.Math.Seq.{take-append_seam}
use Rattle.std.specs.declared.io.Error.{Error}
use Rattle.perfdata_sources.specs.Endian.{number_in}
use Rattle.perfdata_sources.specs.RecordHeader.{record_header_of, PeeksRecordHeader}
use Rattle.perfdata_sources.specs.Source.{State, Consumed, IsIoErrorOf}
use Rattle.perfdata_sources.proofs.ConsumedLemmas.{consumed_more}
use Rattle.perfdata_sources.proofs.Numbers.{ReadsFirst, first_drop_prefix}
use Rattle.perfdata_sources.specs.declared.event.record_header.PerfEventHeader.{PerfEventHeader}
use Rattle.perfdata_sources.specs.declared.endian.Endianness.{Endianness}
use Rattle.perfdata_sources.specs.declared.source.append.AppendError.{AppendError}
use Rattle.perfdata_sources.specs.declared.source.append.AppendError.TheVariants.{Memory, Source}
use Rattle.perfdata_sections.specs.ParsedPart.{PartRead, PartReadError, ReadsBytes}
use Rattle.perfdata_sections.specs.HeaderString.{before_nul}
use Rattle.perfdata_records.specs.BuildIdEvent.{zero_group, zero_groups, IsBuildIdIn, IsBuildIdEvent, IsTruncatedBuildIdEntry, ReadsBuildIdEvent, ParsesBuildIdEvent}
use Rattle.perfdata_records.specs.declared.build_id_event.BuildIdEvent.{BuildIdEvent}
use Rattle.perfdata_sections.proofs.PartLemmas.{drop_prefix, stopped_after}

-- one more group of zeros is removed from the end
pub group_split : (xs rest : List ℕ) (n : ℕ) → xs ≡ rest ++ zero_groups n → ends_with nat_eq rest zero_group ≡ true → xs ≡ take (length rest - 4) rest ++ zero_groups (suc n)
group_split xs rest n is ends =
    let tail : zero_group ≡ drop (length rest - 4) rest = (bytes_eq-Decides zero_group (drop (length rest - 4) rest)).0 ends in
    let prefix : List ℕ = take (length rest - 4) rest in
    let whole : rest ≡ prefix ++ zero_group = sym (take-append-drop (length rest - 4) rest) ∙ ap (λ l. prefix ++ l) (sym tail) in
    is ∙ ap (λ l. l ++ zero_groups n) whole ∙ append_assoc prefix zero_group (zero_groups n)

-- the build id is a copy of the bytes after the pid
pub id_copied : (misc own : ℕ) (fixed id copy : List ℕ) → length fixed ≡ 36 → misc ≡ own → copy ≡ id → IsBuildIdIn misc (take 24 (drop 12 fixed)) id → IsBuildIdIn own (drop 12 fixed) copy
id_copied misc own fixed id copy long same is id_is =
    let whole : take 24 (drop 12 fixed) ≡ drop 12 fixed = take_all 24 (drop 12 fixed) (omega (arith, long, length-drop 12 fixed)) in
    subst (λ m. IsBuildIdIn m (drop 12 fixed) copy) same (subst (λ l. IsBuildIdIn misc l copy) whole (subst (IsBuildIdIn misc (take 24 (drop 12 fixed))) (sym is) id_is))

module _ (number : ℕ → List ℕ → ℕ) where
  -- the record header was parsed in the byte order of the numbers
  pub header_peeked : (endian : Endianness) → ((n : ℕ) (xs : List ℕ) → number n xs ≡ number_in endian n xs) → (xs : List ℕ) (found : Option PerfEventHeader) (header : PerfEventHeader)
      → PeeksRecordHeader (number_in endian) xs found → found ≡ Some header → header ≡ record_header_of number xs
  header_peeked endian agree xs (Some parsed) header peeked is =
      let same : header ≡ parsed = cc in
      same ∙ peeked.1 ∙ (λ i. record { type_ = sym (agree 4 xs) i; misc = sym (agree 2 (drop 4 xs)) i; size = sym (agree 2 (drop 6 xs)) i })
  header_peeked endian agree xs None header peeked is = cc

  -- the error as an I/O error
  pub entry_io_error : (old new : State) (append_error : AppendError) (e : Error) → ReadsBuildIdEvent number old (Err append_error) new → IsIoErrorOf append_error e → ParsesBuildIdEvent number old (Err e) new
  entry_io_error old new Memory e partial memory = inl (memory, partial)
  entry_io_error old new (Source cause) e read_error is = inr (subst (λ x. PartReadError (IsTruncatedBuildIdEntry number) old x new) (sym is) read_error)

module _ (number : ℕ → List ℕ → ℕ) (first : ReadsFirst number) where
  -- the size is in the first 36 bytes
  size_in : (fixed body : List ℕ) → length fixed ≡ 36 → number 2 (drop 6 (fixed ++ body)) ≡ number 2 (drop 6 fixed)
  size_in fixed body long = first_drop_prefix number first 2 6 fixed body (omega (arith, long))

  pub entry_path_error : (a b c : State) (fixed : List ℕ) (count : ℕ) (error : AppendError) → length fixed ≡ 36 → count ≡ number 2 (drop 6 fixed) - 36 → Consumed a fixed b → ReadsBytes b count (Err error) c
      → ReadsBuildIdEvent number a (Err error) c
  entry_path_error a b c fixed count Memory long says before partial = record {
    bytes = fixed ++ partial.consumed_bytes;
    is_truncated = (
      omega (arith, long, length-append fixed partial.consumed_bytes),
      let size = size_in fixed partial.consumed_bytes long in let less = partial.too_few in omega (arith, size, less, says, long, length-append fixed partial.consumed_bytes),
    );
    consumes = consumed_more a b c fixed partial.consumed_bytes before partial.consumes;
  }
  entry_path_error a b c fixed count (Source e) long says before read_error =
      stopped_after (IsTruncatedBuildIdEntry number) a b c fixed count e before read_error (λ part fewer enough. let size = size_in fixed part long in omega (arith, size, fewer, says, long, length-append fixed part))

  id_field_in : (fixed body : List ℕ) → length fixed ≡ 36 → take 24 (drop 12 (fixed ++ body)) ≡ drop 12 fixed
  id_field_in fixed body long =
      let field_len : length (drop 12 fixed) ≡ 24 = omega (arith, long, length-drop 12 fixed) in
      ap (take 24) (drop-append-le 12 fixed body (omega (arith, long))) ∙ ap (λ n. take n (drop 12 fixed ++ body)) (sym field_len) ∙ take-append_seam (drop 12 fixed) body

  pub entry_read : (a b c : State) (fixed body : List ℕ) (count : ℕ) (e : BuildIdEvent) → length fixed ≡ 36 → count ≡ number 2 (drop 6 fixed) - 36 → length body ≡ count → Consumed a fixed b → Consumed b body c
      → e.header ≡ record_header_of number fixed → e._pid ≡ cast_signed w32 (number 4 (drop 8 fixed)) → IsBuildIdIn (number 2 (drop 4 fixed)) (drop 12 fixed) e.build_id.items → e.file_path.items ≡ before_nul body
      → PartRead (IsBuildIdEvent number) a e c
  entry_read a b c fixed body count e long says all before body_consumed is_header is_pid is_id is_path = record {
    bytes = fixed ++ body;
    consumes = consumed_more a b c fixed body before body_consumed;
    matches = let misc = first_drop_prefix number first 2 4 fixed body (omega (arith, long)) in record {
      has_fixed_part = omega (arith, long, length-append fixed body);
      exact_len = let size = size_in fixed body long in omega (arith, size, says, all, long, length-append fixed body);
      header = is_header ∙ sym (rw (first 4 fixed body (omega (arith, long)), misc, size_in fixed body long) refl);
      pid = is_pid ∙ ap (cast_signed w32) (sym (first_drop_prefix number first 4 8 fixed body (omega (arith, long))));
      build_id = subst (λ n. IsBuildIdIn n (take 24 (drop 12 (fixed ++ body))) e.build_id.items) (sym misc) (subst (λ l. IsBuildIdIn (number 2 (drop 4 fixed)) l e.build_id.items) (sym (id_field_in fixed body long)) is_id);
      path = is_path ∙ ap before_nul (sym (drop_prefix 36 fixed body long));
    };
  }
