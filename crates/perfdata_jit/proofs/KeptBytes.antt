-- The state of a buffered reader as bytes are read.
use Rattle.std.proofs.Common.{◌≡◌, ℕ, ◌-◌, ◌≤◌, List, ◌++◌, length, sym, subst, ap, ◌∙◌, append_assoc, Bool, ap₂, take, arith}
use Rattle.perfdata_sources.proofs.ConsumedLemmas.{consumed_more, prepend_more}
use Rattle.perfdata_sources.specs.Source.{State, prepend, Consumed}
use Rattle.std.specs.Prelude.{true, false, Ok}
use Rattle.std.proofs.lemmas.List.{length-take-le, take-append-drop}
use Rattle.perfdata_jit.proofs.BufferRanges.{part_consumed}
use Rattle.perfdata_jit.proofs.Contiguous.{contiguous_buffered}
use Rattle.perfdata_jit.specs.BufferedReader.{KeepsBytes, EnsuresBuffered, BufferedEnough, BufferedTooFew, PartConsumed, HeaderConsumed, SkipsBytes, PartSkipped, BytesNotSkipped, reader_source_state, buffered_in, overflow_len_of, overflow_capacity_of, ring_capacity_of, source_of, has_seek_failed}
use Rattle.perfdata_jit.specs.steps.BufferedReader.{ConsumesBuffered}
use Rattle.perfdata_jit.specs.ReadBuffer.{IsContiguous, IsOverflowConsumed}
use Rattle.perfdata_jit.specs.declared.buffered_reader.BufferedReader.{BufferedReader}

-- the unread bytes are unchanged if the bytes that were read are buffered
pub unread_kept : (old new : State) (buffered now read_bytes : List ℕ) → Consumed old read_bytes new → now ≡ buffered ++ read_bytes → prepend buffered old.bytes ≡ prepend now new.bytes
unread_kept old new buffered now read_bytes consumes holds = ap (prepend buffered) consumes.bytes ∙ prepend_more buffered read_bytes new.bytes ∙ ap (λ l. prepend l new.bytes) (sym holds)

module _ {R : Type 0} (state : R → State) where
  pub keeps_by : (old new : BufferedReader R) (read_bytes : List ℕ) → Consumed (reader_source_state state old) read_bytes (reader_source_state state new) → buffered_in new ≡ buffered_in old ++ read_bytes → ring_capacity_of new ≡ ring_capacity_of old → has_seek_failed new ≡ has_seek_failed old → KeepsBytes state old new
  keeps_by old new read_bytes consumed_by holds size seek_lost = record {
    consumed_bytes = read_bytes;
    consumes = consumed_by;
    buffer_content = holds;
    unread_bytes = unread_kept (reader_source_state state old) (reader_source_state state new) (buffered_in old) (buffered_in new) read_bytes consumed_by holds;
    ring_capacity = size;
    seek_state_kept = seek_lost;
  }

  -- more bytes are read
  pub keeps_more : (old mid new : BufferedReader R) (read_bytes : List ℕ) → KeepsBytes state old mid → Consumed (reader_source_state state mid) read_bytes (reader_source_state state new) → buffered_in new ≡ buffered_in mid ++ read_bytes → ring_capacity_of new ≡ ring_capacity_of mid → has_seek_failed new ≡ has_seek_failed mid → KeepsBytes state old new
  keeps_more old mid new read_bytes k consumes holds size seek_lost =
      keeps_by old new (k.consumed_bytes ++ read_bytes) (consumed_more (reader_source_state state old) (reader_source_state state mid) (reader_source_state state new) k.consumed_bytes read_bytes k.consumes consumes)
      (holds ∙ ap (λ l. l ++ read_bytes) k.buffer_content ∙ append_assoc (buffered_in old) k.consumed_bytes read_bytes) (size ∙ k.ring_capacity) (seek_lost ∙ k.seek_state_kept)

  -- the bytes are buffered if the result is true
  pub buffered_if : (n : ℕ) (old new : BufferedReader R) (whole : Bool) → whole ≡ true → EnsuresBuffered state n old (Ok whole) new → BufferedEnough state n old new
  buffered_if n old new true is requested = requested
  buffered_if n old new false is requested = absurd cc

  pub not_buffered_if : (n : ℕ) (old new : BufferedReader R) (whole : Bool) → whole ≡ false → EnsuresBuffered state n old (Ok whole) new → BufferedTooFew state n old new
  not_buffered_if n old new true is requested = absurd cc
  not_buffered_if n old new false is requested = requested

  pub skipped_if : (n : ℕ) (old new : BufferedReader R) (skipped : Bool) → skipped ≡ true → SkipsBytes state n old (Ok skipped) new → PartSkipped state n old new
  skipped_if n old new true is skips = skips
  skipped_if n old new false is skips = absurd cc

  pub unskipped_if : (n : ℕ) (old new : BufferedReader R) (skipped : Bool) → skipped ≡ false → SkipsBytes state n old (Ok skipped) new → BytesNotSkipped state n old new
  unskipped_if n old new true is skips = absurd cc
  unskipped_if n old new false is skips = skips

  -- the requested part is consumed
  pub consumed : (n : ℕ) (old mid new : BufferedReader R) (part : List ℕ) → BufferedEnough state n old mid → part ≡ take n (buffered_in mid) → ConsumesBuffered state n mid new → has_seek_failed old ≡ false → PartConsumed state n old part new
  consumed n old mid new part asked value consumed_state found =
      let buffered = buffered_in mid in
      let k = asked.keeps_bytes in
      let still : reader_source_state state new ≡ reader_source_state state mid = ap state consumed_state.source in
      let split : buffered ≡ part ++ buffered_in new = sym (take-append-drop n buffered) ∙ ap₂ (λ a b. a ++ b) (sym value) (sym consumed_state.buffered_bytes) in
      record {
        exact_len = ap length value ∙ length-take-le n buffered asked.is_buffered;
        unread_bytes = k.unread_bytes ∙ part_consumed buffered part (buffered_in new) (reader_source_state state mid).bytes n value consumed_state.buffered_bytes ∙ ap (λ (s : State). prepend part (prepend (buffered_in new) s.bytes)) (sym still);
        consumed_bytes = k.consumed_bytes;
        consumes = rw still k.consumes;
        buffer_content = sym k.buffer_content ∙ split;
        if_buffered = λ le. sym (asked.buffer_unchanged le) ∙ split;
        reads_only_needed = record {
          overflow_bound = λ less. omega (arith, asked.reads_only_needed.overflow_bound less, consumed_state.overflow_size);
          no_growth_if_buffered = λ le. omega (arith, asked.reads_only_needed.no_growth_if_buffered le, consumed_state.overflow_size);
          no_growth_if_fits = λ le. omega (arith, asked.reads_only_needed.no_growth_if_fits le, consumed_state.overflow_size);
          no_allocation_if_fits = λ le. consumed_state.overflow_capacity ∙ asked.reads_only_needed.no_allocation_if_fits le;
          source_unchanged = λ le. consumed_state.source ∙ asked.reads_only_needed.source_unchanged le;
        };
        overflow_consumed = λ less. consumed_state.overflow_consumed (omega (arith, asked.reads_only_needed.overflow_bound less));
        keeps_contiguous = λ m le at. consumed_state.keeps_contiguous m le (subst (λ (r : BufferedReader R). IsContiguous m r.buffer) (sym (asked.unchanged (omega (arith, le, contiguous_buffered m old.buffer at)))) at);
        same_counts = rw still asked.same_counts;
        ring_capacity = consumed_state.ring_capacity ∙ k.ring_capacity;
        seek_ok_before = found;
        seek_ok_after = consumed_state.seek_state_kept ∙ k.seek_state_kept ∙ found;
      }

  -- a header is copied, and a consumed overflow buffer is emptied
  pub header_copied : (old mid new : BufferedReader R) (part header : List ℕ) → PartConsumed state 16 old part mid → header ≡ part → source_of new ≡ source_of mid → buffered_in new ≡ buffered_in mid → overflow_len_of new ≤ overflow_len_of mid → (IsOverflowConsumed mid.buffer → overflow_len_of new ≡ 0)
      → (IsOverflowConsumed mid.buffer → IsOverflowConsumed new.buffer) → overflow_capacity_of new ≡ overflow_capacity_of mid → ring_capacity_of new ≡ ring_capacity_of mid → has_seek_failed new ≡ has_seek_failed mid → ((m : ℕ) → IsContiguous m mid.buffer → IsContiguous m new.buffer) → HeaderConsumed state old header new
  header_copied old mid new part header c is source buffered shorter emptied used_up capacity size seek_lost contiguous =
      let still : reader_source_state state new ≡ reader_source_state state mid = ap state source in
      record {
        consumes = record {
          exact_len = ap length is ∙ c.exact_len;
          unread_bytes = c.unread_bytes ∙ ap (λ l. prepend l (prepend (buffered_in mid) (reader_source_state state mid).bytes)) (sym is) ∙ ap₂ (λ l (s : State). prepend header (prepend l s.bytes)) (sym buffered) (sym still);
          consumed_bytes = c.consumed_bytes;
          consumes = rw still c.consumes;
          buffer_content = c.buffer_content ∙ ap₂ (λ a b. a ++ b) (sym is) (sym buffered);
          if_buffered = λ le. c.if_buffered le ∙ ap₂ (λ a b. a ++ b) (sym is) (sym buffered);
          reads_only_needed = record {
            overflow_bound = λ less. omega (arith, c.reads_only_needed.overflow_bound less, shorter);
            no_growth_if_buffered = λ le. omega (arith, c.reads_only_needed.no_growth_if_buffered le, shorter);
            no_growth_if_fits = λ le. omega (arith, c.reads_only_needed.no_growth_if_fits le, shorter);
            no_allocation_if_fits = λ le. capacity ∙ c.reads_only_needed.no_allocation_if_fits le;
            source_unchanged = λ le. source ∙ c.reads_only_needed.source_unchanged le;
          };
          overflow_consumed = λ less. used_up (c.overflow_consumed less);
          keeps_contiguous = λ m le at. contiguous (m - 16) (c.keeps_contiguous m le at);
          same_counts = rw still c.same_counts;
          ring_capacity = size ∙ c.ring_capacity;
          seek_ok_before = c.seek_ok_before;
          seek_ok_after = seek_lost ∙ c.seek_ok_after;
        };
        overflow_empty = λ less. emptied (c.overflow_consumed less);
      }
