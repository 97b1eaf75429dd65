-- A writer that buffers lines, and counts those that it wrote to the inner writer.
use Rattle.std.specs.Prelude.{◌≡◌, ℕ, ◌+◌, ◌-◌, ◌^◌, min, Bool, true, List, [], ◌++◌, take, Option, Result, Ok, Err, vec_len, vec_capacity}
use Rattle.std.specs.Io.KnownBytes.{Appends, append_known}
use Rattle.perfdata_listing_lines.specs.Output.{newline_count}
use Rattle.perfdata_listing_lines.specs.declared.output.CountingBufWriter.{CountingBufWriter}

-- the bytes that are not written to the inner writer yet
abbrev pub pending_bytes : {W : Type 0} → CountingBufWriter W → List ℕ
pending_bytes b = b.buffered.items

-- the number of lines that were written to the inner writer
abbrev pub lines_written : {W : Type 0} → CountingBufWriter W → ℕ
lines_written b = b.lines_written

-- whether the inner writer has failed
abbrev pub has_failed : {W : Type 0} → CountingBufWriter W → Bool
has_failed b = b.failed

-- the number of bytes that fit in the buffer before a flush
abbrev pub free_capacity : {W : Type 0} → CountingBufWriter W → ℕ
free_capacity b = vec_capacity b.buffered - vec_len b.buffered

-- the inner writer
abbrev pub inner_writer : {W : Type 0} → CountingBufWriter W → W
inner_writer b = b.inner

-- the bytes of the inner writer, if they are known, followed by the pending bytes
abbrev pub contents_with_buffer : {W : Type 0} → (W → Option (List ℕ)) → CountingBufWriter W → Option (List ℕ)
contents_with_buffer contents b = append_known (contents (inner_writer b)) (pending_bytes b)

-- The given bytes are appended to the pending ones. A prefix of all of these is written to the inner writer, the rest is
-- pending, and the newlines in the prefix are counted.
pub record BuffersAndForwards {W : Type 0} (contents : W → Option (List ℕ)) (old : CountingBufWriter W) (bytes : List ℕ)
    (new : CountingBufWriter W) : Type 0 where
  pub forwarded : List ℕ
  pub split : pending_bytes old ++ bytes ≡ forwarded ++ pending_bytes new
  pub appended : Appends (contents (inner_writer old)) (contents (inner_writer new)) forwarded
  pub counted : lines_written new ≡ min (lines_written old + newline_count forwarded) (2 ^ 64 - 1)

-- what a write does: it accepts as many bytes as it returns, and none if it fails
abbrev pub AcceptsWrite : {W E : Type 0} → (W → Option (List ℕ)) → CountingBufWriter W → List ℕ → Result ℕ E → CountingBufWriter W → Type 0
AcceptsWrite contents old bytes (Ok n) new = BuffersAndForwards contents old (take n bytes) new
AcceptsWrite contents old bytes (Err e) new = BuffersAndForwards contents old [] new

-- `has_failed` is set by a call that fails, and unchanged by all others
abbrev pub Tries : {W T E : Type 0} → CountingBufWriter W → Result T E → CountingBufWriter W → Type 0
Tries old (Ok x) new = has_failed new ≡ has_failed old
Tries old (Err e) new = has_failed new ≡ true
