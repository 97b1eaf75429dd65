use Rattle.std.proofs.Common.{arith, ◌+◌, ◌++◌, ap, refl, inl, inr, length, length-append, length-drop}
use Rattle.perfdata_sources.specs.Raw.{bytes_of}
use Rattle.perfdata_arrays.proofs.JitBodiesLemmas.{is_unwinding_at}
use Rattle.perfdata_arrays.proofs.jit_bodies.jit_unwinding.Goals as goal

pub returns-in-Err : goal.returns-in-Err
returns-in-Err c = inr (c.in-Err.ensures.body, refl)

pub overflow_add-out-in-Ok-parse-2 : goal.overflow_add-out-in-Ok-parse-2
overflow_add-out-in-Ok-parse-2 c =
    let is = c.in-Ok-parse.ensures.value in
    let index = bytes_of c.in-Ok-parse.unwinding.eh_frame_hdr in
    let rest = bytes_of c.in-Ok-parse.unwinding.eh_frame ++ is.after_body in
    let least = is.min_len in
    let size = c.len-eh_frame_hdr_size.ensures in
    let within = c.in-Ok.ensures.in_bounds in
    let fits = c.in-Ok.ensures.fits in
    omega (arith, least, size, within, fits, ap length is.split, length-append index rest, length-drop 24 c.in-Ok.found.1.now)

pub returns-in-Ok-parse : goal.returns-in-Ok-parse
returns-in-Ok-parse c =
    let at = c.args.offset in
    let endian = c.in-Ok.found.0 in
    let body = c.in-Ok.found.1.now in
    let unwinding = c.in-Ok-parse.unwinding in
    inl (
      endian,
      (
        body,
        c.in-Ok.ensures.body,
        inl (
          refl,
          (
            unwinding,
            is_unwinding_at endian c.args.bytes.now at 4 body unwinding c.in-Ok.ensures.body c.in-Ok-parse.ensures.value,
            λ i. record {
              mapped_size = unwinding.mapped_size;
              eh_frame_hdr_offset = at + 40;
              eh_frame_hdr_size = c.len-eh_frame_hdr_size.ensures i;
              eh_frame_offset = at + 40 + c.len-eh_frame_hdr_size.ensures i;
              eh_frame_size = c.len.ensures i;
            },
          ),
        ),
      ),
    )
