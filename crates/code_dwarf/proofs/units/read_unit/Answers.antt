use Rattle.std.proofs.Common.{◌≡◌, ◌+◌, ◌-◌, length, arith}
use Rattle.code_cfi.proofs.ErrorLemmas.{on_any_error}
use Rattle.code_dwarf.specs.steps.Units.{header_in}
use Rattle.code_dwarf.proofs.UnitLemmas.{piece_of, no_piece_length, no_piece_contents}
use Rattle.code_dwarf.proofs.units.read_unit.Goals as goal

pub returns-in_err-length-clause-none : goal.returns-in_err-length-clause-none
returns-in_err-length-clause-none c = on_any_error c.from_residual.result _ (no_piece_length c.args.endian c.args.size c.args.bytes.now c.in_err-length.ensures.none)

pub returns-in_err-contents-clause-none : goal.returns-in_err-contents-clause-none
returns-in_err-contents-clause-none c =
    on_any_error c.from_residual-in_err-contents.result _
    (no_piece_contents c.args.endian c.args.size c.args.bytes.now c.in_ok-length.after.now c.in_ok-length.length.is_64_bit c.in_ok-length.length.size c.in_ok-length.ensures.found c.in_err-contents.ensures.none)

pub returns-clause-found : goal.returns-clause-found
returns-clause-found c =
    let size = c.args.size in
    let bytes = c.args.bytes.now in
    let rest = c.in_ok-contents.rest.now in
    let shorter = c.in_ok-length.ensures.shorter in
    let sizes = c.in_ok-contents.ensures.sizes in
    let starts : (size - length bytes) + length bytes ≡ size = omega (arith, c.requires) in
    let ends : (size - length rest) + length rest ≡ size = omega (arith, c.requires, shorter, sizes) in
    piece_of c.args.endian size bytes c.in_ok-length.after.now c.in_ok-contents.contents.now rest c.in_ok-length.length.is_64_bit c.in_ok-length.length.size (size - length bytes) (size - length rest) (header_in c.read_header.result)
    c.in_ok-length.ensures.found c.in_ok-contents.ensures.found starts ends c.read_header.ensures.found c.read_header.ensures.offset c.read_header.ensures.end c.read_header.ensures.none
