use Rattle.std.proofs.Common.{refl, ◌≡◌, ◌++◌, length, arith, length-append, sym, ap, ◌∙◌}
use Rattle.perfdata_jit.specs.BufferedReader.{buffered_in}
use Rattle.perfdata_jit.specs.JitDumpReader.{pending_header_bytes, jit_buffered}
use Rattle.perfdata_jit.proofs.jitdump_reader.JitDumpReader.has_buffered.Goals as goal

pub returns-then-count-le16 : goal.returns-then-count-le16
returns-then-count-le16 g c =
    let self = c.args.self.now in
    let header = c.in-Some.header in
    let long = ap length (sym c.copy_header-header.ensures.same) ∙ c.copy_header-header.ensures.long in
    let split : jit_buffered self ≡ header ++ buffered_in self.reader = ap (λ h. pending_header_bytes h ++ buffered_in self.reader) c.in-Some.is in
    let sum = ap length split ∙ length-append header (buffered_in self.reader) in
    let le = c.if-count-le16.true in
    (λ yes. omega (arith, sum, long, le), λ fits. refl)

pub returns-else-count-le16 : goal.returns-else-count-le16
returns-else-count-le16 g c =
    let self = c.args.self.now in
    let header = c.in-Some.header in
    let long = ap length (sym c.copy_header-header.ensures.same) ∙ c.copy_header-header.ensures.long in
    let split : jit_buffered self ≡ header ++ buffered_in self.reader = ap (λ h. pending_header_bytes h ++ buffered_in self.reader) c.in-Some.is in
    let sum = ap length split ∙ length-append header (buffered_in self.reader) in
    let more = c.if-count-le16.false in
    let holds = c.holds.ensures in
    (λ yes. let fits = holds.0 yes in omega (arith, sum, long, more, fits), λ fits. holds.1 (omega (arith, sum, long, more, fits)))
