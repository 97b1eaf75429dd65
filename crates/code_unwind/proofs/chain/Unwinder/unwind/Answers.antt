use Rattle.code_unwind.specs.Chains.{frame_limit, first_frame}
use Rattle.code_unwind.specs.FrameSteps.{Finds}
use Rattle.code_unwind.proofs.ChainLemmas.{result_mapped}
use Rattle.code_unwind.proofs.chain.Unwinder.unwind.Goals as goal

pub returns-clause-mapped : goal.returns-clause-mapped
returns-clause-mapped g c =
    let m = c.args.machine in
    let copy = c.args.stack in
    let finds = Finds (g.C.CodeMap.places c.args.code.now) m copy in
    result_mapped (g.C.CodeMap.executable c.args.code.now) m finds c.push_frames.result (frame_limit copy) (first_frame c.args.registers.now c.in-Some.pc) 16384 c.push_frames.new.frames.items c.push_frames.ensures.chain
