use Rattle.std.proofs.Common.{◌≡◌, ℕ, ◌-◌, ◌<◌, length, Bool}
use Rattle.code_unwind.specs.Chains.{frame_limit}
use Rattle.code_unwind.specs.Expressions.{remaining_of}
use Rattle.code_unwind.specs.FrameSteps.{Finds}
use Rattle.code_unwind.specs.declared.code.MappedCode.{MappedCode}
use Rattle.code_unwind.proofs.ChainLemmas.{Leads}
use Rattle.code_unwind.proofs.chain.push_frames.Given as goal

abbrev pub invariant-frames : goal.invariant-frames
invariant-frames g l = record {
  limit_is : l.limit ≡ frame_limit l.sample.copy;
  within : length l.frames.items < l.limit;
  executable : (a : ℕ) (b : Bool) → g.C.CodeMap.executable l.code a b → g.C.CodeMap.executable l.fn.code a b;
  places : (a : ℕ) (p : MappedCode) → g.C.CodeMap.places l.code a p → g.C.CodeMap.places l.fn.code a p;
  leads : Leads (g.C.CodeMap.executable l.fn.code) l.sample.machine (Finds (g.C.CodeMap.places l.fn.code) l.sample.machine l.sample.copy) l.limit l.fn.first 16384 l.frames.items l.frame (remaining_of l.evaluator);
}

abbrev pub decreases-frames : goal.decreases-frames
decreases-frames g l = l.limit - length l.frames.items
