use Rattle.perfdata_events.proofs.OneOutcomes.{one_fixed, one_fixed_and_text, one_fixed_and_block, one_fixed_and_u64s}
use Rattle.perfdata_events.proofs.RecordOutcomes.{one_read, one_mmap2, one_sample, one_sample_id}
use Rattle.perfdata_events.proofs.laws.fields_have_one_outcome.Goals as goal

pub returns-clause-mmap : goal.returns-clause-mmap
returns-clause-mmap c = λ number misc. one_fixed_and_text _ _

pub returns-clause-lost : goal.returns-clause-lost
returns-clause-lost c = λ number. one_fixed _ _

pub returns-clause-comm : goal.returns-clause-comm
returns-clause-comm c = λ number misc. one_fixed_and_text _ _

pub returns-clause-fork_or_exit : goal.returns-clause-fork_or_exit
returns-clause-fork_or_exit c = λ number. one_fixed _ _

pub returns-clause-throttle : goal.returns-clause-throttle
returns-clause-throttle c = λ number. one_fixed _ _

pub returns-clause-read : goal.returns-clause-read
returns-clause-read c = λ number read_format. one_read number read_format

pub returns-clause-mmap2 : goal.returns-clause-mmap2
returns-clause-mmap2 c = λ number misc. one_mmap2 number misc

pub returns-clause-aux : goal.returns-clause-aux
returns-clause-aux c = λ number. one_fixed _ _

pub returns-clause-itrace_start : goal.returns-clause-itrace_start
returns-clause-itrace_start c = λ number. one_fixed _ _

pub returns-clause-lost_samples : goal.returns-clause-lost_samples
returns-clause-lost_samples c = λ number. one_fixed _ _

pub returns-clause-switch : goal.returns-clause-switch
returns-clause-switch c = λ misc. one_fixed _ _

pub returns-clause-switch_cpu_wide : goal.returns-clause-switch_cpu_wide
returns-clause-switch_cpu_wide c = λ number misc. one_fixed _ _

pub returns-clause-namespaces : goal.returns-clause-namespaces
returns-clause-namespaces c = λ number. one_fixed_and_u64s number _ _ _

pub returns-clause-ksymbol : goal.returns-clause-ksymbol
returns-clause-ksymbol c = λ number. one_fixed_and_text _ _

pub returns-clause-bpf_event : goal.returns-clause-bpf_event
returns-clause-bpf_event c = λ number. one_fixed_and_block _ _ _

pub returns-clause-cgroup : goal.returns-clause-cgroup
returns-clause-cgroup c = λ number. one_fixed_and_text _ _

pub returns-clause-text_poke : goal.returns-clause-text_poke
returns-clause-text_poke c = λ number. one_fixed_and_block _ _ _

pub returns-clause-aux_output_hw_id : goal.returns-clause-aux_output_hw_id
returns-clause-aux_output_hw_id c = λ number. one_fixed _ _

pub returns-clause-sample : goal.returns-clause-sample
returns-clause-sample c = λ number format. one_sample number format

pub returns-clause-sample_id : goal.returns-clause-sample_id
returns-clause-sample_id c = λ number sample_format. one_sample_id number sample_format
