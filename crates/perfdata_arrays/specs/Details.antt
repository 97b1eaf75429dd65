-- The fields of a sample that the struct of samples doesn't have, and where its parts are.
use Rattle.std.specs.Prelude.{◌≡◌, ◌⊎◌, ℕ, ◌+◌, ◌-◌, false, List, length, bit_and, is_some, if◌then◌else◌, Option, None, Some}
use Rattle.std.specs.Option.{unwrap_or}
use Rattle.std.specs.declared.io.ErrorKind.{ErrorKind}
use Rattle.perfdata_sources.specs.Endian.{number_in}
use Rattle.perfdata_sources.specs.Raw.{bytes_of}
use Rattle.perfdata_sources.specs.declared.endian.Endianness.{Endianness}
use Rattle.perfdata_sources.specs.declared.raw.RawData.{RawData}
use Rattle.perfdata_arrays.specs.declared.attrs.Attr.{Attr}
use Rattle.perfdata_arrays.specs.declared.status.Status.{Status}
use Rattle.perfdata_arrays.specs.declared.status.Status.TheVariants as status
use Rattle.perfdata_events.specs.Event.{has_known_fields}
use Rattle.perfdata_events.specs.Format.{encodes, fails}
use Rattle.perfdata_events.specs.Sample.{Start, Middle, branch_count, sample, sample_of}
use Rattle.perfdata_events.specs.SampleEnd.{End}
use Rattle.perfdata_events.specs.Words.{u64s_in}
use Rattle.perfdata_events.specs.declared.fields.registers.SampleRegisters.{SampleRegisters}
use Rattle.perfdata_events.specs.declared.format.EventFormat.{EventFormat}
use Rattle.perfdata_events.specs.declared.sample.SampleRecord.{SampleRecord}
use Rattle.perfdata_events.specs.declared.sample.parts.BranchStack.{BranchStack}
use Rattle.perfdata_events.specs.declared.sample.parts.UserStack.{UserStack}
use Rattle.perfdata_arrays.specs.declared.samples.body.BodyError.{BodyError}
use Rattle.perfdata_arrays.specs.declared.samples.body.BodyError.TheVariants.{Truncated, UnknownFields}
use Rattle.perfdata_arrays.specs.declared.samples.details.BranchRange.{BranchRange}
use Rattle.perfdata_arrays.specs.declared.samples.details.ByteRange.{ByteRange}
use Rattle.perfdata_arrays.specs.declared.samples.details.PartOffsets.{PartOffsets}
use Rattle.perfdata_arrays.specs.declared.samples.details.RegisterRange.{RegisterRange}
use Rattle.perfdata_arrays.specs.declared.samples.details.SampleDetails.{SampleDetails}
use Rattle.perfdata_arrays.specs.declared.samples.details.StackRange.{StackRange}

-- ---- where a part starts: after the fields before it

-- The bits of the fields before a part, in the order of the fields in a sample: IDENTIFIER 16, IP 0, TID 1, TIME 2, ADDR 3, ID 6,
-- STREAM_ID 9, CPU 7, PERIOD 8, READ 4, CALLCHAIN 5, RAW 10, BRANCH_STACK 11, REGS_USER 12, STACK_USER 13, WEIGHT 14 or
-- WEIGHT_STRUCT 24, DATA_SRC 15, TRANSACTION 17, REGS_INTR 18, PHYS_ADDR 19, CGROUP 21, DATA_PAGE_SIZE 22, CODE_PAGE_SIZE 23, AUX 20.
abbrev pub before_raw : ℕ
before_raw = 66559

abbrev pub before_branches : ℕ
before_branches = 67583

abbrev pub before_user_registers : ℕ
before_user_registers = 69631

abbrev pub before_user_stack : ℕ
before_user_stack = 73727

abbrev pub before_interrupt_registers : ℕ
before_interrupt_registers = 17039359

abbrev pub before_aux : ℕ
before_aux = 32505855

-- the format without the fields of other bits
abbrev pub with_fields : EventFormat → ℕ → EventFormat
with_fields format bits = record {
  endian = format.endian;
  sample_format = record { 0 = bit_and format.sample_format.0 bits };
  read_format = format.read_format;
  branch_sample_type = format.branch_sample_type;
  sample_regs_user = format.sample_regs_user;
  sample_regs_intr = format.sample_regs_intr;
  sample_id_all = format.sample_id_all;
}

-- the fields of these bits take this many bytes at the start of a body
pub record FieldsTake (format : EventFormat) (bits : ℕ) (body : List ℕ) (size : ℕ) : Type 0 where
  pub value : Start × (Middle × End)
  pub rest : List ℕ
  pub fields_are : sample (number_in format.endian) (with_fields format bits) body (encodes value rest)
  pub size_is : size ≡ length body - length rest

pub record AreOffsets (format : EventFormat) (body : List ℕ) (offsets : PartOffsets) : Type 0 where
  pub raw : FieldsTake format before_raw body offsets.raw
  pub branches : FieldsTake format before_branches body offsets.branches
  pub user_registers : FieldsTake format before_user_registers body offsets.user_registers
  pub user_stack : FieldsTake format before_user_stack body offsets.user_stack
  pub interrupt_registers : FieldsTake format before_interrupt_registers body offsets.interrupt_registers
  pub aux : FieldsTake format before_aux body offsets.aux

-- the fields of a format are truncated
abbrev pub IsTruncatedIn : EventFormat → List ℕ → Type 0
IsTruncatedIn format body = (kind : ErrorKind) × sample (number_in format.endian) format body (fails kind)

-- the bits of the fields before one of the parts
abbrev pub IsBeforePart : ℕ → Type 0
IsBeforePart bits =
    (bits ≡ before_raw) ⊎ ((bits ≡ before_branches) ⊎ ((bits ≡ before_user_registers)
    ⊎ ((bits ≡ before_user_stack) ⊎ ((bits ≡ before_interrupt_registers) ⊎ (bits ≡ before_aux)))))

-- the fields before one of the parts are truncated
abbrev pub HasTruncatedPart : EventFormat → List ℕ → Type 0
HasTruncatedPart format body = (bits : ℕ) × IsBeforePart bits × IsTruncatedIn (with_fields format bits) body

-- ---- the parts

abbrev pub byte_range : Option RawData → ℕ → ByteRange
byte_range None offset = record { offset = 0; size = 0 }
byte_range (Some bytes) offset = record { offset = offset; size = length (bytes_of bytes) }

-- after the number of branches, and the hardware index if there is one
abbrev pub branch_range : Option BranchStack → ℕ → BranchRange
branch_range None offset = record { offset = 0; count = 0; hw_index = 0 }
branch_range (Some stack) offset = record {
  offset = if is_some stack.hw_index then offset + 16 else offset + 8;
  count = branch_count stack;
  hw_index = unwrap_or stack.hw_index 0;
}

-- after the ABI
abbrev pub register_range : Option SampleRegisters → ℕ → RegisterRange
register_range None offset = record { abi = 0; offset = 0; count = 0 }
register_range (Some registers) offset = record { abi = registers.abi; offset = offset + 8; count = length (u64s_in registers.values) }

-- after the size
abbrev pub stack_range : Option UserStack → ℕ → StackRange
stack_range None offset = record { offset = 0; size = 0; dynamic_size = 0 }
stack_range (Some stack) offset = record { offset = offset + 8; size = length (bytes_of stack.bytes); dynamic_size = unwrap_or stack.dynamic_size 0 }

-- ---- the details

abbrev pub details_of : PartOffsets → SampleRecord → SampleDetails
details_of offsets s = record {
  stream_id = unwrap_or s.stream_id 0;
  weight = unwrap_or s.weight 0;
  data_source = unwrap_or s.data_source 0;
  transaction = unwrap_or s.transaction 0;
  physical_address = unwrap_or s.physical_address 0;
  cgroup = unwrap_or s.cgroup 0;
  data_page_size = unwrap_or s.data_page_size 0;
  code_page_size = unwrap_or s.code_page_size 0;
  raw_offset = (byte_range s.raw (offsets.raw + 4)).offset;
  raw_size = (byte_range s.raw (offsets.raw + 4)).size;
  branches_offset = (branch_range s.branch_stack offsets.branches).offset;
  branches_count = (branch_range s.branch_stack offsets.branches).count;
  branches_hw_index = (branch_range s.branch_stack offsets.branches).hw_index;
  user_abi = (register_range s.user_registers offsets.user_registers).abi;
  user_registers_offset = (register_range s.user_registers offsets.user_registers).offset;
  user_registers_count = (register_range s.user_registers offsets.user_registers).count;
  user_stack_offset = (stack_range s.user_stack offsets.user_stack).offset;
  user_stack_size = (stack_range s.user_stack offsets.user_stack).size;
  user_stack_dynamic_size = (stack_range s.user_stack offsets.user_stack).dynamic_size;
  interrupt_abi = (register_range s.interrupt_registers offsets.interrupt_registers).abi;
  interrupt_registers_offset = (register_range s.interrupt_registers offsets.interrupt_registers).offset;
  interrupt_registers_count = (register_range s.interrupt_registers offsets.interrupt_registers).count;
  aux_offset = (byte_range s.aux_data (offsets.aux + 8)).offset;
  aux_size = (byte_range s.aux_data (offsets.aux + 8)).size;
}

-- the details of a body that encodes a sample
pub record IsDetails (format : EventFormat) (body : List ℕ) (details : SampleDetails) : Type 0 where
  pub value : SampleRecord
  pub rest : List ℕ
  pub fields_are : sample (number_in format.endian) format body (encodes (sample_of value) rest)
  pub offsets : PartOffsets
  pub offsets_are : AreOffsets format body offsets
  pub details_are : details ≡ details_of offsets value

abbrev pub IsDetailsError : EventFormat → List ℕ → BodyError → Type 0
IsDetailsError format body UnknownFields = has_known_fields format ≡ false
IsDetailsError format body Truncated = IsTruncatedIn format body ⊎ HasTruncatedPart format body

-- the format of the samples of an attribute
abbrev pub format_of_attr : Endianness → Attr → EventFormat
format_of_attr order attr = record {
  endian = order;
  sample_format = record { 0 = attr.sample_type };
  read_format = record { 0 = attr.read_format };
  branch_sample_type = record { 0 = attr.branch_sample_type };
  sample_regs_user = attr.sample_regs_user;
  sample_regs_intr = attr.sample_regs_intr;
  sample_id_all = false;
}

-- the details are written, or nothing is, and the status says why
abbrev pub ReadsDetails : EventFormat → List ℕ → SampleDetails → Status → SampleDetails → Type 0
ReadsDetails format body old s new =
    ((s ≡ status.Success) × IsDetails format body new)
    ⊎ (((s ≡ status.Truncated) × (new ≡ old) × IsDetailsError format body Truncated)
    ⊎ ((s ≡ status.Other) × (new ≡ old) × IsDetailsError format body UnknownFields))
