-- Where the symbols of a file in a recording by simpleperf start.
use Rattle.std.specs.Prelude.{ℕ, ◌+◌, ◌-◌, ◌%◌, ◌^◌}
use Rattle.perfdata_simpleperf.specs.FileRecord.{FileValue, Info, no_info, dex_file, elf_file, kernel_module}

-- what is added, modulo 2^64, to the address of a symbol: an ELF file's offset, or a kernel module's, that belongs to the least address
abbrev pub shift_by : Info → ℕ → ℕ
shift_by (elf_file offset) min_vaddr = (offset + (2 ^ 64 - min_vaddr)) % 2 ^ 64
shift_by (kernel_module offset) min_vaddr = (offset + (2 ^ 64 - min_vaddr)) % 2 ^ 64
shift_by (dex_file offsets) min_vaddr = 0
shift_by no_info min_vaddr = 0

-- the shift of a file's symbols
abbrev pub shift_of : FileValue → ℕ
shift_of file = shift_by file.info file.min_vaddr
