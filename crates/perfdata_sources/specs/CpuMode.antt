-- The CPU mode in record headers (Linux's `perf_event.h`).
use Rattle.std.specs.Prelude.{ℕ, nat_eq, if◌then◌else◌}
use Rattle.perfdata_sources.specs.declared.event.cpu_mode.CpuMode.{CpuMode}
use Rattle.perfdata_sources.specs.declared.event.cpu_mode.CpuMode.TheVariants.{Unknown, Kernel, User, Hypervisor, GuestKernel, GuestUser}

-- the CPU mode, by the number in the lowest three bits of a record header's `misc`
abbrev pub cpu_mode_of : ℕ → CpuMode
cpu_mode_of n = if nat_eq n 1 then Kernel
    else if nat_eq n 2 then User
    else if nat_eq n 3 then Hypervisor
    else if nat_eq n 4 then GuestKernel
    else if nat_eq n 5 then GuestUser
    else Unknown
