-- The key of a mapped object, which the paths of its mappings and of its build id have in common (perf's `dso` kinds).
use Rattle.std.specs.Prelude.{◌≡◌, ℕ, ◌+◌, ◌-◌, Bool, true, false, ◌&&◌, ◌||◌, List, ◌++◌, length, take, drop, nat_eq, codes, if◌then◌else◌, Option, None, Some, Result, Ok, Err, string_bytes, ⊤}
use Rattle.std.specs.List.{starts_with, ends_with}
use Rattle.std.specs.Option.{option_map}
use Rattle.std.specs.Str.{bytes_eq, encode_utf8_all}
use Rattle.std.specs.declared.alloc.AllocError.{AllocError}
use Rattle.bstr.specs.Utf8.{lossy_chars}
use Rattle.memchr.specs.Find.{is_byte, places, last_of}
use Rattle.perfdata_sources.specs.declared.event.cpu_mode.CpuMode.{CpuMode}
use Rattle.perfdata_sources.specs.declared.event.cpu_mode.CpuMode.TheVariants.{Unknown, Kernel, User, Hypervisor, GuestKernel, GuestUser}
use Rattle.perfdata_records.specs.declared.dso_key.DsoKey.{DsoKey}
use Rattle.perfdata_records.specs.declared.dso_key.DsoKey.TheVariants as dso

-- A key, with the bytes of its strings.
pub data Key : Type 0 where
  kernel : Key
  guest_kernel : Key
  vdso_32 : Key
  vdso_x32 : Key
  vdso_64 : Key
  vsyscall : Key
  -- the module's name
  kernel_module : List ℕ → Key
  -- the file's name and the full path
  user : List ℕ → List ℕ → Key

-- The value of a `DsoKey`.
abbrev pub key_in : DsoKey → Key
key_in dso.Kernel = kernel
key_in dso.GuestKernel = guest_kernel
key_in dso.Vdso32 = vdso_32
key_in dso.VdsoX32 = vdso_x32
key_in dso.Vdso64 = vdso_64
key_in dso.Vsyscall = vsyscall
key_in (dso.KernelModule name) = kernel_module (string_bytes name)
key_in (dso.User file_name full_path) = user (string_bytes file_name) full_path.items

-- Whether two keys are equal, including their strings.
abbrev pub keys_equal : Key → Key → Bool
keys_equal kernel kernel = true
keys_equal guest_kernel guest_kernel = true
keys_equal vdso_32 vdso_32 = true
keys_equal vdso_x32 vdso_x32 = true
keys_equal vdso_64 vdso_64 = true
keys_equal vsyscall vsyscall = true
keys_equal (kernel_module name) (kernel_module other) = bytes_eq name other
keys_equal (user file_name full_path) (user other_name other_path) = bytes_eq file_name other_name && bytes_eq full_path other_path
keys_equal _ _ = false

-- The display name of a key.
abbrev pub name_of : Key → List ℕ
name_of kernel = codes "[kernel.kallsyms]"
name_of guest_kernel = codes "[guest.kernel.kallsyms]"
name_of vdso_32 = codes "[vdso32]"
name_of vdso_x32 = codes "[vdsox32]"
name_of vdso_64 = codes "[vdso]"
name_of vsyscall = codes "[vsyscall]"
name_of (kernel_module name) = name
name_of (user file_name full_path) = file_name

-- The bytes as a text, with U+FFFD for invalid UTF-8.
abbrev pub lossy_text : List ℕ → List ℕ
lossy_text xs = encode_utf8_all (lossy_chars xs)

-- The part of a path after an index, or all of it.
abbrev pub after_offset : List ℕ → Option ℕ → List ℕ
after_offset path None = path
after_offset path (Some offset) = drop (offset + 1) path

-- The part of a path after the last slash, or all of it if there is none.
abbrev pub file_name_of : List ℕ → List ℕ
file_name_of path = after_offset path (last_of (places (is_byte 47) path))

-- Whether the path names a mapping without an object.
abbrev pub is_unmapped : List ℕ → Bool
is_unmapped path = bytes_eq path (codes "//anon") || bytes_eq path (codes "[stack]") || bytes_eq path (codes "[heap]") || bytes_eq path (codes "[vvar]")

-- The name of the kernel module at a path: a name in brackets is unchanged, and a file `NAME.ko` is `[NAME]`.
abbrev pub module_name_of : List ℕ → Option (List ℕ)
module_name_of path = if starts_with nat_eq path (codes "[") then Some (lossy_text path)
    else if ends_with nat_eq (file_name_of path) (codes ".ko")
    then Some (codes "[" ++ lossy_text (take (length (file_name_of path) - 3) (file_name_of path)) ++ codes "]")
    else None

-- The key of the module, or `otherwise` if there is none.
abbrev pub module_key_or : Option (List ℕ) → Key → Key
module_key_or None otherwise = otherwise
module_key_or (Some name) otherwise = kernel_module name

-- The key of a path that isn't a special name of the kernel, a vDSO or the vsyscall page.
abbrev pub key_of_file : List ℕ → CpuMode → Option Key
key_of_file path Kernel = Some (module_key_or (module_name_of path) kernel)
key_of_file path GuestKernel = Some (module_key_or (module_name_of path) guest_kernel)
key_of_file path User = Some (user (lossy_text (file_name_of path)) path)
key_of_file path GuestUser = Some (user (lossy_text (file_name_of path)) path)
key_of_file path Hypervisor = None
key_of_file path Unknown = None

-- The key of the kernel in a mode, which is the guest's kernel in a guest kernel's mode.
abbrev pub key_of_kernel : CpuMode → Key
key_of_kernel GuestKernel = guest_kernel
key_of_kernel _ = kernel

-- The key of a path in a CPU mode. The first matching case counts.
abbrev pub key_of : List ℕ → CpuMode → Option Key
key_of path mode = if is_unmapped path then None
    else if starts_with nat_eq path (codes "[kernel.kallsyms]") then Some (key_of_kernel mode)
    else if starts_with nat_eq path (codes "[guest.kernel.kallsyms") then Some guest_kernel
    else if bytes_eq path (codes "[vdso32]") then Some vdso_32
    else if bytes_eq path (codes "[vdsox32]") then Some vdso_x32
    else if bytes_eq path (codes "[vdso]") then Some vdso_64
    else if bytes_eq path (codes "[vsyscall]") then Some vsyscall
    else key_of_file path mode

-- A key with strings, which need memory.
abbrev pub HasTexts : Option Key → Type 0
HasTexts (Some (kernel_module name)) = ⊤
HasTexts (Some (user file_name full_path)) = ⊤
HasTexts _ = ⊥

-- What detecting the key of a path does: it returns the key, or fails to allocate the key's strings.
abbrev pub Detects : List ℕ → CpuMode → Result (Option DsoKey) AllocError → Type 0
Detects path mode (Ok found) = option_map key_in found ≡ key_of path mode
Detects path mode (Err e) = HasTexts (key_of path mode)
