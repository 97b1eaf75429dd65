-- A demangler of C++ names before its first name: its buffers are empty.
use Rattle.std.specs.Prelude.{◌≡◌, []}
use Rattle.demangle_cpp.specs.declared.CppDemangler.{CppDemangler}
use Rattle.demangle_cpp.specs.declared.node.Arena.{Arena}
use Rattle.demangle_cpp.specs.declared.printer.Printer.{Printer}
use Rattle.demangle_cpp.specs.declared.reader.Reader.{Reader}

-- there is no node
pub record IsEmptyArena (arena : Arena) : Type 0 where
  pub name : arena.name.items ≡ []
  pub nodes : arena.nodes.items ≡ []
  pub items : arena.items.items ≡ []

-- nothing is to be read, and nothing was
pub record IsUnusedReader (reader : Reader) : Type 0 where
  pub arena : IsEmptyArena reader.arena
  pub tasks : reader.tasks.items ≡ []
  pub values : reader.values.items ≡ []
  pub substitutions : reader.substitutions.items ≡ []

-- nothing is to be printed, and there is no scope
pub record IsUnusedPrinter (printer : Printer) : Type 0 where
  pub tasks : printer.tasks.items ≡ []
  pub scopes : printer.scopes.items ≡ []
  pub search : printer.search.items ≡ []

-- nothing of a name is kept
pub record IsUnused (demangler : CppDemangler) : Type 0 where
  pub reader : IsUnusedReader demangler.reader
  pub printer : IsUnusedPrinter demangler.printer
