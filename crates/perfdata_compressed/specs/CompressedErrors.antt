-- Errors of the content of compressed records.
use Rattle.zstd.specs.declared.error.ZstdError.TheVariants.{Memory}
use Rattle.perfdata_compressed.specs.declared.error.CompressedError.{CompressedError}
use Rattle.perfdata_compressed.specs.declared.error.CompressedError.TheVariants.{Stream}

-- Memory ran out.
abbrev pub no_memory : CompressedError
no_memory = Stream Memory
