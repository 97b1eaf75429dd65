pub mod MappedFile
