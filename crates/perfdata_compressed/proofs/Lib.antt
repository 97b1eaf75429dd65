pub mod PlainRecordLemmas
