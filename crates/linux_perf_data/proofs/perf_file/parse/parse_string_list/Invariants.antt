use Rattle.std.proofs.Common.{◌≡◌, length, drop}
use Rattle.std.specs.Prelude.{map}
use Rattle.linux_perf_data.specs.Values.{BeginsWithStrings, after_strings}
use Rattle.linux_perf_data.proofs.perf_file.parse.parse_string_list.Given as goal

abbrev pub invariant-texts : goal.invariant-texts
invariant-texts l = record {
  count : length l.texts.items ≡ l._index;
  are : BeginsWithStrings l.fn.endian (drop 4 l.fn.bytes) (map (λ s. s.now) l.texts.items);
  rest : l.rest ≡ after_strings l.fn.endian (drop 4 l.fn.bytes) (map (λ s. s.now) l.texts.items);
}
