-- The contents of a `PerfFile`.
use Rattle.std.specs.Prelude.{ℕ, List, Option}
use Rattle.perfdata_sources.specs.declared.endian.Endianness.{Endianness}
use Rattle.perfdata_identifiers.specs.declared.features.FeatureSet.{FeatureSet}
use Rattle.perfdata_sections.specs.declared.feature_sections.AttributeDescription.{AttributeDescription}
use Rattle.linux_perf_data.specs.declared.perf_file.PerfFile.{PerfFile}
use Rattle.linux_perf_data.specs.Attribute.{Attribute}
use Rattle.linux_perf_data.specs.FeatureData.{feature_data_of}
use Rattle.linux_perf_data.specs.Descriptions.{described_attributes}

-- The attributes, with their names and ids.
abbrev pub descriptions_of_file : PerfFile → List AttributeDescription
descriptions_of_file file = file.attributes.items

abbrev pub features_of_file : PerfFile → FeatureSet
features_of_file file = file.features

-- The data of a feature.
abbrev pub feature_data_in_file : PerfFile → ℕ → Option (List ℕ)
feature_data_in_file file n = feature_data_of file.sections n

abbrev pub endian_of_file : PerfFile → Endianness
endian_of_file file = file.endian

abbrev pub attributes_of_file : PerfFile → List Attribute
attributes_of_file file = described_attributes (descriptions_of_file file)
