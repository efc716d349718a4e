-- The file of the sample, counted out.
use mathlib.Core.Path.{◌≡◌, refl}
use Rattle.slots.specs.Words.{cell, name_of}
use Rattle.endian.specs.Bytes.{little, words_bytes}
use Rattle.file_rules.specs.File.{slot_bytes, slots_bytes, set_section, set_front, set_bytes}
use Rattle.file_rules.specs.Sample.{sample_set, sample_bytes}

pub sample_bytes_lem : set_bytes sample_set ≡ sample_bytes
unfolding set_front set_section slots_bytes slot_bytes words_bytes little cell name_of
sample_bytes_lem = refl
