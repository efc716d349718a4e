-- What the code's measure stands for.
use Rattle.std.specs.Prelude.{Result, Ok, Err, ℕ}
use Rattle.dump_rules.specs.Dump.{Measure, whole, stub, slots_out, lines_out, short, long}
use Rattle.dump.specs.declared.measure.NoDump.{NoDump}
use Rattle.dump.specs.declared.measure.NoDump.TheVariants.{Stub, SlotsOut, LinesOut, Short, Long}

abbrev pub no_dump_of : NoDump → Measure
no_dump_of (Stub b) = stub b
no_dump_of (SlotsOut n) = slots_out n
no_dump_of (LinesOut c) = lines_out c
no_dump_of (Short b n c) = short b n c
no_dump_of (Long n c) = long n c

abbrev pub measure_of : Result (ℕ × ℕ) NoDump → Measure
measure_of (Ok (n, c)) = whole n c
measure_of (Err wrong) = no_dump_of wrong
