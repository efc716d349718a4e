-- What crate `dump` proves beside its contracts: a measure is told apart by what it says, and each public routine has one outcome.
use Rattle.std.specs.Prelude.{◌≡◌, Result, List, ℕ, ◌≤◌, length, take, drop}
use Rattle.slots.specs.Answers.{OneAnswer}
use Rattle.index_rules.specs.Index.{Index}
use Rattle.script_rules.specs.Feeding.{Paper, typed, lent_paper}
use Rattle.dump_rules.specs.Dump.{dump_bytes, measured, loaded_as}
use Rattle.dump_rules.specs.Rescue.{rescues}
use Rattle.dump_rules.specs.Sentence.{why_text}
use Rattle.dump.specs.Measures.{measure_of}
use Rattle.dump.specs.declared.measure.NoDump.{NoDump}

pub record Claims : Type 0 where
  pub measure_one_to_one : (a b : Result (ℕ × ℕ) NoDump) → measure_of a ≡ measure_of b → a ≡ b
  pub gauge_one : (bytes : List ℕ) → OneAnswer (λ r. measure_of r ≡ measured bytes)
  pub load_one : (names cells head sizes lines bytes : List ℕ)
      → OneAnswer (λ r. r ≡ loaded_as (length names) (length cells) (length head) (length sizes) (length lines) (drop 8 bytes))
  pub answer_one : (bytes out : List ℕ) → OneAnswer (λ q. q ≡ typed (lent_paper out 0) (why_text bytes))
  pub write_one : (p : Paper) (n c : ℕ) (ix : Index) → OneAnswer (λ q. q ≡ typed p (dump_bytes n c ix))
  pub rescue_one : (bytes : List ℕ) (p q : Paper) → OneAnswer (λ r. r ≡ rescues bytes p q)
  -- with room for the longest text, all of it stands in the buffer from its front on
  pub whole : (bytes out : List ℕ) → 524288 ≤ length out
      → take (typed (lent_paper out 0) (why_text bytes)).at (typed (lent_paper out 0) (why_text bytes)).bytes ≡ why_text bytes
