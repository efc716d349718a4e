-- Of lines and paper beside their contracts: no two commands mean the same, and each public routine has one answer.
use Rattle.std.specs.Prelude.{◌≡◌, List, ℕ}
use Rattle.slots.specs.Answers.{OneAnswer}
use Rattle.script_rules.specs.Text.{decimal}
use Rattle.script_rules.specs.Blanks.{blanks_filled}
use Rattle.script_rules.specs.Commands.{spoken}
use Rattle.script_rules.specs.Feeding.{Paper, typed_one, typed}
use Rattle.console.specs.Phrases.{command_of}
use Rattle.console.specs.declared.read.Command.{Command}

pub record Phrasing : Type 0 where
  pub command_one_to_one : (a b : Command) → command_of a ≡ command_of b → a ≡ b
  pub meaning_one : (line : List ℕ) → OneAnswer (λ c. command_of c ≡ spoken line)
  pub put_byte_one : (p : Paper) (b : ℕ) → OneAnswer (λ q. q ≡ typed_one p b)
  pub put-word_one : (p : Paper) (word : List ℕ) → OneAnswer (λ q. q ≡ typed p word)
  pub fill_one : (p : Paper) (sentence numbers : List ℕ) → OneAnswer (λ q. q ≡ typed p (blanks_filled sentence numbers))
  pub put_number_one : (p : Paper) (x : ℕ) → OneAnswer (λ q. q ≡ typed p (decimal x))
