-- Every claim of `Phrasing` holds: a command is read back off its meaning.
use mathlib.Core.Path.{◌≡◌, refl, ap, sym, ◌∙◌}
use Rattle.script_rules.specs.Commands.{Command as Meant, insert, remove, find, rollback, mark, list, bad}
use Rattle.console.specs.Phrases.{command_of}
use Rattle.console.specs.Phrasing.{Phrasing}
use Rattle.console.specs.declared.read.Command.{Command}
use Rattle.console.specs.declared.read.Command.TheVariants.{Insert, Remove, Find, Rollback, Mark, List as ListAll, Bad}

abbrev back : Meant → Command
back (insert h k p) = Insert h k p
back (remove h k) = Remove h k
back (find h k) = Find h k
back (rollback m) = Rollback m
back mark = Mark
back list = ListAll
back bad = Bad

back_again : (c : Command) → back (command_of c) ≡ c
back_again (Insert h k p) = refl
back_again (Remove h k) = refl
back_again (Find h k) = refl
back_again (Rollback m) = refl
back_again Mark = refl
back_again ListAll = refl
back_again Bad = refl

one_to_one : (a b : Command) → command_of a ≡ command_of b → a ≡ b
one_to_one a b e = sym (back_again a) ∙ ap back e ∙ back_again b

pub phrasing : Phrasing
phrasing =
    record {
      command_one_to_one = one_to_one;
      meaning_one = λ line a b e f. one_to_one a b (e ∙ sym f);
      put_byte_one = λ p x a b e f. e ∙ sym f;
      put-word_one = λ p word a b e f. e ∙ sym f;
      fill_one = λ p sentence numbers a b e f. e ∙ sym f;
      put_number_one = λ p x a b e f. e ∙ sym f;
    }
