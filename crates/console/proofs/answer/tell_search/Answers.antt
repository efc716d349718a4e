-- Each end of a search is its words one after another.
use Rattle.std.proofs.Common.{rules}
use Rattle.script_rules.specs.Answers.{search_line, found_text}
use Rattle.script_rules.proofs.Typing.{typed_append}
use Rattle.console.proofs.answer.tell_search.Goals as goal

pub returns-in-At : goal.returns-in-At
unfolding search_line found_text
returns-in-At c = search (rules, typed_append)

pub returns-in-Nothing : goal.returns-in-Nothing
unfolding search_line found_text
returns-in-Nothing c = search (rules, typed_append)

pub returns-in-Lost : goal.returns-in-Lost
unfolding search_line found_text
returns-in-Lost c = search (rules, typed_append)
