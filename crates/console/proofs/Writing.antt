-- The laws of written bytes, in the sets that the functions name.
use Rattle.script_rules.proofs.Typing.{digits_none, digits_last, digits_more, typed_drop, typed-over}
use Rattle.script_rules.proofs.Filling.{filled_on, filled-over, taken_blank, taken-other}

pub ruleset number_writing = (digits_none, digits_last, digits_more)

pub ruleset word_writing = (typed_drop, typed-over)

pub ruleset blank_filling = (filled_on, filled-over, taken_blank, taken-other)
