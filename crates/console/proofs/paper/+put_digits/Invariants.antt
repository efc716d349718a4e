-- There is one digit less before the last one.
use Rattle.console.proofs.paper.+put_digits.Given as goal

abbrev pub decreases-put_digits : goal.decreases-put_digits
decreases-put_digits l = l.most
