-- Hash and key.
use Rattle.file.proofs.Running.{pair_put}
use Rattle.file.proofs.runs.read_pair.Goals as goal

pub returns : goal.returns
returns c =
    pair_put _ _ _ c.put_word.ensures c.word_at.ensures c.put_word-2.ensures c.word_at-2.ensures
