-- Link after link.
use Rattle.file.proofs.Running.{links_put}
use Rattle.file.proofs.runs.read_links.Goals as goal

pub returns : goal.returns
returns c =
    links_put _ _ _ c.put_word.ensures c.word_at.ensures c.put_word-2.ensures c.word_at-2.ensures
    c.put_word-3.ensures c.word_at-3.ensures
    c.put_word-4.ensures c.word_at-4.ensures c.put_word-5.ensures c.word_at-5.ensures
