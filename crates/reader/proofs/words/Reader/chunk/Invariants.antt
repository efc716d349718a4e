-- The loop's invariant: the bytes left come to what all of them come to, and what was checked is ready.
use Rattle.index_rules.specs.Index.{lent}
use Rattle.upload_rules.specs.Reading.{session}
use Rattle.reader.specs.Meanings.{words_of}
use Rattle.reader.proofs.Trusting.{Turn}
use Rattle.reader.proofs.words.Reader.chunk.Given as goal

abbrev pub invariant-loop-b : goal.invariant-loop-b
invariant-loop-b l =
    Turn (session (words_of l.initial.at.reader)
    (lent l.initial.names l.initial.cells l.initial.head l.initial.sizes l.initial.lines)) l.chunk
    (words_of l.at.reader) l.at.floor (lent l.names l.cells l.head l.sizes l.lines) l.b-index
