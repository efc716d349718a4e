-- Every claim of the crate holds: what a call returns and leaves is read back off its outcome.
use mathlib.Core.Path.{◌≡◌, refl, ap, sym, ◌∙◌}
use Prim.Native.Nat.{ℕ}
use Rattle.std.specs.Prelude.{Option, None, Some, Ok, Err}
use lib.Dec.{eqb}
use Rattle.slots.specs.Words.{pick}
use Rattle.slots.specs.Answers.{Value, some, none}
use Rattle.slots.proofs.Claims.{answer_one_to_one}
use Rattle.slots.proofs.Laws.{told_apart}
use Rattle.index_rules.specs.Index.{Index, lent}
use Rattle.upload_rules.specs.Reader.{Note as Noting, unsaid, said, Reader as Words}
use Rattle.upload_rules.specs.Reading.{ReadOutcome}
use Rattle.reader.specs.Meanings.{Reply, reply_of, note_of, words_of, reading_of}
use Rattle.reader.specs.Claims.{ReadReturned, returned_by, Claims}
use Rattle.reader.specs.Notes.{note_at_of}
use Rattle.upload_rules.specs.Notes.{NoteSaid, known, unknown}
use Rattle.reader.proofs.Noting.{word_back, said_back}
use Rattle.reader.specs.declared.reply.ReadRefusal.TheVariants.{Unfit, Damaged, Present, Full, JournalFull, BadMark, Misfit, Short}
use Rattle.reader.specs.declared.reply.ReadRefusal.TheVariants.{Long, WrongKind}
use Rattle.reader.specs.declared.words.Reader.{Reader}
use Rattle.reader.specs.declared.read.Read.{Read}

abbrev reply_back : ℕ → Value → Reply
reply_back number (some v) = pick (eqb number 0) (Ok v) (Err (Present v))
reply_back number none =
    Err (pick (eqb number 1) Unfit
    (pick (eqb number 2) Damaged
    (pick (eqb number 5) Full
    (pick (eqb number 6) JournalFull
    (pick (eqb number 7) BadMark (pick (eqb number 8) Misfit (pick (eqb number 12) Short (pick (eqb number 13) Long WrongKind))))))))

reply_back_lem : (r : Reply) → reply_back (reply_of r).number (reply_of r).value ≡ r
reply_back_lem (Ok v) = refl
reply_back_lem (Err Unfit) = refl
reply_back_lem (Err Damaged) = refl
reply_back_lem (Err (Present v)) = refl
reply_back_lem (Err Full) = refl
reply_back_lem (Err JournalFull) = refl
reply_back_lem (Err BadMark) = refl
reply_back_lem (Err Misfit) = refl
reply_back_lem (Err Short) = refl
reply_back_lem (Err Long) = refl
reply_back_lem (Err WrongKind) = refl

abbrev note_back : Noting → Option Reply
note_back unsaid = None
note_back (said a) = Some (reply_back a.number a.value)

note_back_lem : (n : Option Reply) → note_back (note_of n) ≡ n
note_back_lem None = refl
note_back_lem (Some r) = ap Some (reply_back_lem r)

abbrev note_at_back : NoteSaid → Option (Option Reply)
note_at_back (known n) = Some (note_back n)
note_at_back unknown = None

note_at_back_lem : (n : Option (Option Reply)) → note_at_back (note_at_of n) ≡ n
note_at_back_lem (Some n) = ap Some (note_back_lem n)
note_at_back_lem None = refl

notes : (a b : Option (Option Reply)) → note_at_of a ≡ note_at_of b → a ≡ b
notes = told_apart note_at_of note_at_back note_at_back_lem

abbrev noted : Words → Option Reply → Reader
noted w n =
    record { section = w.section; got = w.got; owed = w.owed; hash = w.hash; key = w.key; mark = w.mark; taken = w.taken; note = n }

abbrev reader_back : Words → Reader
reader_back w = noted w (note_back w.note)

reader_back_lem : (r : Reader) → reader_back (words_of r) ≡ r
reader_back_lem r = ap (noted (words_of r)) (note_back_lem r.note)

abbrev read_back : ReadOutcome → Read
read_back o = record { reply = reply_back o.answer.number o.answer.value; reader = reader_back o.left.reader }

read_back_lem : (ix : Index) (r : Read) → read_back (reading_of r ix) ≡ r
read_back_lem ix r = λ i. record { reply = reply_back_lem r.reply i; reader = reader_back_lem r.reader i }

-- What a call returned, with the slices of its outcome.
abbrev returned : ReadOutcome → Read → ReadReturned
returned o r =
    record {
      read = r;
      names = o.left.index.live.names;
      cells = o.left.index.live.cells;
      head = o.left.index.live.head;
      sizes = o.left.index.live.sizes;
      lines = o.left.index.lines;
    }

returned_back : (c : ReadReturned) → returned (returned_by reading_of c) (read_back (returned_by reading_of c)) ≡ c
returned_back c = ap (returned (returned_by reading_of c)) (read_back_lem (lent c.names c.cells c.head c.sizes c.lines) c.read)

one : (o : ReadOutcome) (a b : ReadReturned) → returned_by reading_of a ≡ o → returned_by reading_of b ≡ o → a ≡ b
one o a b e f = sym (returned_back a) ∙ ap (λ (x : ReadOutcome). returned x (read_back x)) (e ∙ sym f) ∙ returned_back b

pub claims : Claims
claims =
    record {
      reply_one_to_one = told_apart reply_of (λ a. reply_back a.number a.value) reply_back_lem;
      reader_one_to_one = told_apart words_of reader_back reader_back_lem;
      start_one = λ ix a b e f. sym (read_back_lem ix a) ∙ ap read_back (e ∙ sym f) ∙ read_back_lem ix b;
      chunk_one = λ d l. one _;
      end_one = λ d. one _;
      answer_one = λ _ a b e f. answer_one_to_one a b (e ∙ sym f);
      note_one_to_one = notes;
      word_one = λ _ a b e f. e ∙ sym f;
      of_word_one = λ _ a b e f. notes a b (e ∙ sym f);
      word_back = word_back;
      said_back = said_back;
    }
