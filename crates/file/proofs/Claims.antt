-- Every claim of the crate holds: what a call returns and leaves is read back off its outcome.
use mathlib.Core.Path.{◌≡◌, refl, ap, sym, ◌∙◌}
use Prim.Native.Nat.{ℕ}
use Rattle.std.specs.Prelude.{Option, None, Some, Result, Ok, Err}
use lib.Dec.{eqb}
use Rattle.slots.specs.Words.{pick}
use Rattle.slots.specs.Answers.{Value, some, none}
use Rattle.slots.proofs.Claims.{answer_one_to_one}
use Rattle.slots.proofs.Laws.{told_apart}
use mathlib.Core.List.{[]}
use lib.ListN.{get_or}
use Rattle.upload_rules.specs.Reader.{Note, unsaid, said}
use Rattle.upload_rules.specs.Notes.{NoteSaid, known, unknown}
use Rattle.set_rules.specs.Words.{Set, lent_set}
use Rattle.file_rules.specs.Saving.{Saved, saved}
use Rattle.file_rules.specs.Loader.{Loader as Words}
use Rattle.file_rules.specs.Loading.{LoadOutcome}
use Rattle.file.specs.Saved.{save_of}
use Rattle.file.specs.Meanings.{load_reply_of, load_note_of, loader_words, loaded_of}
use Rattle.file.specs.Notes.{load_note_at_of}
use Rattle.slots.specs.declared.answer.Unsound.{Unsound}
use Rattle.slots.specs.declared.answer.Unsound.TheVariants.{Unfit, Damaged}
use Rattle.file.specs.declared.reply.LoadRefusal.{LoadRefusal}
use Rattle.file.specs.declared.reply.LoadRefusal.TheVariants.{Short, Long, OverLimit, Unfit as NotFit, Damaged as NotSound}
use Rattle.file.specs.declared.loader.Loader.{Loader}
use Rattle.file.specs.declared.load.Load.{Load}
use Rattle.file.specs.Claims.{SaveReturned, LoadReturned, returned_by, Claims}
use Rattle.file.proofs.Noting.{load_word_back, load_said_back}

abbrev save_back : ℕ → Value → Result ℕ Unsound
save_back number (some value) = Ok value
save_back number none = Err (pick (eqb number 1) Unfit Damaged)

save_back_lem : (r : Result ℕ Unsound) → save_back (save_of r).number (save_of r).value ≡ r
save_back_lem (Ok bytes) = refl
save_back_lem (Err Unfit) = refl
save_back_lem (Err Damaged) = refl

one_to_one : (a b : Result ℕ Unsound) → save_of a ≡ save_of b → a ≡ b
one_to_one = told_apart save_of (λ a. save_back a.number a.value) save_back_lem

returned_one : (a b : SaveReturned) → saved (save_of a.reply) a.out ≡ saved (save_of b.reply) b.out → a ≡ b
returned_one a b e =
    let r = one_to_one a.reply b.reply (ap (λ (x : Saved). x.answer) e) in
    let o = ap (λ (x : Saved). x.out) e in
    λ i. record { reply = r i; out = o i }

abbrev reply_back : ℕ → Value → Result ℕ LoadRefusal
reply_back number (some value) = Ok value
reply_back number none =
    Err (pick (eqb number 1) NotFit (pick (eqb number 2) NotSound (pick (eqb number 12) Short (pick (eqb number 13) Long OverLimit))))

reply_back_lem : (r : Result ℕ LoadRefusal) → reply_back (load_reply_of r).number (load_reply_of r).value ≡ r
reply_back_lem (Ok bytes) = refl
reply_back_lem (Err NotFit) = refl
reply_back_lem (Err NotSound) = refl
reply_back_lem (Err Short) = refl
reply_back_lem (Err Long) = refl
reply_back_lem (Err OverLimit) = refl

abbrev note_back : Note → Option (Result ℕ LoadRefusal)
note_back unsaid = None
note_back (said a) = Some (reply_back a.number a.value)

note_back_lem : (n : Option (Result ℕ LoadRefusal)) → note_back (load_note_of n) ≡ n
note_back_lem None = refl
note_back_lem (Some r) = ap Some (reply_back_lem r)

abbrev note_at_back : NoteSaid → Option (Option (Result ℕ LoadRefusal))
note_at_back (known n) = Some (note_back n)
note_at_back unknown = None

note_at_back_lem : (n : Option (Option (Result ℕ LoadRefusal))) → note_at_back (load_note_at_of n) ≡ n
note_at_back_lem (Some n) = ap Some (note_back_lem n)
note_at_back_lem None = refl

notes : (a b : Option (Option (Result ℕ LoadRefusal))) → load_note_at_of a ≡ load_note_at_of b → a ≡ b
notes = told_apart load_note_at_of note_at_back note_at_back_lem

abbrev noted : Words → Option (Result ℕ LoadRefusal) → Loader
noted w n =
    record {
      section = w.section;
      at = w.at;
      part = w.part;
      tables = get_or w.counts 0 0;
      words = get_or w.counts 1 0;
      headers = get_or w.counts 2 0;
      slots = get_or w.counts 3 0;
      note = n;
    }

abbrev loader_back : Words → Loader
loader_back w = noted w (note_back w.note)

loader_back_lem : (r : Loader) → loader_back (loader_words r) ≡ r
loader_back_lem r = ap (noted (loader_words r)) (note_back_lem r.note)

abbrev load_back : LoadOutcome → Load
load_back o = record { reply = reply_back o.answer.number o.answer.value; loader = loader_back o.left.loader }

load_back_lem : (t : Set) (r : Load) → load_back (loaded_of r t) ≡ r
load_back_lem t r = λ i. record { reply = reply_back_lem r.reply i; loader = loader_back_lem r.loader i }

-- What a call returned, with the slices of its outcome.
abbrev returned : LoadOutcome → Load → LoadReturned
returned o r =
    record {
      load = r;
      lengths = o.left.set.lengths;
      bins = o.left.set.bins;
      heads = o.left.set.heads;
      names = o.left.set.names;
      cells = o.left.set.cells;
    }

returned_back : (c : LoadReturned) → returned (returned_by loaded_of c) (load_back (returned_by loaded_of c)) ≡ c
returned_back c =
    ap (returned (returned_by loaded_of c)) (load_back_lem (lent_set c.lengths c.bins c.heads c.names c.cells) c.load)

one : (o : LoadOutcome) (a b : LoadReturned) → returned_by loaded_of a ≡ o → returned_by loaded_of b ≡ o → a ≡ b
one o a b e f = sym (returned_back a) ∙ ap (λ (x : LoadOutcome). returned x (load_back x)) (e ∙ sym f) ∙ returned_back b

pub claims : Claims
claims =
    record {
      save_reply_one_to_one = one_to_one;
      answer_one = λ _ a b p q. answer_one_to_one a b (p ∙ sym q);
      save_one = λ s out a b p q. returned_one a b (p ∙ sym q);
      load_reply_one_to_one = told_apart load_reply_of (λ a. reply_back a.number a.value) reply_back_lem;
      loader_one_to_one = told_apart loader_words loader_back loader_back_lem;
      start_one = λ a b p q.
          let t = lent_set [] [] [] [] [] in sym (load_back_lem t a) ∙ ap load_back (p ∙ sym q) ∙ load_back_lem t b;
      chunk_one = λ d l. one _;
      end_one = λ d. one _;
      may_go_on_one = λ d a b p q. p ∙ sym q;
      front_words_one = λ count words a b p q. p ∙ sym q;
      front_heads_one = λ count heads a b p q. p ∙ sym q;
      front_names_one = λ count names a b p q. p ∙ sym q;
      front_cells_one = λ count cells a b p q. p ∙ sym q;
      load_note_one_to_one = notes;
      word_one = λ n a b p q. p ∙ sym q;
      of_word_one = λ w a b p q. notes a b (p ∙ sym q);
      load_word_back = load_word_back;
      load_said_back = load_said_back;
    }
