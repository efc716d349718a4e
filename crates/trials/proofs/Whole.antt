-- Played to its end, an input comes to what is heard of it, in whatever pieces: each call prints the beginning of what is to be heard.
use mathlib.Core.Path.{◌≡◌, refl, ap, sym, ◌∙◌}
use mathlib.Core.Bool.{Bool, true, false, false≢true}
use mathlib.Core.List.{List, [], ◌∷◌, ◌++◌, append_assoc, append-nil}
use Prim.Native.Nat.{ℕ, zero, suc, ◌+◌, ◌<◌, ◌≤◌}
use native.Mathlib.Decide.{ℕ_discrete, dec_lt}
use native.Mathlib.Omega.{arith}
use lib.ListN.{length, take, drop, set, length-set, length-take, length-drop, length-append, take-append-drop}
use lib.Seq.{drop-append-le}
use lib.Dec.{eqb, ltb}
use borrow.Author.Tests.{lt-ltb, ne_eqb}
use Rattle.slots.specs.Words.{pick}
use Rattle.index_rules.specs.Index.{Index}
use Rattle.script_rules.specs.Text.{newline}
use Rattle.script_rules.specs.Commands.{spoken}
use Rattle.script_rules.specs.Answers.{Said, carried_out}
use Rattle.script_rules.specs.Feeding.{Line, blank_line, held_of, noted, Paper, typed_one, typed, longest, Desk, answered, fed_byte, Fed}
use Rattle.script_rules.specs.Feeding.{fed}
use Rattle.script_rules.specs.Feeding.{room_left, feeding, feeds, finishes, Heard, prefixed, heard, desk_of, printed}
use Rattle.script_rules.proofs.Ending.{ends_none, ends_line}
use Rattle.script_rules.proofs.Room.{answer_short, typed_whole}
use Rattle.script_rules.proofs.Cutting.{call_heard, taken_most, taken_some}
use Rattle.trials.specs.Playing.{all_same, how_far, agreed, Played, cleared, closing, plays, playing}
use Rattle.trials.specs.Claims.{all_printed, Agrees, Plays}
use Rattle.trials.proofs.Steps.{unlike}
use Rattle.trials.proofs.Agreeing.{agreed-more, agreed_stop, agrees}

-- No call changes how long the buffer is.
one_long : (p : Paper) (b : ℕ) → length (typed_one p b).bytes ≡ length p.bytes
one_long p b = go (ltb p.at (length p.bytes))
  where
    go : (t : Bool) → length (pick t (record { bytes = set p.bytes p.at b; at = p.at + 1 }) p).bytes ≡ length p.bytes
    go true = length-set p.bytes p.at b
    go false = refl

typed_long : (p : Paper) (l : List ℕ) → length (typed p l).bytes ≡ length p.bytes
unfolding typed
typed_long p [] = refl
typed_long p (b ∷ l) = typed_long (typed_one p b) l ∙ one_long p b

byte_long : (d : Desk) (b : ℕ) → length (fed_byte d b).paper.bytes ≡ length d.paper.bytes
unfolding fed_byte answered
byte_long d b = go (eqb b newline)
  where
    go : (t : Bool)
        → length (pick t (answered d) (record { line = noted d.line b; index = d.index; paper = d.paper })).paper.bytes
        ≡ length d.paper.bytes
    go true = typed_long d.paper _
    go false = refl

feeding_long : (chunk : List ℕ) (k : ℕ) (d : Desk) → length (feeding chunk k d).desk.paper.bytes ≡ length d.paper.bytes
unfolding feeding
feeding_long [] k d = refl
feeding_long (b ∷ l) k d = go (ltb (room_left d.paper) longest) (feeding_long l (suc k) (fed_byte d b))
  where
    go : (t : Bool) → length (feeding l (suc k) (fed_byte d b)).desk.paper.bytes ≡ length (fed_byte d b).paper.bytes
        → length (pick t (fed k d) (feeding l (suc k) (fed_byte d b))).desk.paper.bytes ≡ length d.paper.bytes
    go true again = refl
    go false again = again ∙ byte_long d b

fed_long : (chunk : List ℕ) (d : Desk) → length (feeds chunk d).desk.paper.bytes ≡ length d.paper.bytes
unfolding feeds
fed_long chunk d = go (ltb (length d.paper.bytes) longest)
  where
    go : (t : Bool)
        → length (pick t (record { number = 1; desk = d; taken = 0 }) (feeding chunk 0 d)).desk.paper.bytes ≡ length d.paper.bytes
    go true = refl
    go false = feeding_long chunk 0 d

-- The call at the end prints and leaves the same in any buffer with room.
record Alike (f g : Fed) : Type 0 where
  text : printed f ≡ printed g
  index : f.desk.index ≡ g.desk.index

ended_alike : (line : Line) (ix : Index) (a b : List ℕ) → longest ≤ length a → longest ≤ length b
    → Alike (finishes (desk_of line ix a)) (finishes (desk_of line ix b))
ended_alike line ix a b r s = go (ℕ_discrete line.count 0)
  where
    said : Said
    said = carried_out ix (spoken (held_of line))

    whole : (l : List ℕ) → longest ≤ length l
        → let p = typed (record { bytes = l; at = 0 }) said.text in take p.at p.bytes ≡ said.text
    whole l h = (typed_whole (record { bytes = l; at = 0 }) said.text (omega (arith, answer_short ix (spoken (held_of line))))).behind

    go : Dec (line.count ≡ 0) → Alike (finishes (desk_of line ix a)) (finishes (desk_of line ix b))
    go (yes e) = rw (← ends_none (desk_of line ix a) r e, ← ends_none (desk_of line ix b) s e) (record { text = refl; index = refl })
    go (no n) =
        rw (← ends_line (desk_of line ix a) r n refl refl, ← ends_line (desk_of line ix b) s n refl refl)
        (record { text = whole a r ∙ sym (whole b s); index = refl })

-- From a line and an index on: the call at the end of the input, and all that is printed up to then.
abbrev ending : Line → Index → List ℕ → List ℕ → Fed
ending line ix rest buffer = let h = heard line ix rest in finishes (desk_of h.line h.index buffer)

abbrev printing : Line → Index → List ℕ → List ℕ → List ℕ
printing line ix rest buffer = (heard line ix rest).text ++ printed (ending line ix rest buffer)

record Whole (expected : List ℕ) (said : ℕ) (line : Line) (ix : Index) (rest last : List ℕ) (p : Played) : Type 0 where
  met : p.met ≡ agreed expected said (printing line ix rest last)
  left : all_same p.met ≡ true → p.index ≡ (ending line ix rest last).desk.index

module _ (expected last : List ℕ) (room : longest ≤ length last) where
  closed : (said : ℕ) (line : Line) (ix : Index) (buffer : List ℕ) → longest ≤ length buffer
      → Whole expected said line ix [] last (closing expected said (desk_of line ix buffer))
  unfolding heard
  closed said line ix buffer r =
      let a = ended_alike line ix buffer last r room in
      record { met = ap (agreed expected said) a.text; left = λ s. a.index }

  module _ (cut said : ℕ) (line : Line) (ix : Index) (rest buffer : List ℕ) (n : ℕ) {f : Fed}
      (some : 1 ≤ cut) (r : longest ≤ length buffer) (h : 0 < length rest) (e : f ≡ feeds (take cut rest) (desk_of line ix buffer)) where
    -- The rest of the input is heard after what the call has printed.
    after : prefixed (printed f) (heard f.desk.line f.desk.index (drop f.taken rest)) ≡ heard line ix rest
    after =
        let t : f.taken ≤ length (take cut rest) = rw e (taken_most (take cut rest) line ix buffer) in
        let same : drop f.taken (take cut rest) ++ drop cut rest ≡ drop f.taken rest =
        sym (drop-append-le f.taken (take cut rest) (drop cut rest) t) ∙ ap (drop f.taken) (take-append-drop cut rest) in
        ap (λ (l : List ℕ). prefixed (printed f) (heard f.desk.line f.desk.index l)) (sym same)
        ∙ call_heard line ix (take cut rest) (drop cut rest) buffer r e
        ∙ ap (heard line ix) (take-append-drop cut rest)

    taken : 0 < f.taken
    taken = rw e (taken_some (take cut rest) line ix buffer r (simp length-take (omega arith)))

    printed_first : printed f ++ printing f.desk.line f.desk.index (drop f.taken rest) last ≡ printing line ix rest last
    printed_first =
        sym (append_assoc (printed f) (heard f.desk.line f.desk.index (drop f.taken rest)).text _)
        ∙ ap (λ (x : Heard). x.text ++ printed (finishes (desk_of x.line x.index last))) after

    step : Whole expected (how_far (agreed expected said (printed f))) f.desk.line f.desk.index (drop f.taken rest) last
        (plays n cut expected (drop f.taken rest) (how_far (agreed expected said (printed f))) (cleared f))
        → Whole expected said line ix rest last (plays (suc n) cut expected rest said (desk_of line ix buffer))
    unfolding plays
    step again = go (all_same (agreed expected said (printed f))) refl
      where
        go : (t : Bool) → (all_same (agreed expected said (printed f))) ≡ t
            → Whole expected said line ix rest last (plays (suc n) cut expected rest said (desk_of line ix buffer))
        go true s =
            rw (← e, ne_eqb (length rest) 0 (omega arith), s, lt-ltb 0 f.taken taken) (record {
              met = again.met ∙ sym (agreed-more expected said (printed f) _ s) ∙ ap (agreed expected said) printed_first;
              left = λ u. again.left u ∙ ap (λ (x : Heard). (finishes (desk_of x.line x.index last)).desk.index) after;
            })
        go false s =
            rw (← e, ne_eqb (length rest) 0 (omega arith), s) (record {
              met = sym (unlike _ s) ∙ sym (agreed_stop expected said (printed f) _ s) ∙ ap (agreed expected said) printed_first;
              left = λ u. absurd (false≢true u);
            })

  over : (n cut said : ℕ) (line : Line) (ix : Index) (rest buffer : List ℕ) → longest ≤ length buffer → length rest ≤ 0
      → Whole expected said line ix rest last (plays n cut expected rest said (desk_of line ix buffer))
  unfolding plays
  over zero cut said line ix [] buffer r h = closed said line ix buffer r
  over (suc n) cut said line ix [] buffer r h = closed said line ix buffer r
  over n cut said line ix (b ∷ l) buffer r h = absurd (omega arith)

  whole : (n cut said : ℕ) (line : Line) (ix : Index) (rest buffer : List ℕ) → 1 ≤ cut → longest ≤ length buffer → length rest ≤ n
      → Whole expected said line ix rest last (plays n cut expected rest said (desk_of line ix buffer))
  whole zero cut said line ix rest buffer some r h = over zero cut said line ix rest buffer r h
  whole (suc n) cut said line ix rest buffer some r h =
      let f = feeds (take cut rest) (desk_of line ix buffer) in
      go (dec_lt 0 (length rest))
      (whole n cut (how_far (agreed expected said (printed f))) f.desk.line f.desk.index (drop f.taken rest)
      f.desk.paper.bytes some
      (omega (arith, fed_long (take cut rest) (desk_of line ix buffer))))
    where
      go : let f = feeds (take cut rest) (desk_of line ix buffer) in
          let said' = (how_far (agreed expected said (printed f))) in Dec (0 < length rest)
          → (length (drop f.taken rest) ≤ n → Whole expected said' f.desk.line f.desk.index (drop f.taken rest) last
          (plays n cut expected (drop f.taken rest) said' (cleared f)))
          → Whole expected said line ix rest last (plays (suc n) cut expected rest said (desk_of line ix buffer))
      go (yes l) again =
          let t = taken_some (take cut rest) line ix buffer r (simp length-take (omega arith)) in
          step cut said line ix rest buffer n some r l refl (again (simp length-drop (omega arith)))
      go (no m) again = over (suc n) cut said line ix rest buffer r (omega arith)

-- A list that is another and a rest, and as long as the other, is the other.
no_rest : (a b rest : List ℕ) → a ≡ b ++ rest → length b ≡ length a → a ≡ b
no_rest a b [] e h = e ∙ append-nil b
no_rest a b (x ∷ l) e h = absurd (omega (arith, simp length-append at (ap length e)))

pub played_whole : (cut : ℕ) (expected input : List ℕ) (ix : Index) (out : List ℕ) → 1 ≤ cut → longest ≤ length out
    → Plays cut expected input ix out
played_whole cut expected input ix out some r =
    record {
      same = (λ h. to h.0 h.1, from);
      left = all.left;
      parts = λ s. rw all.met (known.parts (sym (ap all_same all.met) ∙ s));
    }
  where
    all : Whole expected 0 blank_line ix input out (playing cut expected input ix out)
    all = whole expected out r (length input) cut 0 blank_line ix input out some r (omega arith)

    known : Agrees expected 0 (all_printed ix input out)
    known = agrees expected 0 (all_printed ix input out)

    to : all_same (playing cut expected input ix out).met ≡ true → how_far (playing cut expected input ix out).met ≡ length expected
        → expected ≡ all_printed ix input out
    to s t =
        let m = all.met in
        let y : all_same (agreed expected 0 (all_printed ix input out)) ≡ true = sym (ap all_same m) ∙ s in
        let c = known.come y in
        let a = ap how_far m in
        let h = known.same.0 y in
        no_rest expected (all_printed ix input out) h.0 h.1 (omega arith)

    from : expected ≡ all_printed ix input out
        → (all_same (playing cut expected input ix out).met ≡ true) × (how_far (playing cut expected input ix out).met ≡ length expected)
    from e =
        let y = known.same.1 ([], e ∙ sym (append-nil _)) in
        (ap all_same all.met ∙ y, ap how_far all.met ∙ known.come y ∙ omega (arith, ap length e))
