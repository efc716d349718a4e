-- A whole line, however it came, is answered as it is meant: at most 81 bytes of it are kept, and one that long is bad in any case.
use mathlib.Core.Path.{◌≡◌, refl, ap, sym, ◌∙◌}
use mathlib.Core.Logic.{◌≢◌}
use mathlib.Core.List.{List, [], ◌∷◌, ◌++◌, append_assoc, append-nil}
use Prim.Native.Nat.{ℕ, ◌+◌, ◌<◌, ◌≤◌}
use native.Mathlib.Decide.{dec_lt, dec_le}
use native.Mathlib.Numerals.{add-one}
use native.Mathlib.Omega.{arith}
use lib.ListN.{length, take, set, length-set, length-take, length-replicate}
use lib.Seq.{take_all, take-append-le, take-suc-set}
use borrow.Author.Tests.{lt-ltb, le-ltb, ne_eqb}
use Rattle.index_rules.specs.Index.{Index}
use Rattle.script_rules.specs.Text.{newline}
use Rattle.script_rules.specs.Commands.{Command, spoken}
use Rattle.script_rules.specs.Answers.{Said, carried_out}
use Rattle.script_rules.specs.Feeding.{width, Line, blank_line, held_of, noted, longest, answered, Fed, finishes, prefixed, heard}
use Rattle.script_rules.specs.Feeding.{desk_of}
use Rattle.script_rules.specs.Feeding.{printed, NoNewline, nothing, another}
use Rattle.script_rules.proofs.Room.{answer_short, typed_whole}

-- The bytes of a line noted one after another.
noted_all : Line → List ℕ → Line
noted_all line [] = line
noted_all line (b ∷ l) = noted_all (noted line b) l

-- A line as it is kept.
record Kept (line : Line) : Type 0 where
  long : length line.bytes ≡ width
  within : line.count ≤ width

noted_room : (line : Line) (b : ℕ) → line.count < width
    → noted line b ≡ record { bytes = set line.bytes line.count b; count = line.count + 1 }
unfolding noted
noted_room line b h = simp (lt-ltb _ _ h)

noted_full : (line : Line) (b : ℕ) → width ≤ line.count → noted line b ≡ line
unfolding noted
noted_full line b h = simp (le-ltb _ _ h)

noted-kept : (line : Line) (b : ℕ) → Kept line → Kept (noted line b)
noted-kept line b k = go (dec_lt line.count width)
  where
    go : Dec (line.count < width) → Kept (noted line b)
    go (yes l) = rw (noted_room line b l) (record { long = length-set line.bytes line.count b ∙ k.long; within = omega arith })
    go (no n) = rw (noted_full line b (omega arith)) k

held_long : (line : Line) → Kept line → length (held_of line) ≡ line.count
held_long line k = let a = k.long in let b = k.within in simp length-take (omega arith)

held : (line : Line) (l : List ℕ) → Kept line → held_of (noted_all line l) ≡ take width (held_of line ++ l)
unfolding noted_all
held line [] k =
    sym (ap (take width) (append-nil (held_of line)) ∙ take_all width (held_of line) (omega (arith, held_long line k, k.within)))
held line (b ∷ l) k = go (dec_lt line.count width) (held (noted line b) l (noted-kept line b k))
  where
    go : Dec (line.count < width) → held_of (noted_all (noted line b) l) ≡ take width (held_of (noted line b) ++ l)
        → held_of (noted_all (noted line b) l) ≡ take width (held_of line ++ (b ∷ l))
    go (yes s) again =
        let e : held_of (noted line b) ≡ held_of line ++ (b ∷ []) =
        ap held_of (noted_room line b s)
        ∙ rw (add-one line.count) (take-suc-set line.bytes line.count b (omega (arith, k.long))) in
        again ∙ ap (λ (m : List ℕ). take width (m ++ l)) e ∙ ap (take width) (append_assoc (held_of line) (b ∷ []) l)
    go (no n) again =
        let f : width ≤ length (held_of line) = omega (arith, held_long line k) in
        again ∙ ap (λ (x : Line). take width (held_of x ++ l)) (noted_full line b (omega arith))
        ∙ take-append-le width (held_of line) l f ∙ sym (take-append-le width (held_of line) (b ∷ l) f)

blank_kept : Kept blank_line
blank_kept = record { long = length-replicate {A = ℕ} width 0; within = omega arith }

-- What was kept means what the line means.
spoken-kept : (l : List ℕ) → spoken (take width l) ≡ spoken l
unfolding spoken
spoken-kept l = go (dec_le (length l) width)
  where
    go : Dec (length l ≤ width) → spoken (take width l) ≡ spoken l
    go (yes s) = ap spoken (take_all width l s)
    go (no n) =
        let m : 80 < length (take width l) = simp length-take (omega arith) in
        rw (lt-ltb 80 (length (take width l)) m, lt-ltb 80 (length l) (omega arith))

kept_means : (l : List ℕ) → spoken (held_of (noted_all blank_line l)) ≡ spoken l
kept_means l = ap spoken (held blank_line l blank_kept) ∙ spoken-kept l

heard_line : (line : Line) (ix : Index) (l rest : List ℕ) → NoNewline l
    → heard line ix (l ++ rest) ≡ heard (noted_all line l) ix rest
unfolding heard noted_all
heard_line line ix [] rest nothing = refl
heard_line line ix (b ∷ l) rest (another n m) = rw (ne_eqb b newline n) (heard_line (noted line b) ix l rest m)

pub line_heard : (ix : Index) (l rest : List ℕ) → NoNewline l
    → heard blank_line ix (l ++ (newline ∷ rest))
    ≡ prefixed (carried_out ix (spoken l)).text (heard blank_line (carried_out ix (spoken l)).left rest)
unfolding heard
line_heard ix l rest n =
    heard_line blank_line ix l (newline ∷ rest) n
    ∙ ap (λ (s : Said). prefixed s.text (heard blank_line s.left rest)) (ap (carried_out ix) (kept_means l))

-- A line that has begun has a byte.
noted_some : (line : Line) (b : ℕ) → 0 < (noted line b).count
noted_some line b = go (dec_lt line.count width)
  where
    go : Dec (line.count < width) → 0 < (noted line b).count
    go (yes l) = rw (noted_room line b l) (omega arith)
    go (no n) = rw (noted_full line b (omega arith)) (omega arith)

all_some : (line : Line) (l : List ℕ) → 0 < line.count → 0 < (noted_all line l).count
unfolding noted_all
all_some line [] h = h
all_some line (b ∷ l) h = all_some (noted line b) l (noted_some line b)

begun : (l : List ℕ) → l ≢ [] → 0 < (noted_all blank_line l).count
unfolding noted_all
begun [] n = absurd (n refl)
begun (b ∷ l) n = all_some (noted blank_line b) l (noted_some blank_line b)

heard_part : (ix : Index) (l : List ℕ) → NoNewline l
    → heard blank_line ix l ≡ record { text = []; line = noted_all blank_line l; index = ix }
unfolding heard
heard_part ix l n = ap (heard blank_line ix) (sym (append-nil l)) ∙ heard_line blank_line ix l [] n

-- The line that is left at the end is answered.
record Last (ix : Index) (l : List ℕ) (f : Fed) : Type 0 where
  text : printed f ≡ (carried_out ix (spoken l)).text
  left : f.desk.index ≡ (carried_out ix (spoken l)).left

ended : (ix : Index) (l buffer : List ℕ) (line : Line) → line ≡ noted_all blank_line l → l ≢ [] → longest ≤ length buffer
    → Last ix l (finishes (desk_of line ix buffer))
unfolding finishes answered
ended ix l buffer line e n r =
    let s = carried_out ix (spoken (held_of line)) in
    let m : spoken (held_of line) ≡ spoken l = ap (λ (x : Line). spoken (held_of x)) e ∙ kept_means l in
    let some : line.count ≢ 0 = not_none (rw e (begun l n)) in
    let whole = typed_whole (record { bytes = buffer; at = 0 }) s.text (omega (arith, answer_short ix (spoken (held_of line)))) in
    record {
      text = rw (le-ltb (length buffer) longest r, ne_eqb line.count 0 some)
          (whole.behind ∙ ap (λ (c : Command). (carried_out ix c).text) m);
      left = rw (le-ltb (length buffer) longest r, ne_eqb line.count 0 some) (ap (λ (c : Command). (carried_out ix c).left) m);
    }
  where
    not_none : {x : ℕ} → 0 < x → x ≢ 0
    not_none h = omega arith

pub last_heard : (ix : Index) (l buffer : List ℕ) → NoNewline l → l ≢ [] → longest ≤ length buffer
    → let f = finishes (desk_of (heard blank_line ix l).line (heard blank_line ix l).index buffer) in
    ((heard blank_line ix l).text ≡ []) × (printed f ≡ (carried_out ix (spoken l)).text) × (f.desk.index ≡ (carried_out ix (spoken l)).left)
last_heard ix l buffer n m r =
    let h = heard_part ix l n in
    let e = ended ix l buffer (noted_all blank_line l) refl m r in
    rw h (refl, e.text, e.left)

pub none_heard : (ix : Index) (buffer : List ℕ) → longest ≤ length buffer
    → (printed (finishes (desk_of blank_line ix buffer)) ≡ []) × ((finishes (desk_of blank_line ix buffer)).desk.index ≡ ix)
unfolding finishes
none_heard ix buffer r = rw (le-ltb (length buffer) longest r) (refl, refl)
