-- What is printed and left does not depend on how the input is cut: a call takes the bytes one after another, as all of them are heard.
use mathlib.Core.Path.{◌≡◌, refl, ap, sym, ◌∙◌}
use mathlib.Core.List.{List, [], ◌∷◌, ◌++◌, append_assoc}
use Prim.Native.Nat.{ℕ, suc, ◌+◌, ◌-◌, ◌<◌, ◌≤◌}
use native.Mathlib.Decide.{ℕ_discrete, dec_lt}
use native.Mathlib.Omega.{arith}
use lib.ListN.{length, take, drop}
use borrow.Author.Tests.{lt-ltb, le-ltb, eq-eqb, ne_eqb}
use Rattle.index_rules.specs.Index.{Index}
use Rattle.script_rules.specs.Text.{newline}
use Rattle.script_rules.specs.Commands.{spoken}
use Rattle.script_rules.specs.Answers.{Said, carried_out}
use Rattle.script_rules.specs.Feeding.{Line, blank_line, held_of, longest, Desk, answered, fed_byte, Fed, room_left, feeding, feeds}
use Rattle.script_rules.specs.Feeding.{Heard}
use Rattle.script_rules.specs.Feeding.{prefixed, heard, desk_of, printed, Run, over, call}
use Rattle.script_rules.proofs.Feeding.{Within, typed_within, feeds_short, feeds_long}
use Rattle.script_rules.proofs.Room.{answer_short, typed_whole}

-- What stands on the paper, before all that is still heard.
abbrev so_far : Desk → List ℕ → Heard
so_far d input = prefixed (take d.paper.at d.paper.bytes) (heard d.line d.index input)

prefixed_twice : (a b : List ℕ) (h : Heard) → prefixed (a ++ b) h ≡ prefixed a (prefixed b h)
prefixed_twice a b h = ap (λ (t : List ℕ). record { text = t; line = h.line; index = h.index }) (append_assoc a b h.text)

-- One byte, with room for any answer.
byte_heard : (d : Desk) (b : ℕ) (l : List ℕ) → Within d.paper → longest ≤ room_left d.paper → so_far (fed_byte d b) l ≡ so_far d (b ∷ l)
unfolding fed_byte answered heard
byte_heard d b l w r = go (ℕ_discrete b newline)
  where
    said : Said
    said = carried_out d.index (spoken (held_of d.line))

    go : Dec (b ≡ newline) → so_far (fed_byte d b) l ≡ so_far d (b ∷ l)
    go (yes e) =
        let all = typed_whole d.paper said.text (omega (arith, answer_short d.index (spoken (held_of d.line)))) in
        rw (eq-eqb b newline e)
        (ap (λ (t : List ℕ). prefixed t (heard blank_line said.left l)) all.behind
        ∙ prefixed_twice (take d.paper.at d.paper.bytes) said.text (heard blank_line said.left l))
    go (no n) = rw (ne_eqb b newline n)

pub byte_within : (d : Desk) (b : ℕ) → Within d.paper → Within (fed_byte d b).paper
unfolding fed_byte answered
byte_within d b h = go (ℕ_discrete b newline)
  where
    go : Dec (b ≡ newline) → Within (fed_byte d b).paper
    go (yes e) = rw (eq-eqb b newline e) (typed_within d.paper _ h)
    go (no n) = rw (ne_eqb b newline n) h

-- A chunk: no more is taken than there is, and the rest is heard after it.
record Fair (chunk : List ℕ) (k : ℕ) (d : Desk) (rest : List ℕ) : Type 0 where
  least : k ≤ (feeding chunk k d).taken
  most : (feeding chunk k d).taken ≤ k + length chunk
  same : so_far (feeding chunk k d).desk (drop ((feeding chunk k d).taken - k) chunk ++ rest) ≡ so_far d (chunk ++ rest)

drop_less : (m k b : ℕ) (l : List ℕ) → suc k ≤ m → drop (m - k) (b ∷ l) ≡ drop (m - suc k) l
drop_less m k b l h = let e : m - k ≡ suc (m - suc k) = omega arith in rw e

fair : (chunk : List ℕ) (k : ℕ) (d : Desk) (rest : List ℕ) → Within d.paper → Fair chunk k d rest
unfolding feeding
fair [] k d rest w = let z : k - k ≡ 0 = omega arith in record { least = omega arith; most = omega arith; same = rw z }
fair (b ∷ l) k d rest w = go (dec_lt (room_left d.paper) longest) (fair l (suc k) (fed_byte d b) rest (byte_within d b w))
  where
    go : Dec (room_left d.paper < longest) → Fair l (suc k) (fed_byte d b) rest → Fair (b ∷ l) k d rest
    go (yes s) again =
        let z : k - k ≡ 0 = omega arith in
        record { least = rw (lt-ltb _ _ s) (omega arith); most = rw (lt-ltb _ _ s) (omega arith); same = rw (lt-ltb _ _ s, z) }
    go (no n) again =
        let f = le-ltb (room_left d.paper) longest (omega arith) in
        let a1 = again.least in
        let a2 = again.most in
        record {
          least = rw f (omega arith);
          most = rw f (omega arith);
          same = rw (f, drop_less (feeding l (suc k) (fed_byte d b)).taken k b l again.least)
              (again.same ∙ byte_heard d b (l ++ rest) w (omega arith));
        }

start_within : (line : Line) (ix : Index) (buffer : List ℕ) → Within (desk_of line ix buffer).paper
start_within line ix buffer = omega arith

pub call_heard : (line : Line) (ix : Index) (chunk rest buffer : List ℕ) {f : Fed} → longest ≤ length buffer
    → f ≡ feeds chunk (desk_of line ix buffer)
    → prefixed (printed f) (heard f.desk.line f.desk.index (drop f.taken chunk ++ rest)) ≡ heard line ix (chunk ++ rest)
call_heard line ix chunk rest buffer {f} r e =
    let d = desk_of line ix buffer in
    let g : feeding chunk 0 d ≡ f = feeds_long chunk d r ∙ sym e in
    let z : (feeding chunk 0 d).taken - 0 ≡ (feeding chunk 0 d).taken = omega arith in
    ap (λ (x : Fed). so_far x.desk (drop x.taken chunk ++ rest)) (sym g)
    ∙ ap (λ (m : ℕ). so_far (feeding chunk 0 d).desk (drop m chunk ++ rest)) (sym z)
    ∙ (fair chunk 0 d rest (start_within line ix buffer)).same

pub cut : {line : Line} {ix : Index} {input : List ℕ} {h : Heard} → Run line ix input h → h ≡ heard line ix input
unfolding heard
cut over = refl
cut {line} {ix} (call f chunk rest buffer r e next) = ap (prefixed (printed f)) (cut next) ∙ call_heard line ix chunk rest buffer r e

-- A call's number is 0, it takes no more than the chunk has, and at least a byte where there is one.
pub feeding_number : (chunk : List ℕ) (k : ℕ) (d : Desk) → (feeding chunk k d).number ≡ 0
unfolding feeding
feeding_number [] k d = refl
feeding_number (b ∷ l) k d = go (dec_lt (room_left d.paper) longest) (feeding_number l (suc k) (fed_byte d b))
  where
    go : Dec (room_left d.paper < longest) → (feeding l (suc k) (fed_byte d b)).number ≡ 0 → (feeding (b ∷ l) k d).number ≡ 0
    go (yes s) again = rw (lt-ltb _ _ s)
    go (no n) again = rw (le-ltb (room_left d.paper) longest (omega arith)) again

pub taken_most : (chunk : List ℕ) (line : Line) (ix : Index) (buffer : List ℕ) → (feeds chunk (desk_of line ix buffer)).taken ≤ length chunk
taken_most chunk line ix buffer = go (dec_lt (length buffer) longest)
  where
    go : Dec (length buffer < longest) → (feeds chunk (desk_of line ix buffer)).taken ≤ length chunk
    go (yes s) = rw (← feeds_short chunk (desk_of line ix buffer) s) (omega arith)
    go (no n) =
        rw (← feeds_long chunk (desk_of line ix buffer) (omega arith))
        (omega (arith, (fair chunk 0 (desk_of line ix buffer) [] (start_within line ix buffer)).most))

first_taken : (chunk : List ℕ) (d : Desk) → Within d.paper → longest ≤ room_left d.paper → 0 < length chunk
    → 0 < (feeding chunk 0 d).taken
unfolding feeding
first_taken [] d w r h = absurd (omega arith)
first_taken (b ∷ l) d w r h =
    rw (le-ltb (room_left d.paper) longest r) (omega (arith, (fair l 1 (fed_byte d b) [] (byte_within d b w)).least))

pub taken_some : (chunk : List ℕ) (line : Line) (ix : Index) (buffer : List ℕ) → longest ≤ length buffer → 0 < length chunk
    → 0 < (feeds chunk (desk_of line ix buffer)).taken
taken_some chunk line ix buffer r h =
    rw (← feeds_long chunk (desk_of line ix buffer) r)
    (first_taken chunk (desk_of line ix buffer) (start_within line ix buffer) (omega arith) h)
