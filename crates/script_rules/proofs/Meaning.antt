-- A line means a command exactly where it is the command's text and the numbers fit their fields.
use mathlib.Core.Path.{◌≡◌, refl, ap, sym, ◌∙◌}
use mathlib.Core.Logic.{◌⊎◌, inl, inr}
use mathlib.Core.Bool.{Bool, true, false, false≢true}
use mathlib.Core.List.{List, [], ◌∷◌, ◌++◌, append-nil}
use Prim.Native.Nat.{ℕ, ◌+◌, ◌^◌, ◌<◌, ◌≤◌}
use native.Mathlib.Omega.{arith}
use lib.ListN.{drop}
use lib.Dec.{eqb}
use borrow.Author.Tests.{eqb-true}
use Rattle.slots.specs.Words.{pick}
use Rattle.index_rules.proofs.Fit.{both}
use Rattle.script_rules.specs.Text.{decimal, Read, read, unread, read_number, read_next, starts_with, space, plus_word, minus_word}
use Rattle.script_rules.specs.Text.{ask_word, roll_word, mark_word, list_word}
use Rattle.script_rules.specs.Commands.{Command, insert, remove, find, rollback, mark, list, bad, most64, most32, read_then, alone}
use Rattle.script_rules.specs.Commands.{pair_command_of, insert_of, mark_of, meant}
use Rattle.script_rules.specs.Letters.{text_of, InFields}
use Rattle.script_rules.proofs.Numbers.{picked, Stops, ended, other, Written, number_read, number_written}

-- A word of one byte or two that stands at the front.
front_two : (v w : ℕ) (l : List ℕ) → starts_with (v ∷ (w ∷ [])) l ≡ true → l ≡ (v ∷ (w ∷ [])) ++ drop 2 l
unfolding starts_with
front_two v w [] e = absurd (false≢true e)
front_two v w (b ∷ []) e = absurd (false≢true (both (eqb v b) false e).1)
front_two v w (b ∷ (c ∷ l)) e =
    let h = both (eqb v b) _ e in
    let g = both (eqb w c) _ h.1 in
    let x : v ≡ b = eqb-true v b h.0 in
    let y : w ≡ c = eqb-true w c g.0 in
    cc

front_one : (v : ℕ) (l : List ℕ) → starts_with (v ∷ []) l ≡ true → l ≡ (v ∷ []) ++ drop 1 l
unfolding starts_with
front_one v [] e = absurd (false≢true e)
front_one v (b ∷ l) e = let x : v ≡ b = eqb-true v b (both (eqb v b) _ e).0 in cc

-- A number after a space.
record Spaced (most : ℕ) (l : List ℕ) (x : ℕ) (r : List ℕ) : Type 0 where
  text : l ≡ space ∷ (decimal x ++ r)
  bound : x ≤ most

no_number : {A : Type 0} {x : ℕ} {r : List ℕ} → unread ≡ read x r → A
no_number e = let z : ◌≡◌ {A = ℕ} 0 1 = cc in absurd (omega arith)

next-read : (most : ℕ) (l : List ℕ) {x : ℕ} {r : List ℕ} → 9 ≤ most → most < 10 ^ 20 → read_next most l ≡ read x r → Spaced most l x r
unfolding read_next
next-read most [] n g e = no_number e
next-read most (b ∷ l) {x} {r} n g e = go (picked (eqb b space) e)
  where
    spaced : b ≡ space → Written most l x r → Spaced most (b ∷ l) x r
    spaced s w = let t = w.text in record { text = cc; bound = w.bound }

    go : ((eqb b space ≡ true) × (read_number most l ≡ read x r)) ⊎ ((eqb b space ≡ false) × (unread ≡ read x r)) → Spaced most (b ∷ l) x r
    go (inl (s, f)) = spaced (eqb-true b space s) (number_read most l n g f)
    go (inr (s, f)) = no_number f

pub next_bound : (most : ℕ) (l : List ℕ) {x : ℕ} {r : List ℕ} → 9 ≤ most → most < 10 ^ 20 → read x r ≡ read_next most l → x ≤ most
next_bound most l n g e = (next-read most l n g (sym e)).bound

pub number_bound : (most : ℕ) (l : List ℕ) {x : ℕ} {r : List ℕ} → 9 ≤ most → most < 10 ^ 20 → read x r ≡ read_number most l → x ≤ most
number_bound most l n g e = (number_read most l n g (sym e)).bound

space_stops : {l : List ℕ} → Stops (space ∷ l)
space_stops = other refl

next-written : (most x : ℕ) {r : List ℕ} → x ≤ most → most < 10 ^ 20 → Stops r → read_next most (space ∷ (decimal x ++ r)) ≡ read x r
unfolding read_next
next-written most x h g st = number_written most x h g st

-- What a hash and a key are read from.
record Two (c : ℕ → ℕ → Command) (m : List ℕ) (d : Command) : Type 0 where
  h : ℕ
  k : ℕ
  is : d ≡ c h k
  text : m ≡ decimal h ++ (space ∷ decimal k)
  hb : h ≤ most64
  kb : k ≤ most64

pair_text : (c : ℕ → ℕ → Command) (m : List ℕ) (d : Command) → pair_command_of c m ≡ d → (d ≡ bad) ⊎ Two c m d
unfolding pair_command_of
pair_text c m d e = first (read_number most64 m) refl e
  where
    last : (h k : ℕ) (rest end : List ℕ) → Written most64 m h rest → Spaced most64 rest k end → alone (c h k) end ≡ d
        → (d ≡ bad) ⊎ Two c m d
    last h k rest [] w s f = inr (record {
      h = h;
      k = k;
      is = sym f;
      text = w.text ∙ ap (λ (l : List ℕ). decimal h ++ l) (s.text ∙ ap (λ (l : List ℕ). space ∷ l) (append-nil _));
      hb = w.bound;
      kb = s.bound;
    })
    last h k rest (b ∷ l) w s f = inl (sym f)

    second : (h : ℕ) (rest : List ℕ) → Written most64 m h rest → (r : Read) → read_next most64 rest ≡ r
        → read_then r (λ k end. alone (c h k) end) ≡ d → (d ≡ bad) ⊎ Two c m d
    second h rest w (read k end) q f = last h k rest end w (next-read most64 rest (omega arith) (omega arith) q) f
    second h rest w unread q f = inl (sym f)

    first : (r : Read) → read_number most64 m ≡ r
        → read_then r (λ h rest. read_then (read_next most64 rest) (λ k end. alone (c h k) end)) ≡ d
        → (d ≡ bad) ⊎ Two c m d
    first (read h rest) q f = second h rest (number_read most64 m (omega arith) (omega arith) q) (read_next most64 rest) refl f
    first unread q f = inl (sym f)

-- What a hash, a key and a place are read from.
record Three (m : List ℕ) (d : Command) : Type 0 where
  h : ℕ
  k : ℕ
  p : ℕ
  is : d ≡ insert h k p
  text : m ≡ decimal h ++ (space ∷ (decimal k ++ (space ∷ decimal p)))
  hb : h ≤ most64
  kb : k ≤ most64
  pb : p ≤ most32

entry_text_lem : (m : List ℕ) (d : Command) → insert_of m ≡ d → (d ≡ bad) ⊎ Three m d
unfolding insert_of
entry_text_lem m d e = first (read_number most64 m) refl e
  where
    last : (h k p : ℕ) (rest more end : List ℕ) → Written most64 m h rest → Spaced most64 rest k more → Spaced most32 more p end
        → alone (insert h k p) end ≡ d → (d ≡ bad) ⊎ Three m d
    last h k p rest more [] w s t f = inr (record {
      h = h;
      k = k;
      p = p;
      is = sym f;
      text = w.text ∙ ap (λ (l : List ℕ). decimal h ++ l)
          (s.text ∙ ap (λ (l : List ℕ). space ∷ (decimal k ++ l)) (t.text ∙ ap (λ (l : List ℕ). space ∷ l) (append-nil _)));
      hb = w.bound;
      kb = s.bound;
      pb = t.bound;
    })
    last h k p rest more (b ∷ l) w s t f = inl (sym f)

    third : (h k : ℕ) (rest more : List ℕ) → Written most64 m h rest → Spaced most64 rest k more → (r : Read) → read_next most32 more ≡ r
        → read_then r (λ p end. alone (insert h k p) end) ≡ d → (d ≡ bad) ⊎ Three m d
    third h k rest more w s (read p end) q f = last h k p rest more end w s (next-read most32 more (omega arith) (omega arith) q) f
    third h k rest more w s unread q f = inl (sym f)

    second : (h : ℕ) (rest : List ℕ) → Written most64 m h rest → (r : Read) → read_next most64 rest ≡ r
        → read_then r (λ k more. read_then (read_next most32 more) (λ p end. alone (insert h k p) end)) ≡ d → (d ≡ bad) ⊎ Three m d
    second h rest w (read k more) q f =
        third h k rest more w (next-read most64 rest (omega arith) (omega arith) q) (read_next most32 more) refl f
    second h rest w unread q f = inl (sym f)

    first : (r : Read) → read_number most64 m ≡ r
        → read_then r
        (λ h rest. read_then (read_next most64 rest) (λ k more. read_then (read_next most32 more) (λ p end. alone (insert h k p) end))) ≡ d
        → (d ≡ bad) ⊎ Three m d
    first (read h rest) q f = second h rest (number_read most64 m (omega arith) (omega arith) q) (read_next most64 rest) refl f
    first unread q f = inl (sym f)

-- What a mark is read from.
record One (m : List ℕ) (d : Command) : Type 0 where
  to : ℕ
  is : d ≡ rollback to
  text : m ≡ decimal to
  tb : to ≤ most32

mark_text_lem : (m : List ℕ) (d : Command) → mark_of m ≡ d → (d ≡ bad) ⊎ One m d
unfolding mark_of
mark_text_lem m d e = first (read_number most32 m) refl e
  where
    last : (to : ℕ) (end : List ℕ) → Written most32 m to end → alone (rollback to) end ≡ d → (d ≡ bad) ⊎ One m d
    last to [] w f = inr (record { to = to; is = sym f; text = w.text ∙ append-nil _; tb = w.bound })
    last to (b ∷ l) w f = inl (sym f)

    first : (r : Read) → read_number most32 m ≡ r → read_then r (λ to end. alone (rollback to) end) ≡ d → (d ≡ bad) ⊎ One m d
    first (read to end) q f = last to end (number_read most32 m (omega arith) (omega arith) q) f
    first unread q f = inl (sym f)

-- What a line means, it is the text of.
abbrev Told : List ℕ → Command → Type 0
Told l d = (d ≡ bad) ⊎ (InFields d × (l ≡ text_of d))

below : {x : ℕ} → x ≤ most64 → x < 2 ^ 64
below h = omega arith

below32 : {x : ℕ} → x ≤ most32 → x < 2 ^ 32
below32 h = omega arith

told-entry : (l : List ℕ) (d : Command) → l ≡ plus_word ++ drop 2 l → (d ≡ bad) ⊎ Three (drop 2 l) d → Told l d
told-entry l d w (inl b) = inl b
told-entry l d w (inr t) =
    inr (
      rw t.is (below t.hb, below t.kb, below32 t.pb),
      w ∙ ap (λ (m : List ℕ). plus_word ++ m) t.text ∙ sym (ap text_of t.is),
    )

told_remove : (l : List ℕ) (d : Command) → l ≡ minus_word ++ drop 2 l → (d ≡ bad) ⊎ Two remove (drop 2 l) d → Told l d
told_remove l d w (inl b) = inl b
told_remove l d w (inr t) =
    inr (rw t.is (below t.hb, below t.kb), w ∙ ap (λ (m : List ℕ). minus_word ++ m) t.text ∙ sym (ap text_of t.is))

told_find : (l : List ℕ) (d : Command) → l ≡ ask_word ++ drop 2 l → (d ≡ bad) ⊎ Two find (drop 2 l) d → Told l d
told_find l d w (inl b) = inl b
told_find l d w (inr t) =
    inr (rw t.is (below t.hb, below t.kb), w ∙ ap (λ (m : List ℕ). ask_word ++ m) t.text ∙ sym (ap text_of t.is))

told_roll : (l : List ℕ) (d : Command) → l ≡ roll_word ++ drop 2 l → (d ≡ bad) ⊎ One (drop 2 l) d → Told l d
told_roll l d w (inl b) = inl b
told_roll l d w (inr t) = inr (rw t.is (below32 t.tb), w ∙ ap (λ (m : List ℕ). roll_word ++ m) t.text ∙ sym (ap text_of t.is))

told_mark : (l m : List ℕ) (d : Command) → l ≡ mark_word ++ m → alone mark m ≡ d → Told l d
told_mark l [] d w e = inr (rw (← e) tt, w ∙ ap text_of e)
told_mark l (b ∷ m) d w e = inl (sym e)

told_list : (l m : List ℕ) (d : Command) → l ≡ list_word ++ m → alone list m ≡ d → Told l d
told_list l [] d w e = inr (rw (← e) tt, w ∙ ap text_of e)
told_list l (b ∷ m) d w e = inl (sym e)

-- The words are asked one after another.
asked : {A : Type 0} {B : Type 0} (t : Bool) {a b c : A} → pick t a b ≡ c → (t ≡ true → a ≡ c → B) → (b ≡ c → B) → B
asked true e here on = here refl e
asked false e here on = on e

pub meant-told : (l : List ℕ) (d : Command) → meant l ≡ d → Told l d
unfolding meant
meant-told l d e =
    asked (starts_with plus_word l) e (λ w f. told-entry l d (front_two _ _ l w) (entry_text_lem (drop 2 l) d f))
    (λ e1. asked (starts_with minus_word l) e1 (λ w f. told_remove l d (front_two _ _ l w) (pair_text remove (drop 2 l) d f))
    (λ e2. asked (starts_with ask_word l) e2 (λ w f. told_find l d (front_two _ _ l w) (pair_text find (drop 2 l) d f))
    (λ e3. asked (starts_with roll_word l) e3 (λ w f. told_roll l d (front_two _ _ l w) (mark_text_lem (drop 2 l) d f))
    (λ e4. asked (starts_with mark_word l) e4 (λ w f. told_mark l (drop 1 l) d (front_one _ l w) f)
    (λ e5. asked (starts_with list_word l) e5 (λ w f. told_list l (drop 1 l) d (front_one _ l w) f) (λ e6. inl (sym e6)))))))

most : {x : ℕ} → x < 2 ^ 64 → x ≤ most64
most h = omega arith

mostly : {x : ℕ} → x < 2 ^ 32 → x ≤ most32
mostly h = omega arith

-- A command's text means it.
pub text_meant : (d : Command) → InFields d → meant (text_of d) ≡ d
unfolding meant starts_with insert_of pair_command_of mark_of
text_meant (insert h k p) (hb, kb, pb) =
    rw (
      number_written most64 h {r = space ∷ (decimal k ++ (space ∷ decimal p))} (most hb) (omega arith) space_stops,
      next-written most64 k {r = space ∷ decimal p} (most kb) (omega arith) space_stops,
      ← append-nil (decimal p),
      next-written most32 p {r = []} (mostly pb) (omega arith) ended,
    )
text_meant (remove h k) (hb, kb) =
    rw (
      number_written most64 h {r = space ∷ decimal k} (most hb) (omega arith) space_stops,
      ← append-nil (decimal k),
      next-written most64 k {r = []} (most kb) (omega arith) ended,
    )
text_meant (find h k) (hb, kb) =
    rw (
      number_written most64 h {r = space ∷ decimal k} (most hb) (omega arith) space_stops,
      ← append-nil (decimal k),
      next-written most64 k {r = []} (most kb) (omega arith) ended,
    )
text_meant (rollback m) mb = rw (← append-nil (decimal m), number_written most32 m {r = []} (mostly mb) (omega arith) ended)
text_meant mark f = refl
text_meant list f = refl
text_meant bad f = absurd f
