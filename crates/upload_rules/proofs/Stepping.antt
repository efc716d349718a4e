-- A byte makes no call, an insert, or a rollback, to the mark or, where the journal was cut short, to mark + taken; what a refused call
-- answers goes up, and it writes nothing.
use mathlib.Core.Path.{◌≡◌, refl, ap, sym, ◌∙◌}
use mathlib.Core.Logic.{◌≢◌, ◌⊎◌, inl, inr}
use mathlib.Core.Bool.{Bool, true, false}
use Prim.Native.Nat.{ℕ, ◌+◌, ◌-◌, ◌<◌, ◌≤◌}
use native.Mathlib.Decide.{dec_lt}
use native.Mathlib.Omega.{arith}
use lib.Dec.{eqb, ltb}
use borrow.Author.Tests.{eq-eqb, ne_eqb, lt-ltb, le-ltb}
use Rattle.slots.specs.Answers.{Answer, given, refused}
use Rattle.index_rules.specs.Sound.{Sound, sound}
use Rattle.index_rules.specs.Index.{Index, Outcome, FitIndex, fits_index, length_of}
use Rattle.index_rules.specs.Insert.{inserts}
use Rattle.index_rules.specs.Rollback.{rolls}
use Rattle.index_rules.specs.Claims.{Rolls}
use Rattle.index_rules.proofs.Journal.{fits-index, index-fits}
use Rattle.index_rules.proofs.Sounding.{yes_sound, sound_yes}
use Rattle.index_rules.proofs.Inserting.{insert_claims, insert_settled}
use Rattle.index_rules.proofs.Rolling.{rollback_claims, rollback_settled}
use Rattle.upload_rules.specs.Reader.{Reader, unsaid, noting, FitReader, is_whole}
use Rattle.upload_rules.specs.Reading.{Session, session, goes_up, back_mark, turned_down, owing, kind_came, count_came, entry_came, came_of}
use Rattle.upload_rules.specs.Reading.{last_came, byte_came, count_byte, name_byte, in_hash, entry_place}
use Rattle.upload_rules.specs.Steps.{Foreign, unfit, damaged, bad_mark, misfit, Fault, kind, long, entry, ByteStep, moves, takes}
use Rattle.upload_rules.specs.Steps.{stops, foreign, cut_short}
use Rattle.upload_rules.proofs.Ranges.{no_test, pick_both}

-- A rollback that is refused answers 1, 2, 7 or 8.
module _ (ix : Index) (m : ℕ) where
  abbrev Which : Type 0
  Which = (a : Answer) × Foreign a × ((rolls ix m).answer ≡ a)

  which : (rolls ix m).answer.number ≢ 0 → Which
  which n = first (fits_index ix) refl
    where
      claim : Rolls ix m
      claim = rollback_claims ix m

      third : FitIndex ix → Sound ix.live → Dec (length_of ix.lines < m) → Which
      third f h (yes l) = (refused 7, bad_mark, claim.seven.1 (f, h, l))
      third f h (no d) = (
        refused 8,
        misfit,
        claim.eight.1 (
          f,
          omega arith,
          (h, λ u. n (ap (λ (a : Answer). a.number) ((claim.accepted (length_of ix.lines - m)).1 (f, omega arith, refl, (h, u))))),
        ),
      )

      second : FitIndex ix → (b : Bool) → sound ix.live ≡ b → Which
      second f true e = third f (yes_sound f.tree e) (dec_lt (length_of ix.lines) m)
      second f false e = (refused 2, damaged, claim.two.1 (f, λ h. no_test e (sound_yes f.tree h)))

      first : (b : Bool) → fits_index ix ≡ b → Which
      first true e = second (fits-index ix e) (sound ix.live) refl
      first false e = (refused 1, unfit, claim.one.1 (λ f. no_test e (index-fits ix f)))

pub foreign_number : {a : Answer} → Foreign a → a.number ≢ 0
foreign_number unfit e = omega arith
foreign_number damaged e = omega arith
foreign_number bad_mark e = omega arith
foreign_number misfit e = omega arith

-- Where the rollback is accepted the refusal itself goes up, and where it is refused its own answer.
up_given : (a : Answer) (c : ℕ) → goes_up a (given c) ≡ a
unfolding goes_up
up_given a c = refl

up_foreign : (a : Answer) {b : Answer} → Foreign b → goes_up a b ≡ b
unfolding goes_up
up_foreign a unfit = refl
up_foreign a damaged = refl
up_foreign a bad_mark = refl
up_foreign a misfit = refl

module _ (r : Reader) (ix : Index) where
  -- What a rollback to a mark leaves noted.
  abbrev rolled_to : Answer → ℕ → Session
  rolled_to a m = session (noting r (goes_up a (rolls ix m).answer)) (rolls ix m).left

  -- The journal's length tells the mark.
  at_start : r.mark + r.taken ≤ length_of ix.lines → back_mark r ix ≡ r.mark
  unfolding back_mark
  at_start l = rw (le-ltb (length_of ix.lines) (r.mark + r.taken) l)

  at-taken : length_of ix.lines < r.mark + r.taken → back_mark r ix ≡ r.mark + r.taken
  unfolding back_mark
  at-taken l = rw (lt-ltb (length_of ix.lines) (r.mark + r.taken) l)

  pub turned_back : (a : Answer) (c : ℕ) → r.mark + r.taken ≤ length_of ix.lines → (rolls ix r.mark).answer ≡ given c
      → turned_down r ix a ≡ session (noting r a) (rolls ix r.mark).left
  unfolding turned_down goes_up
  turned_back a c l e =
      ap (rolled_to a) (at_start l)
      ∙ ap (λ (x : Answer). session (noting r x) (rolls ix r.mark).left) (ap (goes_up a) e ∙ up_given a c)

  turned_foreign : {m : ℕ} (a : Answer) {b : Answer} → back_mark r ix ≡ m → Foreign b → (rolls ix m).answer ≡ b
      → turned_down r ix a ≡ session (noting r b) ix
  unfolding turned_down
  turned_foreign {m} a {b} w f e =
      let n : (rolls ix m).answer.number ≢ 0 = λ z. foreign_number f (ap (λ (x : Answer). x.number) (sym e) ∙ z) in
      let q : goes_up a (rolls ix m).answer ≡ b = ap (goes_up a) e ∙ up_foreign a f in
      ap (rolled_to a) w ∙ (λ i. session (noting r (q i)) ((rollback_claims ix m).nothing_written n i))

  -- A mark above the length is refused.
  above : {m : ℕ} → length_of ix.lines < m → (rolls ix m).answer.number ≢ 0
  above {m} l z = go (rollback_settled ix m)
    where
      go : ((rolls ix m).answer.number ≢ 0) ⊎ ((c : ℕ) × ((rolls ix m).answer ≡ given c)) → ⊥
      go (inl n) = n z
      go (inr c) = let g = ((rollback_claims ix m).accepted c.0).0 c.1 in omega (arith, g.1)

  pub turned_step : (a : Answer) → Fault ix a → ByteStep r ix (turned_down r ix a)
  turned_step a why = start (dec_lt (length_of ix.lines) (r.mark + r.taken))
    where
      go : r.mark + r.taken ≤ length_of ix.lines
          → ((rolls ix r.mark).answer.number ≢ 0) ⊎ ((c : ℕ) × ((rolls ix r.mark).answer ≡ given c))
          → ByteStep r ix (turned_down r ix a)
      go l (inl n) = let w = which ix r.mark n in rw (turned_foreign a (at_start l) w.1 w.2) (foreign w.0 w.1 l w.2)
      go l (inr c) = rw (turned_back a c.0 l c.1) (stops a why l c.0 c.1)

      start : Dec (length_of ix.lines < r.mark + r.taken) → ByteStep r ix (turned_down r ix a)
      start (yes l) =
          let w = which ix (r.mark + r.taken) (above l) in
          rw (turned_foreign a (at-taken l) w.1 w.2) (cut_short w.0 w.1 l w.2)
      start (no n) = go (omega arith) (rollback_settled ix r.mark)

-- A reader that goes on: nothing is noted, the mark is the old one, and so many entries are taken.
abbrev Goes : Reader → ℕ → Reader → Type 0
Goes r taken s = (s.note ≡ unsaid) × (s.mark ≡ r.mark) × (s.taken ≡ taken)

owing_goes : (r : Reader) (owed taken : ℕ) → Goes r taken (owing r owed taken)
unfolding owing
owing_goes r owed taken =
    pick_both (Goes r taken) (eqb owed 0) _ _ (refl, refl, refl) (refl, refl, refl)

module _ (r : Reader) (ix : Index) (b : ℕ) where
  abbrev Steps : Session → Type 0
  Steps d = ByteStep r ix d

  -- A byte past section 4 is refused with its rollback.
  long_step : is_whole r ≡ true → Steps (byte_came r ix b)
  unfolding byte_came turned_down
  long_step w = rw w (turned_step r ix (refused 13) long)

  kind_step : Steps (kind_came r ix b)
  unfolding kind_came
  kind_step =
      pick_both Steps (eqb b (r.section + 1)) _ _ (moves refl refl refl) (turned_step r ix (refused 18) kind)

  count_goes : Goes r r.taken (count_came r b)
  unfolding count_came
  count_goes =
      pick_both (Goes r r.taken) (eqb r.got 1) _ _ (refl, refl, refl) (owing_goes r (count_byte r.owed b) r.taken)

  entry_goes : Goes r r.taken (entry_came r b)
  unfolding entry_came
  entry_goes =
      pick_both (Goes r r.taken) (in_hash r) _ _ (refl, refl, refl) (refl, refl, refl)

  abbrev ins : Outcome
  ins = inserts ix r.hash (name_byte r.key b) (entry_place r)

  module _ (small : entry_place r < 4294967296) where
    last_step : Steps (last_came r ix b)
    unfolding last_came
    last_step = go (insert_settled ix r.hash (name_byte r.key b) (entry_place r))
      where
        go : (ins.answer.number ≢ 0) ⊎ ((x : ℕ) × (ins.answer ≡ given x)) → Steps (came_of r ins)
        go (inl n) =
            rw (ne_eqb ins.answer.number 0 n, (insert_claims ix r.hash (name_byte r.key b) (entry_place r)).nothing_written n)
            (turned_step r ix ins.answer (entry r.hash (name_byte r.key b) (entry_place r) n))
        go (inr x) =
            let s = owing_goes r (r.owed - 1) (r.taken + 1) in
            rw (eq-eqb ins.answer.number 0 (ap (λ (a : Answer). a.number) x.1))
            (takes r.hash (name_byte r.key b) (entry_place r) x.0 small x.1 s.0 s.1 s.2)

    ahead_step : is_whole r ≡ false → Steps (byte_came r ix b)
    unfolding byte_came
    ahead_step w =
        let c = count_goes in
        let e = entry_goes in
        rw w
        (pick_both Steps (eqb r.got 0) _ _ kind_step
        (pick_both Steps (ltb r.got 3) _ _ (moves c.0 c.1 c.2)
        (pick_both Steps (ltb r.got 18) _ _ (moves e.0 e.1 e.2) last_step)))

    came_step : Steps (byte_came r ix b)
    came_step = go (is_whole r) refl
      where
        go : (t : Bool) → is_whole r ≡ t → Steps (byte_came r ix b)
        go true w = long_step w
        go false w = ahead_step w

-- A place is a 32-bit word.
place-word : {r : Reader} → FitReader r → entry_place r < 4294967296
unfolding entry_place
place-word {r} h = go (dec_lt r.got 3)
  where
    go : Dec (r.got < 3) → entry_place r < 4294967296
    go (yes l) = let a = h.header l in omega arith
    go (no n) = let a = h.entries (omega arith) in let b = a.1 in omega arith

pub step : (r : Reader) (ix : Index) (b : ℕ) → FitReader r → ByteStep r ix (byte_came r ix b)
step r ix b h = came_step r ix b (place-word h)
