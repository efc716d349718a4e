-- One check for a chunk: on a ready index the calls without the check are the calls, and what they leave is ready.
use mathlib.Core.Path.{◌≡◌, refl, ap, sym, ◌∙◌, subst}
use mathlib.Core.Logic.{◌≢◌}
use Rattle.std.specs.Prelude.{Option, None, Some, IfSome, Result, Err}
use mathlib.Core.List.{List, [], ◌∷◌}
use Prim.Native.Nat.{ℕ, zero, suc, ◌+◌, ◌<◌, ◌≤◌}
use native.Mathlib.Numerals.{add-one}
use native.Mathlib.Omega.{arith}
use lib.ListN.{length, drop, get_or}
use lib.Seq.{drop-cons}
use Rattle.std.proofs.lemmas.Option.{none-some}
use Rattle.slots.specs.Answers.{Answer, given, refused}
use Rattle.index_rules.specs.Index.{Index, Outcome, outcome}
use Rattle.index_rules.specs.Insert.{inserts}
use Rattle.index_rules.specs.Rollback.{rolls}
use Rattle.index_rules.specs.Calls.{insert_call}
use Rattle.index_rules.specs.Checked.{NoneBelow, Ready, sounds_index, raised_by, inserts_sound, rolls_sound}
use Rattle.index_rules.specs.Claims.{OnceChecked}
use Rattle.index_rules.proofs.Claims.{claims}
use Rattle.index.proofs.Singly.{insert_unfit, insert_damaged, rollback_unfit, rollback_damaged}
use Rattle.index.specs.Calls.{insert_refusal_of, inserted_of}
use Rattle.index.specs.declared.insert.InsertRefusal.{InsertRefusal}
use Rattle.index.specs.declared.insert.InsertRefusal.TheVariants.{Unfit, Damaged, Present, Full, JournalFull}
use Rattle.upload_rules.specs.Reader.{unsaid, said, Reader, FitReader}
use Rattle.upload_rules.specs.Reading.{Session, session, byte_came, byte_read, bytes_read}
use Rattle.upload_rules.proofs.Ranges.{byte_range}
use Rattle.reader.specs.Trusting.{EntryMade, Stepped}
use Rattle.reader.proofs.Coming.{read_on_lem, all_noted}

-- What was checked is ready from the floor that there is.
there : (ix : Index) {floor : Option ℕ} {f : ℕ} → IfSome floor (λ x. Ready ix x) → floor ≡ Some f → Ready ix f
there ix h e = subst (λ (o : Option ℕ). IfSome o (λ x. Ready ix x)) e h

pub rolls_on : (ix : Index) (m : ℕ) {o : Outcome} {floor : Option ℕ} {f : ℕ} → floor ≡ Some f → IfSome floor (λ x. Ready ix x)
    → o ≡ rolls_sound ix m
    → o ≡ rolls ix m
rolls_on ix m s r e =
    let p = (there ix r s).passes in
    e ∙ (claims.once_checked ix p.fit p.sound).rollback m

module _ (ix : Index) (hash key p : ℕ) where
  pub entry_made : {floor : ℕ} {a : Answer} {jx : Index} {raised : ℕ} → Ready ix floor → outcome a jx ≡ inserts_sound floor ix hash key p
      → raised ≡ raised_by a floor
      → EntryMade ix hash key p a (Some raised) jx
  entry_made {floor} {a} {jx} {raised} r e i =
      let once : OnceChecked ix r.passes.fit r.passes.sound = claims.once_checked ix r.passes.fit r.passes.sound in
      let same : outcome a jx ≡ inserts ix hash key p = e ∙ once.insert floor hash key p r.none in
      let left : jx ≡ (inserts ix hash key p).left = ap (λ (o : Outcome). o.left) same in
      let answer : a ≡ (inserts ix hash key p).answer = ap (λ (o : Outcome). o.answer) same in
      let again = once.again (insert_call hash key p) in
      let none = once.floor (insert_call hash key p) floor r.none in
      record {
        same = same;
        ready = subst (λ (x : Index). Ready x raised) (sym left)
            (record {
              passes = record { fit = again.0; sound = again.1 };
              none = subst (λ (n : ℕ). NoneBelow n (inserts ix hash key p).left.live)
                  (sym (i ∙ ap (λ (x : Answer). raised_by x floor) answer)) none;
            });
        denied = λ z. absurd (none-some _ (sym z));
      }

  pub entry_unfit : refused 1 ≡ sounds_index ix → EntryMade ix hash key p (refused 1) None ix
  entry_unfit e = record { same = insert_unfit ix e hash key p; ready = tt; denied = λ z. ((λ y. omega arith), rollback_unfit ix e) }

  pub entry_damaged : given 0 ≡ sounds_index ix → EntryMade ix hash key p (refused 2) None ix
  entry_damaged e =
      record { same = insert_damaged ix e hash key p; ready = tt; denied = λ z. ((λ y. omega arith), rollback_damaged ix e) }

-- An insert that is refused has a number.
pub insert_refused : {r : Result ℕ InsertRefusal} {e : InsertRefusal} → r ≡ Err e → (inserted_of r).number ≢ 0
insert_refused {r} {e} h z = go e (sym (ap (λ (x : Result ℕ InsertRefusal). (inserted_of x).number) h) ∙ z)
  where
    go : (e : InsertRefusal) → (insert_refusal_of e).number ≢ 0
    go Unfit y = omega arith
    go Damaged y = omega arith
    go (Present slot) y = omega arith
    go Full y = omega arith
    go JournalFull y = omega arith

-- A step that notes an answer.
pub step_down : {d : Session} {r : Reader} {ix : Index} → session r ix ≡ d → Stepped d r None ix
step_down e = record { same = e; ready = tt }

-- The bytes from a place on are the byte there and those after it; past the end there are none.
from : (l : List ℕ) (i : ℕ) → i < length l → drop i l ≡ get_or l i 0 ∷ drop (i + 1) l
from l i h = rw (add-one i) (drop-cons l i 0 h)

past : (l : List ℕ) (i : ℕ) → length l ≤ i → drop i l ≡ []
past [] zero h = refl
past [] (suc i) h = refl
past (b ∷ l) zero h = absurd (omega arith)
past (b ∷ l) (suc i) h = past l i (omega arith)

-- A turn of a chunk: the bytes from number i on come to what all of them come to, and the next one finds a reader in range.
pub record Turn (start : Session) (l : List ℕ) (r : Reader) (floor : Option ℕ) (ix : Index) (i : ℕ) : Type 0 where
  pub same : bytes_read (session r ix) (drop i l) ≡ bytes_read start l
  pub fit : FitReader r
  pub ready : IfSome floor (λ f. Ready ix f)
  pub within : i ≤ length l
  pub names : length ix.live.names ≡ length start.index.live.names
  pub cells : length ix.live.cells ≡ length start.index.live.cells
  pub head : length ix.live.head ≡ length start.index.live.head
  pub sizes : length ix.live.sizes ≡ length start.index.live.sizes
  pub lines : length ix.lines ≡ length start.index.lines

pub turn_start : (r : Reader) (ix : Index) (l : List ℕ) → FitReader r → Turn (session r ix) l r None ix 0
turn_start r ix l h =
    record {
      same = refl;
      fit = h;
      ready = tt;
      within = omega arith;
      names = refl;
      cells = refl;
      head = refl;
      sizes = refl;
      lines = refl;
    }

module _ {start : Session} {l : List ℕ} {r : Reader} {floor : Option ℕ} {ix : Index} {i : ℕ}
    (turn : Turn start l r floor ix i) where
  read_byte : {d : Session} → i < length l → d ≡ byte_read (session r ix) (get_or l i 0)
      → bytes_read d (drop (i + 1) l) ≡ bytes_read (session r ix) (drop i l)
  unfolding bytes_read
  read_byte h f = rw (from l i h, f)

  pub turn_on : {s : Reader} {floor' : Option ℕ} {jx : Index} → i < length l → get_or l i 0 < 256 → r.note ≡ unsaid
      → Stepped (byte_came r ix (get_or l i 0)) s floor' jx
      → length jx.live.names ≡ length ix.live.names
      → length jx.live.cells ≡ length ix.live.cells
      → length jx.live.head ≡ length ix.live.head
      → length jx.live.sizes ≡ length ix.live.sizes
      → length jx.lines ≡ length ix.lines
      → Turn start l s floor' jx (i + 1)
  turn_on h small note step n1 n2 n3 n4 n5 =
      let e = step.same ∙ read_on_lem r ix (get_or l i 0) note in
      record {
        same = read_byte h e ∙ turn.same;
        fit = subst (λ (x : Session). FitReader x.reader) (sym e) (byte_range (session r ix) (get_or l i 0) small turn.fit);
        ready = step.ready;
        within = omega arith;
        names = n1 ∙ turn.names;
        cells = n2 ∙ turn.cells;
        head = n3 ∙ turn.head;
        sizes = n4 ∙ turn.sizes;
        lines = n5 ∙ turn.lines;
      }

  -- After an answer is noted the bytes left change nothing.
  pub turn_noted : {a : Answer} → r.note ≡ said a → session r ix ≡ bytes_read start l
  turn_noted note = sym (all_noted r ix note (drop i l)) ∙ turn.same

  pub turn_end : length l ≤ i → session r ix ≡ bytes_read start l
  unfolding bytes_read
  turn_end h = let none : session r ix ≡ bytes_read (session r ix) (drop i l) = rw (past l i h) in none ∙ turn.same
