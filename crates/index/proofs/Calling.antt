-- Every claim of `Calling` holds: an answer is read back off its number and value, and the slices are those of the one outcome.
use mathlib.Core.Path.{◌≡◌, refl, ap, sym, ◌∙◌}
use mathlib.Core.List.{List}
use Prim.{Unit, tt}
use Rattle.std.specs.Prelude.{Result, Ok, Err}
use Prim.Native.Nat.{ℕ}
use lib.Dec.{eqb}
use Rattle.slots.specs.Words.{pick}
use Rattle.slots.specs.Answers.{Answer, Value, some, none}
use Rattle.slots.proofs.Laws.{told_apart}
use Rattle.index_rules.specs.Index.{Outcome}
use Rattle.index.specs.Calls.{inserted_of, presence_of}
use Rattle.index.specs.Fresh.{fresh_of}
use Rattle.index.specs.Calling.{CallReturned, outcome_of, Calling}
use Rattle.slots.specs.declared.answer.Unfit.{Unfit}
use Rattle.index.specs.declared.insert.InsertRefusal.{InsertRefusal}
use Rattle.index.specs.declared.insert.InsertRefusal.TheVariants.{Unfit as InsertUnfit, Damaged as InsertDamaged, Present}
use Rattle.index.specs.declared.insert.InsertRefusal.TheVariants.{Full, JournalFull as InsertJournalFull}
use Rattle.index.specs.declared.present.PairRefusal.{PairRefusal}
use Rattle.index.specs.declared.present.PairRefusal.TheVariants.{Unfit as PairUnfit, Damaged as PairDamaged}
use Rattle.index.specs.declared.present.PairRefusal.TheVariants.{Absent as PairAbsent, JournalFull as PairJournalFull}

abbrev insert_back : ℕ → Value → Result ℕ InsertRefusal
insert_back number (some slot) = pick (eqb number 0) (Ok slot) (Err (Present slot))
insert_back number none =
    Err (pick (eqb number 1) InsertUnfit (pick (eqb number 2) InsertDamaged (pick (eqb number 5) Full InsertJournalFull)))

insert_back_lem : (r : Result ℕ InsertRefusal) → insert_back (inserted_of r).number (inserted_of r).value ≡ r
insert_back_lem (Ok slot) = refl
insert_back_lem (Err InsertUnfit) = refl
insert_back_lem (Err InsertDamaged) = refl
insert_back_lem (Err (Present slot)) = refl
insert_back_lem (Err Full) = refl
insert_back_lem (Err InsertJournalFull) = refl

inserted_one_to_one : (a b : Result ℕ InsertRefusal) → inserted_of a ≡ inserted_of b → a ≡ b
inserted_one_to_one = told_apart inserted_of (λ a. insert_back a.number a.value) insert_back_lem

abbrev presence_back : ℕ → Value → Result ℕ PairRefusal
presence_back number (some slot) = Ok slot
presence_back number none =
    Err (pick (eqb number 1) PairUnfit (pick (eqb number 2) PairDamaged (pick (eqb number 4) PairAbsent PairJournalFull)))

presence_back_lem : (r : Result ℕ PairRefusal) → presence_back (presence_of r).number (presence_of r).value ≡ r
presence_back_lem (Ok slot) = refl
presence_back_lem (Err PairUnfit) = refl
presence_back_lem (Err PairDamaged) = refl
presence_back_lem (Err PairAbsent) = refl
presence_back_lem (Err PairJournalFull) = refl

presence_one_to_one : (a b : Result ℕ PairRefusal) → presence_of a ≡ presence_of b → a ≡ b
presence_one_to_one = told_apart presence_of (λ a. presence_back a.number a.value) presence_back_lem

abbrev fresh_back : Value → Result Unit Unfit
fresh_back (some value) = Ok tt
fresh_back none = Err (record {})

fresh_back_lem : (r : Result Unit Unfit) → fresh_back (fresh_of r).value ≡ r
fresh_back_lem (Ok made) = refl
fresh_back_lem (Err unfit) = refl

freshness_one_to_one : (a b : Result Unit Unfit) → fresh_of a ≡ fresh_of b → a ≡ b
freshness_one_to_one = told_apart fresh_of (λ a. fresh_back a.value) fresh_back_lem

-- Calls whose outcomes are one are one.
module _ {A : Type 0} (f : A → Answer) (apart : (a b : A) → f a ≡ f b → a ≡ b) where
  call : {a b : A} {n c h s l n' c' h' s' l' : List ℕ} → a ≡ b → n ≡ n' → c ≡ c' → h ≡ h' → s ≡ s' → l ≡ l'
      → ◌≡◌ {A = CallReturned A} (record { answer = a; names = n; cells = c; head = h; sizes = s; lines = l })
      (record { answer = b; names = n'; cells = c'; head = h'; sizes = s'; lines = l' })
  call e1 e2 e3 e4 e5 e6 = rw (e1, e2, e3, e4, e5, e6)

  pub one : (o : Outcome) (c d : CallReturned A) → outcome_of f c ≡ o → outcome_of f d ≡ o → c ≡ d
  one o c d p q =
      let e = p ∙ sym q in
      call
      (apart c.answer d.answer (ap (λ (w : Outcome). w.answer) e))
      (ap (λ (w : Outcome). w.left.live.names) e)
      (ap (λ (w : Outcome). w.left.live.cells) e)
      (ap (λ (w : Outcome). w.left.live.head) e)
      (ap (λ (w : Outcome). w.left.live.sizes) e)
      (ap (λ (w : Outcome). w.left.lines) e)

pub calling : Calling
calling =
    record {
      inserted_one_to_one = inserted_one_to_one;
      insert_sound_one = λ floor ix hash key p c d. one inserted_of inserted_one_to_one _ c d;
      insert_one = λ ix hash key p c d. one inserted_of inserted_one_to_one _ c d;
      raise_one = λ inserted floor a b p q. p ∙ sym q;
      lower_one = λ removed floor a b p q. p ∙ sym q;
      presence_one_to_one = presence_one_to_one;
      remove_sound_one = λ ix hash key c d. one presence_of presence_one_to_one _ c d;
      remove_one = λ ix hash key c d. one presence_of presence_one_to_one _ c d;
      replace_sound_one = λ ix hash key p c d. one presence_of presence_one_to_one _ c d;
      replace_one = λ ix hash key p c d. one presence_of presence_one_to_one _ c d;
      freshness_one_to_one = freshness_one_to_one;
      fresh_one = λ ix c d. one fresh_of freshness_one_to_one _ c d;
    }
