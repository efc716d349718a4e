-- What is printed of a dump, by what is found of its tree.
use mathlib.Core.Path.{◌≡◌, refl, ap, sym, ◌∙◌}
use mathlib.Core.Logic.{◌↔◌}
use mathlib.Core.Bool.{Bool, true, false}
use mathlib.Core.List.{List, [], ◌∷◌, ◌++◌}
use Prim.Native.Nat.{ℕ, ◌+◌, ◌*◌, ◌<◌, ◌≤◌}
use native.Mathlib.Omega.{arith}
use native.Mathlib.Decide.{dec_le}
use lib.ListN.{length, get_or}
use lib.Dec.{eqb}
use borrow.Author.Tests.{le-leb, lt-leb}
use Rattle.slots.specs.Words.{null, pick}
use Rattle.tree_rules.specs.Find.{slots_of}
use Rattle.index_rules.specs.Live.{Live, Fit}
use Rattle.index_rules.specs.Sound.{Sound}
use Rattle.index_rules.specs.Index.{Index, length_of}
use Rattle.index_rules.proofs.Fit.{half}
use Rattle.script_rules.specs.Text.{decimal}
use Rattle.script_rules.specs.Letters.{letters}
use Rattle.script_rules.specs.Blanks.{blanks_filled, piece, is_blank, says}
use Rattle.night_rules.specs.Account.{Account}
use Rattle.night_rules.specs.Reason.{Reason}
use Rattle.night_rules.specs.Breach.{Breach, BreaksAt, breach}
use Rattle.night_rules.specs.Finding.{Finding, sound, broken, unfit, examined}
use Rattle.night_rules.specs.Why.{why}
use Rattle.night_rules.proofs.Claims as night-rules
use Rattle.dump_rules.specs.Dump.{dump_bytes, DumpOf, whole, measured, loaded}
use Rattle.dump_rules.specs.Sentence.{sentence, opening, broken_text, finding_text, tree_text, index_text, measure_text, why_text}
use Rattle.dump_rules.specs.Claims.{Dumps}
use Rattle.dump_rules.proofs.Dumping.{taken, back}

-- The first letter tells a sound tree's text from every other.
opens_T : (rule slot : ℕ) (l : List ℕ) → get_or (opening rule slot ++ l) 0 0 ≡ 84
unfolding opening blanks_filled piece is_blank
opens_T rule slot l = go (eqb slot null)
  where
    go : (b : Bool) → get_or (pick b (says "T# header: " (rule ∷ (slot ∷ []))) (says "T# slot #: " (rule ∷ (slot ∷ []))) ++ l) 0 0 ≡ 84
    go true = refl
    go false = refl

broken_T : (n : ℕ) (cells : List ℕ) (w : Account) (b : Breach) → get_or (broken_text n cells w b) 0 0 ≡ 84
unfolding broken_text
broken_T n cells w b = opens_T w.rule w.slot _

sounds : (t : Live) (f : Finding) → finding_text t f ≡ letters "sound\n" → f ≡ sound
unfolding blanks_filled piece is_blank
sounds t sound e = refl
sounds t (broken w b) e =
    let z = ap (λ (l : List ℕ). get_or l 0 0) e in absurd (omega (arith, broken_T (slots_of t.names) t.cells w b))
sounds t unfit e = let z = ap (λ (l : List ℕ). get_or l 0 0) e in absurd (omega arith)

module _ {n c : ℕ} {ix : Index} (d : DumpOf n c ix) where
  abbrev fit : Fit ix.live
  fit =
      record {
        capacity = n;
        least = d.least;
        most = d.most;
        two = d.names;
        seven = d.cells;
        three = d.head;
        each = d.sizes;
      }

  index_text_lem : why_text (dump_bytes n c ix) ≡ index_text c ix
  unfolding why_text
  index_text_lem = rw (taken d, back d)

  within : length_of ix.lines ≤ c → why_text (dump_bytes n c ix) ≡ finding_text ix.live (examined ix.live)
  unfolding index_text tree_text
  within h = index_text_lem ∙ simp (le-leb (length_of ix.lines) c h)

  past : c < length_of ix.lines
      → why_text (dump_bytes n c ix)
      ≡ letters "unfit: the journal's length "
      ++ (decimal (length_of ix.lines) ++ (letters " passes its " ++ (decimal c ++ letters " lines\n")))
  unfolding index_text blanks_filled piece is_blank
  past h = index_text_lem ∙ simp (lt-leb (length_of ix.lines) c h)

  pub dumps : Dumps n c ix
  dumps =
      record {
        taken = taken d;
        back = back d;
        sound = (λ e. only e (dec_le (length_of ix.lines) c), λ p. is p.0 p.1);
        broken = reason;
        journal = past;
      }
    where
      is : Sound ix.live → length_of ix.lines ≤ c → why_text (dump_bytes n c ix) ≡ letters "sound\n"
      is s h = within h ∙ ap (finding_text ix.live) (((night-rules.claims).examined ix.live).sound-when.1 (fit, s))

      only : why_text (dump_bytes n c ix) ≡ letters "sound\n" → Dec (length_of ix.lines ≤ c) → Sound ix.live × (length_of ix.lines ≤ c)
      only e (yes h) =
          let f = sounds ix.live (examined ix.live) (sym (within h) ∙ e) in
          ((((night-rules.claims).examined ix.live).sound-when.0 f).1, h)
      only e (no m) =
          let z = ap (λ (l : List ℕ). get_or l 0 0) (sym (past (omega arith)) ∙ e) in absurd (omega arith)

      reason : length_of ix.lines ≤ c → (w : Account) → Reason ix.live w
          → (b : Breach) × BreaksAt ix.live w b × (why_text (dump_bytes n c ix) ≡ broken_text n ix.live.cells w b)
      reason h w r = (
        breach ix.live w,
        (night-rules.claims).breaches ix.live fit w r,
        within h ∙ ap (finding_text ix.live) (((night-rules.claims).examined ix.live).broken_when fit w r)
            ∙ ap (λ m. broken_text m ix.live.cells w (breach ix.live w)) (half fit),
      )
