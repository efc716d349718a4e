-- Every claim of `Binning` holds: an answer is read back off its meaning.
use mathlib.Core.Path.{◌≡◌, refl, sym, ap, ◌∙◌}
use mathlib.Core.Logic.{◌≢◌}
use Prim.Native.Nat.{ℕ}
use native.Mathlib.Decide.{ℕ_discrete}
use native.Mathlib.Omega.{arith}
use lib.Bits.{and_zero_r}
use borrow.Author.Tests.{eq-eqb, ne_eqb}
use Rattle.std.specs.Prelude.{Result, Ok, Err}
use Rattle.slots.specs.Answers.{Answer, Value, some, none, given, refused}
use Rattle.slots.specs.declared.answer.Unfit.{Unfit}
use Rattle.slots.proofs.Laws.{told_apart}
use Rattle.set_rules.specs.Words.{empty, moved, list, tree, bad, bini}
use Rattle.set_rules.specs.Words.{Bin as SetBin}
use Rattle.sets.specs.Bins.{bin_as, home_of, binis}
use Rattle.sets.specs.Binning.{Binning}
use Rattle.sets.specs.declared.bin.Bin.{Bin}
use Rattle.sets.specs.declared.bin.Bin.TheVariants.{Empty, Moved, List, Tree, Bad}

abbrev bin_back : SetBin → Bin
bin_back empty = Empty
bin_back moved = Moved
bin_back (list slot) = List slot
bin_back (tree header) = Tree header
bin_back bad = Bad

bin_back_lem : (r : Bin) → bin_back (bin_as r) ≡ r
bin_back_lem Empty = refl
bin_back_lem Moved = refl
bin_back_lem (List slot) = refl
bin_back_lem (Tree header) = refl
bin_back_lem Bad = refl

bin_one_to_one : (a b : Bin) → bin_as a ≡ bin_as b → a ≡ b
bin_one_to_one = told_apart bin_as bin_back bin_back_lem

abbrev home_back : Value → Result ℕ Unfit
home_back (some i) = Ok i
home_back none = Err (record {})

home_back_lem : (r : Result ℕ Unfit) → home_back (home_of r).value ≡ r
home_back_lem (Ok i) = refl
home_back_lem (Err unfit) = refl

home_one_to_one : (a b : Result ℕ Unfit) → home_of a ≡ home_of b → a ≡ b
home_one_to_one = told_apart home_of (λ a. home_back a.value) home_back_lem

length_more : (len hash : ℕ) → len ≢ 0 → binis len hash ≡ given (bini len hash)
unfolding binis
length_more len hash n = simp (ne_eqb _ _ n)

length-zero : (len hash : ℕ) → binis len hash ≡ refused 1 → len ≡ 0
length-zero len hash e = go (ℕ_discrete len 0)
  where
    go : Dec (len ≡ 0) → len ≡ 0
    go (yes z) = z
    go (no n) =
        let same : given (bini len hash) ≡ refused 1 = sym (length_more len hash n) ∙ e in
        let z : ◌≡◌ {A = ℕ} 0 1 = ap (λ (a : Answer). a.number) same in
        absurd (omega arith)

zero-length : (len hash : ℕ) → len ≡ 0 → binis len hash ≡ refused 1
unfolding binis
zero-length len hash e = simp (eq-eqb _ _ e)

index-zero : (hash : ℕ) → bini 0 hash ≡ 0
unfolding bini
index-zero hash = and_zero_r hash

pub binning : Binning
binning =
    record {
      length-zero = λ len hash. (length-zero len hash, zero-length len hash);
      length_more = length_more;
      index-zero = index-zero;
      bin_one_to_one = bin_one_to_one;
      home_one_to_one = home_one_to_one;
      bin_of_one = λ n h w a b p q. bin_one_to_one a b (p ∙ sym q);
      bini_one = λ len hash a b p q. home_one_to_one a b (p ∙ sym q);
      index_one = λ len hash a b p q. p ∙ sym q;
      is_home_one = λ names length i x a b p q. p ∙ sym q;
      bin-word_one = λ lengths bins k i a b p q. p ∙ sym q;
      length-at_one = λ lengths k a b p q. p ∙ sym q;
      bins_before_one = λ lengths k a b p q. p ∙ sym q;
      fit_set_one = λ s a b p q. p ∙ sym q;
    }
