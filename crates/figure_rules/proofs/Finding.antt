-- Each used slot of an accepted set is found from table 0 by its own pair, and a hit has a look; so the used slots are the entries, and a
-- sum over them is one over the entries.
use mathlib.Core.Path.{◌≡◌, refl, ap, ◌∙◌}
use mathlib.Core.Logic.{◌↔◌}
use mathlib.Core.List.{List}
use Prim.Native.Nat.{ℕ, ◌*◌, ◌<◌, ◌≤◌}
use native.Mathlib.Decide.{dec_lt}
use native.Mathlib.Omega.{arith}
use lib.ListN.{length}
use Rattle.slots.specs.Words.{name_of, hash_part, key_part}
use Rattle.slots.specs.Answers.{given}
use Rattle.tree_rules.specs.Find.{Search, slots_of}
use Rattle.tree_rules.specs.Tree.{times}
use Rattle.tree_rules.proofs.Counting.{tally_same}
use Rattle.index_rules.specs.Sound.{used}
use Rattle.set_rules.specs.Words.{Set, Fit, tables_of}
use Rattle.set_rules.specs.Accepted.{Accepted}
use Rattle.set_rules.specs.Held.{EntryFrom}
use Rattle.set_rules.specs.Lookup.{lookups, Hit}
use Rattle.set_rules.proofs.Claims.{claims as set-claims}
use Rattle.figure_rules.specs.Added.{own_search, looks_of, over_entries, EntriesOnce, sum_over}
use Rattle.figure_rules.specs.Tally.{slot_looks}
use Rattle.figure_rules.proofs.Sums.{tally_list}

module _ (s : Set) (fit : Fit s) where
  some_table : 0 < tables_of s
  some_table = omega (arith, fit.least)

  -- The model's looks are those of a lookup from table 0.
  pub looks_are : (x : ℕ) → slot_looks s x ≡ looks_of s x
  unfolding slot_looks own_search
  looks_are x = ap (λ (r : Search). length r.looks) (set-claims.walked.looking_fit s fit 0 _ _ some_table)

  -- A hit has a look.
  hit_looks : (hash key x : ℕ) → (lookups s 0 hash key).answer ≡ given x → 1 ≤ length (lookups s 0 hash key).looks
  hit_looks hash key x e = go (((set-claims.walked.looking s 0 hash key).at x).0 e).2
    where
      go : Hit s 0 hash key x → 1 ≤ length (lookups s 0 hash key).looks
      go (Hit.in_list c b h) =
          let z = ((set-claims.walked.looks s fit 0 hash key some_table).in_list c b).hit x e in omega (arith, z.1)
      go (Hit.in_tree c b h) =
          let z = ((set-claims.walked.looks s fit 0 hash key some_table).in_tree c b).hit x e in omega (arith, z.1)

  pub looks_most : (x : ℕ) → looks_of s x ≤ slots_of s.names
  unfolding own_search
  looks_most x = (set-claims.walked.looking s _ _ _).most

  pub slots_most : slots_of s.names ≤ 4096
  slots_most = let a = fit.two in let b = fit.slots_most in omega arith

  module _ (acc : Accepted s) where
    -- The used slots are the entries.
    pub used-entry : (x : ℕ) → x < slots_of s.names → (used s.cells x ≡ 1) ↔ EntryFrom s 0 x
    used-entry x b =
        let w = set-claims.walked.whole_walk s fit acc 0 some_table in
        (λ e. (w.entries x).0 (omega (arith, w.all refl x b)), λ f. omega (arith, w.all refl x b, w.once x, (w.entries x).1 f))

    pub used-found : (x : ℕ) → x < slots_of s.names → used s.cells x ≡ 1 → (own_search s x).answer ≡ given x
    unfolding own_search
    used-found x b e =
        let w = set-claims.walked.whole_walk s fit acc 0 some_table in (w.agree x).0 ((w.entries x).1 ((used-entry x b).0 e))

    pub used_looks : (x : ℕ) → x < slots_of s.names → used s.cells x ≡ 1 → 1 ≤ looks_of s x
    unfolding own_search
    used_looks x b e = hit_looks (name_of s.names x hash_part) (name_of s.names x key_part) x (used-found x b e)

    entry_inside : (x : ℕ) → EntryFrom s 0 x → x < slots_of s.names
    entry_inside x f =
        let w = set-claims.walked.whole_walk s fit acc 0 some_table in
        go (((set-claims.walked.looking s 0 _ _).at x).0 ((w.agree x).0 ((w.entries x).1 f))).2
      where
        go : Hit s 0 (name_of s.names x hash_part) (name_of s.names x key_part) x → x < slots_of s.names
        go (Hit.in_list c b h) = h.inside
        go (Hit.in_tree c b h) = h.inside

    used-times : (l : List ℕ) → EntriesOnce s l → (x : ℕ) → x < slots_of s.names → used s.cells x ≡ times x l
    used-times l o x b = go (dec_lt 0 (times x l))
      where
        go : Dec (0 < times x l) → used s.cells x ≡ times x l
        go (yes m) =
            let w = set-claims.walked.whole_walk s fit acc 0 some_table in
            omega (arith, w.all refl x b, w.once x, o.once x, (w.entries x).1 ((o.entries x).0 (omega arith)))
        go (no n) = none (dec_lt 0 (used s.cells x))
          where
            none : Dec (0 < used s.cells x) → used s.cells x ≡ times x l
            none (yes m) =
                let w = set-claims.walked.whole_walk s fit acc 0 some_table in
                absurd (n ((o.entries x).1 ((w.entries x).0 (omega (arith, w.all refl x b)))))
            none (no k) = omega arith

    -- A sum over the used slots is one over the entries.
    pub sum_entries : (l : List ℕ) → EntriesOnce s l → (f : ℕ → ℕ) → over_entries s f ≡ sum_over l f
    sum_entries l o f =
        tally_same (slots_of s.names) (λ x. used s.cells x * f x) (λ x. times x l * f x)
        (λ x b. ap (λ (m : ℕ). m * f x) (used-times l o x b))
        ∙ tally_list (slots_of s.names) f l (λ x m. entry_inside x ((o.entries x).0 m))
