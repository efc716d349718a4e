-- The bytes and the entries of a part that is a byte longer: those of the part, and what that byte adds.
use mathlib.Core.Path.{◌≡◌, refl, ap, sym, ◌∙◌}
use mathlib.Core.List.{List, [], ◌∷◌, ◌++◌, append-nil, append_assoc}
use Prim.Native.Nat.{ℕ, suc, ◌+◌, ◌*◌, ◌/◌, ◌%◌, ◌^◌, ◌<◌, ◌≤◌}
use native.Mathlib.Nat.{mod-eq_of_lt}
use native.Mathlib.Omega.{arith}
use lib.ListN.{length, length-append}
use Rattle.slots.specs.Pairs.{Pair}
use Rattle.index_rules.specs.Contents.{Entry, entry}
use Rattle.upload_rules.specs.Upload.{pair_bytes, pairs_bytes, header_bytes, section_bytes, sections_bytes, Sections, none, more}
use Rattle.endian.specs.Bytes.{little}
use Rattle.upload_rules.specs.Upload.{Upload, entries_at, entries_of}
use Rattle.upload_rules.specs.Parts.{between, kinded, counting, within, part_bytes, part_entries}
use Rattle.upload_rules.proofs.Sections.{pairs_in, pairs_one, header_length, sections_length, sections_one, entries_at_one}
use Rattle.upload_rules.proofs.Sections.{entries_of_one, pairs_length}

-- Where the next entry of a section begins.
abbrev pub placed : List (List Pair) → List Pair → ℕ
placed ss ps = 3 * length ss + 3 + 16 * (pairs_in ss + length ps)

-- The entry of the next pair.
abbrev pub next_entry : List (List Pair) → List Pair → Pair → Entry
next_entry ss ps p = entry p.hash p.key (placed ss ps)

pub pairs_in_most : {ss : List (List Pair)} → Sections ss → pairs_in ss ≤ 65535 * length ss
unfolding pairs_in
pairs_in_most none = omega arith
pairs_in_most (more {s} {ss} h k w) = let a = pairs_in_most w in omega arith

-- No section has more than 65,535 entries, so an upload is short.
pub upload_short : {l : List ℕ} {ss : List (List Pair)} → Upload l ss → length l < 4194304
upload_short {ss = ss} u = let e = ap length u.is ∙ sections_length 1 ss in omega (arith, pairs_in_most u.fit, u.four)

-- The next entry begins where the bytes before it end.
pub placed_is : (ss : List (List Pair)) (c : ℕ) (ps : List Pair) → length (part_bytes (within ss c ps [])) ≡ placed ss ps
unfolding part_bytes
placed_is ss c ps = simp length-append (omega (arith, sections_length 1 ss, header_length (suc (length ss)) c, pairs_length ps))

-- An entry's place is a 32-bit word.
pub place-small : {ss : List (List Pair)} (ps : List Pair) {c : ℕ} → Sections ss → length ss < 4 → c < 2 ^ 16 → length ps < c
    → placed ss ps < 4294967296
place-small ps w f l g = omega (arith, pairs_in_most w)

module _ (ss : List (List Pair)) where
  pub bytes_kind : part_bytes (kinded ss) ≡ part_bytes (between ss) ++ (suc (length ss) ∷ [])
  unfolding part_bytes
  bytes_kind = refl

  pub bytes_low : (b : ℕ) → part_bytes (counting ss b) ≡ part_bytes (kinded ss) ++ (b ∷ [])
  unfolding part_bytes
  bytes_low b = sym (append_assoc (sections_bytes 1 ss) (suc (length ss) ∷ []) (b ∷ []))

  one_kind : 1 + length ss ≡ suc (length ss)
  one_kind = omega arith

  section_bytes_lem : (s : List Pair) → part_bytes (between (ss ++ (s ∷ []))) ≡ part_bytes (within ss (length s) s [])
  unfolding part_bytes section_bytes
  section_bytes_lem s =
      sections_one 1 ss s
      ∙ ap (λ (k : ℕ). sections_bytes 1 ss ++ (header_bytes k (length s) ++ pairs_bytes s)) one_kind
      ∙ ap (λ (x : List ℕ). sections_bytes 1 ss ++ (header_bytes (suc (length ss)) (length s) ++ x)) (sym (append-nil (pairs_bytes s)))

  pub bytes_high : (lo hi c : ℕ) → lo < 256 → hi < 256 → c ≡ lo + 256 * hi
      → part_bytes (within ss c [] []) ≡ part_bytes (counting ss lo) ++ (hi ∷ [])
  unfolding part_bytes header_bytes little pairs_bytes
  bytes_high lo hi c l h e =
      let a : c % 256 ≡ lo = omega arith in
      let q : c / 256 ≡ hi = omega arith in
      let b : c / 256 % 256 ≡ hi = rw q (mod-eq_of_lt h) in
      rw (a, b) (sym (append_assoc (sections_bytes 1 ss) (suc (length ss) ∷ (lo ∷ [])) (hi ∷ [])))

  pub bytes_none : (lo hi : ℕ) → lo < 256 → hi < 256 → 0 ≡ lo + 256 * hi
      → part_bytes (between (ss ++ ([] ∷ []))) ≡ part_bytes (counting ss lo) ++ (hi ∷ [])
  bytes_none lo hi l h e = section_bytes_lem [] ∙ bytes_high lo hi 0 l h e

  pub entries_none : part_entries (between (ss ++ ([] ∷ []))) ≡ part_entries (between ss)
  unfolding part_entries entries_at
  entries_none = entries_of_one 1 0 ss [] ∙ append-nil (entries_of 1 0 ss)

  pub entries_begun : (c : ℕ) → part_entries (within ss c [] []) ≡ part_entries (between ss)
  unfolding part_entries entries_at
  entries_begun c = append-nil (entries_of 1 0 ss)

  -- A section that is whole.
  pub bytes_whole : (s : List Pair) (c : ℕ) → length s ≡ c → part_bytes (between (ss ++ (s ∷ []))) ≡ part_bytes (within ss c s [])
  bytes_whole s c e = section_bytes_lem s ∙ ap (λ (n : ℕ). part_bytes (within ss n s [])) e

  pub entries_whole : (s : List Pair) (c : ℕ) → part_entries (between (ss ++ (s ∷ []))) ≡ part_entries (within ss c s [])
  unfolding part_entries
  entries_whole s c =
      let n = header_length (suc (length ss)) c in
      let z : 0 + length (sections_bytes 1 ss) + 3 ≡ length (sections_bytes 1 ss) + length (header_bytes (suc (length ss)) c) =
      omega arith in
      entries_of_one 1 0 ss s ∙ ap (λ (a : ℕ). entries_of 1 0 ss ++ entries_at a s) z

  module _ (c : ℕ) (ps : List Pair) (held : List ℕ) where
    pub bytes_more : (l : List ℕ) → part_bytes (within ss c ps (held ++ l)) ≡ part_bytes (within ss c ps held) ++ l
    unfolding part_bytes
    bytes_more l = simp append_assoc

    pub entries_more : (l : List ℕ) → part_entries (within ss c ps l) ≡ part_entries (within ss c ps held)
    unfolding part_entries
    entries_more l = refl

    pub bytes_pair : (p : Pair) → pair_bytes p ≡ held → part_bytes (within ss c (ps ++ (p ∷ [])) []) ≡ part_bytes (within ss c ps held)
    unfolding part_bytes
    bytes_pair p e =
        ap (λ (x : List ℕ). sections_bytes 1 ss ++ (header_bytes (suc (length ss)) c ++ x))
        (append-nil (pairs_bytes (ps ++ (p ∷ []))) ∙ pairs_one ps p ∙ ap (λ (x : List ℕ). pairs_bytes ps ++ x) e)

    pub entries_pair : (p : Pair)
        → part_entries (within ss c (ps ++ (p ∷ [])) []) ≡ part_entries (within ss c ps held) ++ (next_entry ss ps p ∷ [])
    unfolding part_entries
    entries_pair p =
        let n = header_length (suc (length ss)) c in
        let m = sections_length 1 ss in
        let from = length (sections_bytes 1 ss) + length (header_bytes (suc (length ss)) c) in
        let z : from + 16 * length ps ≡ placed ss ps = omega arith in
        ap (λ (x : List Entry). entries_of 1 0 ss ++ x)
        (entries_at_one from ps p ∙ ap (λ (a : ℕ). entries_at from ps ++ (entry p.hash p.key a ∷ [])) z)
        ∙ sym (append_assoc (entries_of 1 0 ss) (entries_at from ps) (next_entry ss ps p ∷ []))
