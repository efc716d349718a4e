-- The run arrives at each part whose entries can be taken: section by section, pair by pair, byte by byte.
use mathlib.Core.Path.{◌≡◌, refl, ap, sym, ◌∙◌, subst}
use mathlib.Core.Logic.{◌≢◌}
use mathlib.Core.List.{List, [], ◌∷◌, ◌++◌, append-nil, append_assoc}
use Prim.Native.Nat.{ℕ, suc, ◌+◌, ◌/◌, ◌%◌, ◌^◌, ◌<◌, ◌≤◌}
use native.Mathlib.Omega.{arith}
use lib.ListN.{length, take, drop, get_or, length-append}
use lib.Seq.{take_all, take-suc, take_at, drop_at, length-take-le}
use Rattle.slots.specs.Pairs.{Pair, pair}
use Rattle.slots.specs.Answers.{given}
use Rattle.index_rules.specs.Insert.{inserts}
use Rattle.index_rules.specs.Sound.{Sound}
use Rattle.index_rules.specs.Index.{Index, FitIndex}
use Rattle.index_rules.specs.Contents.{Entry, entry, contents}
use Rattle.index_rules.specs.Calls.{Places}
use Rattle.upload_rules.specs.Upload as U
use Rattle.upload_rules.specs.Upload.{pair_bytes, header_bytes, section_bytes, sections_bytes, entries_at}
use Rattle.endian.specs.Bytes.{Bytes, another, little}
use Rattle.upload_rules.specs.Upload.{entries_of}
use Rattle.upload_rules.specs.Parts.{UploadPart, between, within, part_entries, Partial, whole, kind, low, entries, Enters}
use Rattle.endian.specs.Bytes.{number_of}
use Rattle.endian.proofs.Endian.{little-length, number_little}
use Rattle.upload_rules.proofs.Differing.{differ_front, differ_next}
use Rattle.upload_rules.proofs.Sections.{length_one, pair-length, pair_bytes_lem, sections_more}
use Rattle.upload_rules.proofs.Moving.{Spelled, spell, pair_at, bytes_take}
use Rattle.upload_rules.proofs.Growing.{next_entry, place-small, entries_whole, entries_pair}
use Rattle.upload_rules.proofs.Entering as E
use Rattle.upload_rules.proofs.Running.{At, at_start, at_kind, at_low, at_high, at_none, at_entry, at_more, at_whole}

-- A front of entries that can be taken can be taken.
can_front : (ix : Index) (h : Sound ix.live) (es fs : List Entry) → Enters ix h (es ++ fs) → Enters ix h es
can_front ix h es fs c =
    let a = length-append es fs in
    record { differ = differ_front es fs (contents h) c.differ; room = omega (arith, c.room); journal = omega (arith, c.journal) }

entries_at_append : (from : ℕ) (l k : List Pair) → (j : ℕ) × (entries_at from (l ++ k) ≡ entries_at from l ++ entries_at j k)
unfolding entries_at
entries_at_append from [] k = (from, refl)
entries_at_append from (p ∷ l) k =
    let a = entries_at_append (from + length (pair_bytes p)) l k in (a.0, ap (λ (x : List Entry). entry p.hash p.key from ∷ x) a.1)

entries_of_append : (k from : ℕ) (ss ts : List (List Pair))
    → (fs : List Entry) × (entries_of k from (ss ++ ts) ≡ entries_of k from ss ++ fs)
unfolding entries_of
entries_of_append k from [] ts = (entries_of k from ts, refl)
entries_of_append k from (s ∷ ss) ts =
    let a = entries_of_append (suc k) (from + length (section_bytes k s)) ss ts in
    let first = entries_at (from + length (header_bytes k (length s))) s in
    (a.0, ap (λ (x : List Entry). first ++ x) a.1 ∙ sym (append_assoc first _ a.0))

-- The pair of sixteen bytes is one.
pub pair_back : (p q : Pair) → p.hash < 2 ^ 64 → p.key < 2 ^ 64 → q.hash < 2 ^ 64 → q.key < 2 ^ 64 → pair_bytes p ≡ pair_bytes q → p ≡ q
unfolding pair_bytes
pair_back p q a b c d e =
    let hash : (r : Pair) → r.hash < 2 ^ 64 → number_of (take 8 (little 8 r.hash ++ little 8 r.key)) ≡ r.hash =
    λ r s. ap number_of (take_at (little 8 r.hash) (little 8 r.key) 8 (little-length 8 r.hash))
    ∙ number_little 8 r.hash (omega arith) in
    let key : (r : Pair) → r.key < 2 ^ 64 → number_of (drop 8 (little 8 r.hash ++ little 8 r.key)) ≡ r.key =
    λ r s. ap number_of (drop_at (little 8 r.hash) (little 8 r.key) 8 (little-length 8 r.hash))
    ∙ number_little 8 r.key (omega arith) in
    let h : p.hash ≡ q.hash = sym (hash p a) ∙ ap (λ (l : List ℕ). number_of (take 8 l)) e ∙ hash q c in
    let k : p.key ≡ q.key = sym (key p b) ∙ ap (λ (l : List ℕ). number_of (drop 8 l)) e ∙ key q d in
    λ i. pair (h i) (k i)

-- A pair's first fifteen bytes and its last.
pub record Spelt (p : Pair) : Type 0 where
  pub held : List ℕ
  pub last : ℕ
  pub fifteen : length held ≡ 15
  pub spelled : Spelled held last p

bytes_last : (l : List ℕ) {b : ℕ} → Bytes (l ++ (b ∷ [])) → b < 256
bytes_last [] (another h k) = h
bytes_last (x ∷ l) (another h k) = bytes_last l k

pub spelt : (p : Pair) → p.hash < 2 ^ 64 → p.key < 2 ^ 64 → Spelt p
spelt p a b =
    let l = pair_bytes p in
    let n = pair-length p in
    let held = take 15 l in
    let last = get_or l 15 0 in
    let is : held ++ (last ∷ []) ≡ l = sym (take-suc l 15 0 (omega arith)) ∙ take_all 16 l (omega arith) in
    let k : Bytes (held ++ (last ∷ [])) = rw is (pair_bytes_lem p) in
    let fifteen : length held ≡ 15 = length-take-le 15 l (omega arith) in
    let s = spell (bytes_take 15 (pair_bytes_lem p)) (bytes_last held k) fifteen in
    let same : pair_at held last ≡ p = pair_back (pair_at held last) p s.hash_small s.key_small a b (s.bytes ∙ is) in
    record { held = held; last = last; fifteen = fifteen; spelled = subst (Spelled held last) same s }

-- A list that is not empty has a last element.
record Lasting (l : List Pair) : Type 0 where
  init : List Pair
  last : Pair
  is : l ≡ init ++ (last ∷ [])

lasting : (q : Pair) (qs : List Pair) → Lasting (q ∷ qs)
lasting q [] = record { init = []; last = q; is = refl }
lasting q (r ∷ rs) = let a = lasting r rs in record { init = q ∷ a.init; last = a.last; is = ap (λ (l : List Pair). q ∷ l) a.is }

pairs_front : (l k : List Pair) → U.Pairs (l ++ k) → U.Pairs l
pairs_front [] k w = U.none
pairs_front (p ∷ l) k (U.more a b w) = U.more a b (pairs_front l k w)

pairs_last : (l : List Pair) {p : Pair} → U.Pairs (l ++ (p ∷ [])) → (p.hash < 2 ^ 64) × (p.key < 2 ^ 64)
pairs_last [] (U.more a b w) = (a, b)
pairs_last (q ∷ l) (U.more a b w) = pairs_last l w

module _ (ix : Index) (fits : FitIndex ix) (h : Sound ix.live) (words : Places (contents h)) where
  abbrev Came : UploadPart → Type 0
  Came part = At ix fits h words part

  abbrev Can : List Entry → Type 0
  Can es = Enters ix h es

  -- The entries of a part that came before are a front.
  can_within : (ss : List (List Pair)) (c : ℕ) (l k : List Pair) (held : List ℕ) → Can (part_entries (within ss c (l ++ k) held))
      → Can (part_entries (within ss c l []))
  unfolding part_entries
  can_within ss c l k held w =
      let from = length (sections_bytes 1 ss) + length (header_bytes (suc (length ss)) c) in
      let a = entries_at_append from l k in
      can_front ix h (entries_of 1 0 ss ++ entries_at from l) (entries_at a.0 k)
      (subst Can
      (ap (λ (x : List Entry). entries_of 1 0 ss ++ x) a.1
      ∙ sym (append_assoc (entries_of 1 0 ss) (entries_at from l) (entries_at a.0 k))) w)

  can_whole : (ss : List (List Pair)) (c : ℕ) (l : List Pair) (held : List ℕ) → Can (part_entries (within ss c l held))
      → Can (part_entries (between ss))
  unfolding part_entries
  can_whole ss c l held w = can_front ix h (entries_of 1 0 ss) _ w

  can_between : (ss ts : List (List Pair)) → Can (part_entries (between (ss ++ ts))) → Can (part_entries (between ss))
  unfolding part_entries
  can_between ss ts w = let a = entries_of_append 1 0 ss ts in can_front ix h (entries_of 1 0 ss) a.0 (subst Can a.1 w)

  module _ {ss : List (List Pair)} (four : length ss < 4) {c : ℕ} (wide : c < 2 ^ 16) (sections : U.Sections ss) where
    pub at_held : {ps : List Pair} (held l : List ℕ) → length held + length l ≤ 15 → Came (within ss c ps held)
        → Came (within ss c ps (held ++ l))
    at_held {ps} held [] n a = subst (λ (x : List ℕ). Came (within ss c ps x)) (sym (append-nil held)) a
    at_held {ps} held (b ∷ l) n a =
        let o = length_one held b in
        subst (λ (x : List ℕ). Came (within ss c ps x)) (append_assoc held (b ∷ []) l)
        (at_held (held ++ (b ∷ [])) l (omega arith) (at_entry ix fits h words four b (omega arith) a))

    module _ (ps : List Pair) (p : Pair) (a : p.hash < 2 ^ 64) (b : p.key < 2 ^ 64)
        (can : Can (part_entries (within ss c (ps ++ (p ∷ [])) []))) (before : Came (within ss c ps [])) where
      sp : Spelt p
      sp = spelt p a b

      there : Came (within ss c ps sp.held)
      there = let f = sp.fifteen in at_held [] sp.held (omega arith) before

      entry_can : Can (part_entries (within ss c ps sp.held) ++ (next_entry ss ps p ∷ []))
      entry_can = subst Can (entries_pair ss c ps sp.held p) can

      taking : length ps < c
          → (x : ℕ) × ((inserts there.index (next_entry ss ps p).hash (next_entry ss ps p).key (next_entry ss ps p).at).answer ≡ given x)
          × E.Taken ix fits h words (part_entries (within ss c ps sp.held) ++ (next_entry ss ps p ∷ []))
          (inserts there.index (next_entry ss ps p).hash (next_entry ss ps p).key (next_entry ss ps p).at).left
      taking l =
          let es = part_entries (within ss c ps sp.held) in
          let o = length_one es (next_entry ss ps p) in
          let r = entry_can.room in
          let j = entry_can.journal in
          E.takes_one ix fits h words there.taken (next_entry ss ps p) (place-small ps sections four wide l)
          (differ_next es (next_entry ss ps p) (contents h) entry_can.differ) (omega arith) (omega arith)

      pub pair-more : length ps + 1 < c → Came (within ss c (ps ++ (p ∷ [])) [])
      pair-more l =
          let t = taking (omega arith) in at_more ix fits h words four sp.last sp.fifteen sp.spelled there t.0 t.1 t.2 l

      pub pair_whole : length ps + 1 ≡ c → Came (between (ss ++ ((ps ++ (p ∷ [])) ∷ [])))
      pair_whole l =
          let t = taking (omega arith) in at_whole ix fits h words four sp.last sp.fifteen sp.spelled there t.0 t.1 t.2 l

    pub at_pairs : (ps qs : List Pair) → length ps + length qs < c → U.Pairs qs → Can (part_entries (within ss c (ps ++ qs) []))
        → Came (within ss c ps []) → Came (within ss c (ps ++ qs) [])
    at_pairs ps [] l w can a = subst (λ (x : List Pair). Came (within ss c x [])) (sym (append-nil ps)) a
    at_pairs ps (q ∷ qs) l (U.more x y w) can a =
        let e = append_assoc ps (q ∷ []) qs in
        let o = length_one ps q in
        let all : Can (part_entries (within ss c ((ps ++ (q ∷ [])) ++ qs) [])) =
        subst (λ (k : List Pair). Can (part_entries (within ss c k []))) (sym e) can in
        subst (λ (k : List Pair). Came (within ss c k [])) e
        (at_pairs (ps ++ (q ∷ [])) qs (omega arith) w all (pair-more ps q x y (can_within ss c (ps ++ (q ∷ [])) qs [] all) a (omega arith)))

    -- The header of a section that is not empty.
    pub at_header : c ≢ 0 → Came (between ss) → Came (within ss c [] [])
    at_header n a =
        at_high ix fits h words four (c % 256) (c / 256) c (omega arith) (omega arith) (omega arith) n
        (at_low ix fits h words four (c % 256) (at_kind ix fits h words four a))

  pub at_section : {ss : List (List Pair)} (s : List Pair) → length ss < 4 → U.Sections ss → U.Pairs s → length s < 2 ^ 16
      → Can (part_entries (between (ss ++ (s ∷ [])))) → Came (between ss) → Came (between (ss ++ (s ∷ [])))
  at_section {ss} [] f w q l can a =
      at_none ix fits h words f 0 0 (omega arith) (omega arith) (omega arith) (at_low ix fits h words f 0 (at_kind ix fits h words f a))
  at_section {ss} (p ∷ ps) f w q l can a = go (lasting p ps) can q l
    where
      go : Lasting (p ∷ ps) → Can (part_entries (between (ss ++ ((p ∷ ps) ∷ [])))) → U.Pairs (p ∷ ps) → length (p ∷ ps) < 2 ^ 16
          → Came (between (ss ++ ((p ∷ ps) ∷ [])))
      go v can q l =
          let s = v.init ++ (v.last ∷ []) in
          let c = length (p ∷ ps) in
          let n : c ≡ length v.init + 1 = ap length v.is ∙ length_one v.init v.last in
          let can2 : Can (part_entries (within ss c s [])) =
          subst (λ (k : List Pair). Can (part_entries (within ss c k []))) v.is (subst Can (entries_whole ss (p ∷ ps) c) can) in
          let q2 : U.Pairs s = subst U.Pairs v.is q in
          let z = pairs_last v.init q2 in
          let b = at_header f l w (λ e. omega arith) a in
          let d =
          at_pairs f l w [] v.init (omega arith) (pairs_front v.init (v.last ∷ []) q2)
          (can_within ss c v.init (v.last ∷ []) [] can2) b in
          subst (λ (k : List Pair). Came (between (ss ++ (k ∷ [])))) (sym v.is)
          (pair_whole f l w v.init v.last z.0 z.1 can2 d (omega arith))

  at_sections : (ss ts : List (List Pair)) → length ss + length ts ≤ 4 → U.Sections ss → U.Sections ts
      → Can (part_entries (between (ss ++ ts))) → Came (between ss) → Came (between (ss ++ ts))
  at_sections ss [] l w v can a = subst (λ (k : List (List Pair)). Came (between k)) (sym (append-nil ss)) a
  at_sections ss (t ∷ ts) l w (U.more q n v) can a =
      let e = append_assoc ss (t ∷ []) ts in
      let o = length_one ss t in
      let all : Can (part_entries (between ((ss ++ (t ∷ [])) ++ ts))) =
      subst (λ (k : List (List Pair)). Can (part_entries (between k))) (sym e) can in
      subst (λ (k : List (List Pair)). Came (between k)) e
      (at_sections (ss ++ (t ∷ [])) ts (omega arith) (sections_more w q n) v all
      (at_section t (omega arith) w q n (can_between (ss ++ (t ∷ [])) ts all) a))

  pub arrives : {part : UploadPart} → Partial part → Can (part_entries part) → Came part
  unfolding part_entries
  arrives (whole {ss} w l) can = at_sections [] ss (omega arith) U.none w can (at_start ix fits h words)
  arrives (kind {ss} w f) can = at_kind ix fits h words f (at_sections [] ss (omega arith) U.none w can (at_start ix fits h words))
  arrives (low {ss} {b} w f l) can =
      at_low ix fits h words f b (at_kind ix fits h words f (at_sections [] ss (omega arith) U.none w can (at_start ix fits h words)))
  arrives (entries {ss} {count = c} {ps} {held} w f l q g k e) can =
      let a = at_sections [] ss (omega arith) U.none w (can_whole ss c ps held can) (at_start ix fits h words) in
      let b = at_header f l w (λ z. omega arith) a in
      at_held f l w [] held (omega arith) (at_pairs f l w [] ps (omega arith) q can b)
