-- Every input is files, each after its length, and a rest: by the length of what is left to read.
use mathlib.Core.Path.{◌≡◌, refl, ap, sym, ◌∙◌}
use mathlib.Core.List.{List, [], ◌∷◌, ◌++◌, append_assoc}
use Prim.Native.Nat.{ℕ, zero, suc, ◌+◌, ◌-◌, ◌*◌, ◌/◌, ◌%◌, ◌<◌, ◌≤◌}
use native.Mathlib.Decide.{dec_lt}
use native.Mathlib.Omega.{arith}
use lib.ListN.{length, take, drop, take-append-drop, length-drop}
use lib.Seq.{length-take-le}
use Rattle.endian.specs.Bytes.{Bytes, nothing, another, little}
use Rattle.endian.proofs.Endian.{bytes_split}
use Rattle.figure_rules.specs.Input.{block, blocks, Files, CutShort, Input}
use Rattle.figure_rules.proofs.Streaming.{four_of}

little_cons : (k a m : ℕ) → a < 256 → little (suc k) (a + 256 * m) ≡ a ∷ little k m
unfolding little
little_cons k a m h =
    let p : (a + 256 * m) % 256 ≡ a = omega arith in
    let q : (a + 256 * m) / 256 ≡ m = omega arith in
    λ i. p i ∷ little k (q i)

four_bytes : (a b c d : ℕ) → a < 256 → b < 256 → c < 256 → d < 256 → little 4 (four_of a b c d) ≡ a ∷ (b ∷ (c ∷ (d ∷ [])))
four_bytes a b c d ha hb hc hd =
    let e : four_of a b c d ≡ a + 256 * (b + 256 * (c + 256 * (d + 256 * 0))) = omega arith in
    ap (little 4) e ∙ little_cons 3 a (b + 256 * (c + 256 * (d + 256 * 0))) ha
    ∙ ap (λ (x : List ℕ). a ∷ x) (little_cons 2 b (c + 256 * (d + 256 * 0)) hb
    ∙ ap (λ (x : List ℕ). b ∷ x) (little_cons 1 c (d + 256 * 0) hc
    ∙ ap (λ (x : List ℕ). c ∷ x) (little_cons 0 d 0 hd ∙ ap (λ (x : List ℕ). d ∷ x) none)))
  where
    none : little 0 0 ≡ []
    none = unfold little in refl

-- One file more in front.
in_front : {l : List ℕ} (f rest : List ℕ) → Bytes f → length f < 4294967296 → l ≡ block f ++ rest → Input rest → Input l
unfolding blocks
in_front f rest k b e (Input.whole ls fs z) = Input.whole (f ∷ ls) (Files.one_more_lem k b fs) (e ∙ ap (λ (x : List ℕ). block f ++ x) z)
in_front f rest k b e (Input.cut ls r fs c z) =
    Input.cut (f ∷ ls) r (Files.one_more_lem k b fs) c
    (e ∙ ap (λ (x : List ℕ). block f ++ x) z ∙ sym (append_assoc (block f) (blocks ls) r))

step : (k : ℕ) {l : List ℕ} → Bytes l → length l ≤ suc k → ((m : List ℕ) → Bytes m → length m ≤ k → Input m) → Input l
unfolding blocks
step k nothing h again = Input.whole [] Files.no_file refl
step k (another {b = a} ha nothing) h again =
    Input.cut [] (a ∷ []) Files.no_file (CutShort.in_length {l = a ∷ []} (omega arith) (omega arith)) refl
step k (another {b = a} ha (another {b = b} hb nothing)) h again =
    Input.cut [] (a ∷ (b ∷ [])) Files.no_file (CutShort.in_length {l = a ∷ (b ∷ [])} (omega arith) (omega arith)) refl
step k (another {b = a} ha (another {b = b} hb (another {b = c} hc nothing))) h again =
    Input.cut [] (a ∷ (b ∷ (c ∷ []))) Files.no_file (CutShort.in_length {l = a ∷ (b ∷ (c ∷ []))} (omega arith) (omega arith)) refl
step k (another {b = a} ha (another {b = b} hb (another {b = c} hc (another {b = d} {l = m} hd km)))) h again =
    go (dec_lt (length m) (four_of a b c d))
  where
    front : (x : List ℕ) → a ∷ (b ∷ (c ∷ (d ∷ x))) ≡ little 4 (four_of a b c d) ++ x
    front x = ap (λ (y : List ℕ). y ++ x) (sym (four_bytes a b c d ha hb hc hd))

    go : Dec (length m < four_of a b c d) → Input (a ∷ (b ∷ (c ∷ (d ∷ m))))
    go (yes l) = Input.cut [] (little 4 (four_of a b c d) ++ m) Files.no_file (CutShort.in_set (four_of a b c d) m (omega arith) l)
        (front m)
    go (no l) =
        let t = length-take-le (four_of a b c d) m (omega arith) in
        in_front (take (four_of a b c d) m) (drop (four_of a b c d) m) (bytes_split (four_of a b c d) km).0 (omega arith)
        (front m ∙ ap (λ (x : List ℕ). little 4 (four_of a b c d) ++ x) (sym (take-append-drop (four_of a b c d) m))
        ∙ sym (append_assoc (little 4 (four_of a b c d)) (take (four_of a b c d) m) (drop (four_of a b c d) m))
        ∙ ap (λ (x : ℕ). (little 4 x ++ take (four_of a b c d) m) ++ drop (four_of a b c d) m) (sym t)
        ∙ ap (λ (x : List ℕ). x ++ drop (four_of a b c d) m) (blocked (take (four_of a b c d) m)))
        (again (drop (four_of a b c d) m) (bytes_split (four_of a b c d) km).1 (omega (arith, length-drop (four_of a b c d) m)))
      where
        blocked : (x : List ℕ) → little 4 (length x) ++ x ≡ block x
        blocked x = unfold block in refl

parse : (k : ℕ) (l : List ℕ) → Bytes l → length l ≤ k → Input l
unfolding blocks
parse zero l nothing h = Input.whole [] Files.no_file refl
parse zero l (another b c) h = absurd (omega arith)
parse (suc k) l b h = step k b h (λ m c g. parse k m c g)

pub read_input : {l : List ℕ} → Bytes l → Input l
read_input {l} b = parse (length l) l b (omega arith)
