-- A reader in its range.
use Prim.Native.Nat.{◌<◌, ◌≤◌}
use native.Mathlib.Decide.{dec_lt}
use native.Mathlib.Omega.{arith}
use Rattle.upload_rules.specs.Reader.{Reader, FitReader}

-- It has taken few entries.
pub few_taken : {r : Reader} → FitReader r → r.taken ≤ 327675
few_taken {r} h = go (dec_lt r.got 3)
  where
    go : Dec (r.got < 3) → r.taken ≤ 327675
    go (yes l) = omega (arith, h.header l, h.sections)
    go (no n) =
        let e = h.entries (omega arith) in
        let f = e.1 in
        let s = h.sections in
        omega arith
