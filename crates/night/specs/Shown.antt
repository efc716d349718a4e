-- The search for a reason, as the code goes: for T3 to T8 in order the lowest slot that shows the rule, and the first rule that has one.
use Rattle.std.specs.Prelude.{Bool, List, ℕ, zero, suc, ◌+◌, eqb}
use Rattle.slots.specs.Words.{null, pick, Side, leftward, rightward}
use Rattle.slots.specs.Answers.{Answer, given, refused}
use Rattle.index_rules.specs.Live.{Live, fits}
use Rattle.index_rules.specs.Sound.{rule1, rule2}
use Rattle.night_rules.specs.Account.{WayDown, Account, tells_slot, tells_header, tells_pair, tells_ways, tells_sound, shown_words}
use Rattle.night_rules.specs.Why.{shows1, shows3, shows4, shows5, shows6, shows7, shows8, next_in, one_if_black, blacks_above}
use Rattle.night_rules.specs.Why.{way_on, way_by, lowest_slot, why}

-- The test of a slot for each rule.
unfoldable pub shows_rule : ℕ → Live → ℕ → Bool
shows_rule rule t =
    pick (eqb rule 1) (shows1 t)
    (pick (eqb rule 3) (shows3 t)
    (pick (eqb rule 4) (shows4 t)
    (pick (eqb rule 5) (shows5 t)
    (pick (eqb rule 6) (shows6 t)
    (pick (eqb rule 7) (shows7 t)
    (shows8 t))))))

-- What is told with the lowest slot of a rule.
unfoldable pub told_by : ℕ → Live → ℕ → Account
told_by rule t i =
    pick (eqb rule 4) (tells_pair i (next_in t i))
    (pick (eqb rule 6) (tells_ways i (way_by t i leftward) (way_by t i rightward)) (tells_slot rule i))

-- The way by the slot i and its link on a side, over n slots.
abbrev pub way_from : ℕ → List ℕ → ℕ → Side → WayDown
way_from n cells i σ = way_on n cells i σ (blacks_above n cells i + one_if_black cells i)

-- Of so many rules from one on, the first that a slot shows.
unfoldable pub first_shown : ℕ → ℕ → Live → Account
first_shown zero rule t = tells_sound
first_shown (suc k) rule t =
    let i = lowest_slot t (shows_rule rule t) in pick (eqb i null) (first_shown k (suc rule) t) (told_by rule t i)

abbrev pub from_t3 : Live → Account
from_t3 t = first_shown 6 3 t

-- T1 and T2 whole, then the search.
unfoldable pub sought : Live → Account
sought t =
    pick (rule1 t)
    (pick (rule2 t) (from_t3 t) (tells_header 2))
    (tells_slot 1 (lowest_slot t (shows_rule 1 t)))

-- What a call comes to: refused, or what is told.
pub data Telling : Type 0 where
  refuses : Telling
  tells : Account → Telling

-- "Refusals: 1 only."
unfoldable pub why_told : Live → Telling
why_told t = pick (fits t) (tells (why t)) refuses

-- Its number and value, and the words that it leaves.
abbrev pub telling_answer : Telling → Answer
telling_answer refuses = refused 1
telling_answer (tells w) = given w.rule

abbrev pub telling_shown : Telling → List ℕ → List ℕ
telling_shown refuses words = words
telling_shown (tells w) words = shown_words w
