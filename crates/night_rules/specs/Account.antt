-- What is told of a tree, and the words of `shown`.
use Rattle.std.specs.Prelude.{List, [], ◌∷◌, ℕ}
use Rattle.slots.specs.Words.{null}
use Rattle.slots.specs.Answers.{Answer}

-- A way from the root to a null link: "its last slot, the side of the null link that it ends at (0 left, 1 right), and the black slots met
-- from the root on".
pub record WayDown : Type 0 where
  pub last : ℕ
  pub side : ℕ
  pub blacks : ℕ

-- "The number told is 0 for a sound tree, else that of the first broken rule", and with it "slot, other, then two ways".
pub record Account : Type 0 where
  pub rule : ℕ
  pub slot : ℕ
  pub other : ℕ
  pub one : WayDown
  pub two : WayDown

-- "Words of `shown` that say nothing are null".
abbrev pub no_way : WayDown
no_way = record { last = null; side = null; blacks = null }

abbrev pub tells_slot : ℕ → ℕ → Account
tells_slot rule i = record { rule = rule; slot = i; other = null; one = no_way; two = no_way }

abbrev pub tells_header : ℕ → Account
tells_header rule = tells_slot rule null

abbrev pub tells_pair : ℕ → ℕ → Account
tells_pair i j = record { rule = 4; slot = i; other = j; one = no_way; two = no_way }

abbrev pub tells_ways : ℕ → WayDown → WayDown → Account
tells_ways i w v = record { rule = 6; slot = i; other = null; one = w; two = v }

-- "For a sound tree all eight are."
abbrev pub tells_sound : Account
tells_sound = tells_slot 0 null

-- "Slot, other, then two ways, each its last slot, side, blacks."
abbrev pub shown_words : Account → List ℕ
shown_words w =
    w.slot ∷ (w.other ∷ (w.one.last ∷ (w.one.side ∷ (w.one.blacks ∷ (w.two.last ∷ (w.two.side ∷ (w.two.blacks ∷ [])))))))

-- A call comes to its answer, and to what it leaves in `shown`.
pub record Explained : Type 0 where
  pub answer : Answer
  pub shown : List ℕ

abbrev pub explained : Answer → List ℕ → Explained
explained a shown = record { answer = a; shown = shown }
