-- What the results of the shape check mean.
use Rattle.std.specs.Prelude.{Bool, Option, None, Some, List, ℕ, ◌+◌, ◌-◌, eqb, ltb}
use Rattle.slots.specs.Words.{pick, state, cell}
use Rattle.slots.specs.Answers.{Value, none, some}
use Rattle.slots.specs.Coded.{value_of}
use Rattle.tree_rules.specs.Find.{slots_of}
use Rattle.tree_rules.specs.Sizes.{has_size}
use Rattle.tree_rules.specs.Rules.{reached, risen, all_calm, levelled, slots_below}
use Rattle.tree.specs.declared.rules.Part.{Part}

abbrev pub rest_of : Option ℕ → Value
rest_of = value_of

abbrev pub size_of : Option ℕ → Value
size_of = value_of

-- T3 to T6 and T8 of what hangs from a link: the visits left, the slot read last and the black slots of every way down;
-- or that one is broken.
pub data Verdict : Type 0 where
  obeys : ℕ → ℕ → ℕ → Verdict
  breaks : Verdict

abbrev pub part_of : Option Part → Verdict
part_of (Some p) = obeys p.rest p.last p.blacks
part_of None = breaks

-- The two parts below the slot i, joined, where so many visits were left at it: the black slots of the left part, then what the right
-- part comes to. They meet as many black slots, and the size of i is the number of visits spent.
abbrev pub joined : List ℕ → List ℕ → ℕ → ℕ → ℕ → ℕ → ℕ → ℕ → Verdict
joined cells sizes i visits a unspent end b =
    pick (eqb a b)
    (pick (has_size sizes i (visits - unspent)) (obeys unspent end (pick (eqb (cell cells i state) 2) a (a + 1))) breaks) breaks

abbrev pub measured_by : Value → (ℕ → Verdict) → Verdict
measured_by (some v) f = f v
measured_by none f = breaks

-- The five rules asked together: none may be broken.
abbrev pub together : Value → Value → Bool → Value → Value → Verdict
together reach rise calm level weight =
    measured_by reach
    (λ rest. measured_by rise (λ last. pick calm (measured_by level (λ blacks. measured_by weight (λ all. obeys rest last blacks))) breaks))

-- What hangs from the link i under q, where `last` was read last: each rule by its own model, at most so deep and with so many visits.
abbrev pub judged : List ℕ → List ℕ → List ℕ → ℕ → ℕ → ℕ → ℕ → ℕ → Verdict
judged names cells sizes q last i depth visits =
    together (reached visits (slots_of names) cells q i visits) (risen depth names cells last i) (all_calm depth cells i)
    (levelled depth cells i)
    (slots_below depth cells sizes i)

-- So deep the walk over n slots may go.
abbrev pub deepest_of : ℕ → ℕ
deepest_of n = pick (ltb n 129) n 129
