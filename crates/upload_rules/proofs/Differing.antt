-- Pairs that differ from each other and from those there are those of which each is lacking when it comes.
use mathlib.Core.Path.{◌≡◌, sym}
use mathlib.Core.Bool.{Bool, true, false}
use mathlib.Core.List.{List, [], ◌∷◌, ◌++◌}
use Prim.Native.Nat.{ℕ}
use Rattle.slots.specs.Words.{pick}
use Rattle.slots.specs.Pairs.{before}
use Rattle.index_rules.specs.Contents.{Entry, put, Lacks, empty, other}
use Rattle.upload_rules.specs.Parts.{Differ, none, more, put_all}

abbrev Unlike : ℕ → ℕ → Entry → Type 0
Unlike hash key e = (e.hash ≡ hash) → (e.key ≡ key) → ⊥

lacks-put : {hash key : ℕ} (e : Entry) {l : List Entry} → Unlike hash key e → Lacks hash key l → Lacks hash key (put e l)
unfolding put
lacks-put e n empty = other n empty
lacks-put {hash} {key} e n (other {x} {l} m w) = go (before e.hash e.key x.hash x.key) (lacks-put e n w)
  where
    go : (b : Bool) → Lacks hash key (put e l) → Lacks hash key (pick b (e ∷ (x ∷ l)) (x ∷ put e l))
    go true v = other n (other m w)
    go false v = other m v

record Both (hash key : ℕ) (e : Entry) (l : List Entry) : Type 0 where
  new : Unlike hash key e
  old : Lacks hash key l

put-lacks : (hash key : ℕ) (e : Entry) (l : List Entry) → Lacks hash key (put e l) → Both hash key e l
unfolding put
put-lacks hash key e [] (other n w) = record { new = n; old = empty }
put-lacks hash key e (x ∷ l) w = go (before e.hash e.key x.hash x.key) (put-lacks hash key e l) w
  where
    go : (b : Bool) → (Lacks hash key (put e l) → Both hash key e l) → Lacks hash key (pick b (e ∷ (x ∷ l)) (x ∷ put e l))
        → Both hash key e (x ∷ l)
    go true f (other n (other m v)) = record { new = n; old = other m v }
    go false f (other m v) = let r = f v in record { new = r.new; old = other m r.old }

-- Each pair is lacking when it comes.
pub data InTurn : List Entry → List Entry → Type 0 where
  nobody : {l : List Entry} → InTurn [] l
  comes : {e : Entry} {es l : List Entry} → Lacks e.hash e.key l → InTurn es (put e l) → InTurn (e ∷ es) l

-- Contents with one entry more.
differ_put : (e : Entry) {l es : List Entry} → Lacks e.hash e.key es → Differ l es → Differ (put e l) es
differ_put e empty none = none
differ_put e (other n w) (more v u d) = more (lacks-put e (λ p q. n (sym p) (sym q)) v) u (differ_put e w d)

put_differ : (e : Entry) (l : List Entry) {es : List Entry} → Differ (put e l) es → Lacks e.hash e.key es × Differ l es
put_differ e l none = (empty, none)
put_differ e l (more {e = c} v u d) =
    let r = put-lacks c.hash c.key e l v in
    let s = put_differ e l d in
    (other (λ p q. r.new (sym p) (sym q)) s.0, more r.old u s.1)

pub turn_differ : {es l : List Entry} → InTurn es l → Differ l es
turn_differ nobody = none
turn_differ {l = l} (comes {e} w f) = let s = put_differ e l (turn_differ f) in more w s.0 s.1

pub differ_turn : (es l : List Entry) → Differ l es → InTurn es l
differ_turn [] l none = nobody
differ_turn (e ∷ es) l (more w n d) = comes w (differ_turn es (put e l) (differ_put e n d))

pub turn_one : {es l : List Entry} (e : Entry) → InTurn es l → Lacks e.hash e.key (put_all es l) → InTurn (es ++ (e ∷ [])) l
unfolding put_all
turn_one e nobody w = comes w nobody
turn_one e (comes a f) w = comes a (turn_one e f w)

turn_front : (es fs : List Entry) {l : List Entry} → InTurn (es ++ fs) l → InTurn es l
turn_front [] fs f = nobody
turn_front (e ∷ es) fs (comes w f) = comes w (turn_front es fs f)

turn_next : (es : List Entry) (e : Entry) {l : List Entry} → InTurn (es ++ (e ∷ [])) l → Lacks e.hash e.key (put_all es l)
unfolding put_all
turn_next [] e (comes w f) = w
turn_next (d ∷ es) e (comes w f) = turn_next es e f

-- One entry more, a front of entries, and the next one.
pub differ_one : (es l : List Entry) (e : Entry) → Differ l es → Lacks e.hash e.key (put_all es l) → Differ l (es ++ (e ∷ []))
differ_one es l e d w = turn_differ (turn_one e (differ_turn es l d) w)

pub differ_front : (es fs l : List Entry) → Differ l (es ++ fs) → Differ l es
differ_front es fs l d = turn_differ (turn_front es fs (differ_turn (es ++ fs) l d))

pub differ_next : (es : List Entry) (e : Entry) (l : List Entry) → Differ l (es ++ (e ∷ [])) → Lacks e.hash e.key (put_all es l)
differ_next es e l d = turn_next es e (differ_turn (es ++ (e ∷ [])) l d)
