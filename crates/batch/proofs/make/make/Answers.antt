-- The kind decides which call it is.
use native.Mathlib.Omega.{arith}
use Rattle.batch.proofs.Making.{is_insert, is_remove, is_replace, small, made_as}
use Rattle.batch.proofs.make.make.Goals as goal

pub overflow_cast-place : goal.overflow_cast-place
overflow_cast-place c =
    let a = c.args in
    omega (
      arith,
      small a.calls.now a.k c.call_word-kind.ensures c.call_word-hash.ensures c.call_word-key.ensures c.call_word-place.ensures
          c.requires.k_value (omega (arith, c.if-kind-eq-INSERT.true)),
    )

pub returns-then-kind-eq-INSERT : goal.returns-then-kind-eq-INSERT
returns-then-kind-eq-INSERT c =
    let a = c.args in
    made_as (is_insert a.calls.now a.k c.call_word-kind.ensures c.call_word-hash.ensures c.call_word-key.ensures
    c.call_word-place.ensures c.if-kind-eq-INSERT.true)
    c.make_insert.ensures

pub returns-then-kind-eq-REMOVE : goal.returns-then-kind-eq-REMOVE
returns-then-kind-eq-REMOVE c =
    let a = c.args in
    made_as (is_remove a.calls.now a.k c.call_word-kind.ensures c.call_word-hash.ensures c.call_word-key.ensures
    c.call_word-place.ensures c.if-kind-eq-REMOVE.true)
    c.make_remove.ensures

pub overflow_cast-place-2 : goal.overflow_cast-place-2
overflow_cast-place-2 c =
    let a = c.args in
    omega (
      arith,
      small a.calls.now a.k c.call_word-kind.ensures c.call_word-hash.ensures c.call_word-key.ensures c.call_word-place.ensures
          c.requires.k_value c.if-kind-eq-REMOVE.false,
    )

pub returns : goal.returns
returns c =
    let a = c.args in
    made_as (is_replace a.calls.now a.k c.call_word-kind.ensures c.call_word-hash.ensures c.call_word-key.ensures
    c.call_word-place.ensures c.if-kind-eq-INSERT.false c.if-kind-eq-REMOVE.false)
    c.make_replace.ensures
