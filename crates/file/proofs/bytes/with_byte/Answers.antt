-- A byte on top of fewer than eight.
use native.Mathlib.Omega.{arith}
use Rattle.file.specs.Meanings.{loader_words}
use Rattle.file.proofs.Bytewise.{byte_is, sum_fits, product_fits}
use Rattle.file.proofs.bytes.with_byte.Goals as goal

pub overflow_mul-result : goal.overflow_mul-result
overflow_mul-result c =
    omega (arith, product_fits (loader_words c.args.r) c.requires c.args.b (omega arith) c.power.ensures)

pub overflow_add-result : goal.overflow_add-result
overflow_add-result c =
    omega (arith, sum_fits (loader_words c.args.r) c.requires c.args.b (omega arith) c.power.ensures)

pub returns : goal.returns
returns c =
    byte_is (loader_words c.args.r) c.requires c.args.b (omega arith) c.power.ensures
