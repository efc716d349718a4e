-- A count in range has few words.
use native.Mathlib.Omega.{arith}
use Rattle.file.specs.Meanings.{loader_words}
use Rattle.file.proofs.Ranging.{fit_small, whole_is}
use Rattle.file.proofs.loader.whole_long.Goals as goal

pub section_words-requires : goal.section_words-requires
section_words-requires c =
    let small = fit_small (loader_words c.args.r) c.requires c.args.s in omega (arith, c.count_of-count.ensures)

pub returns : goal.returns
returns c = (
  whole_is (loader_words c.args.r) c.requires _ c.words_long.ensures.0 c.section_words.ensures.0
      c.count_of-count.ensures,
  omega (arith, c.words_long.ensures.1),
)
