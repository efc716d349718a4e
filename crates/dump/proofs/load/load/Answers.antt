-- The five slices are filled one after another.
use mathlib.Core.Path.{◌∙◌}
use Rattle.std.proofs.lemmas.List.{map-id}
use Rattle.dump.proofs.Loading.{loads}
use Rattle.dump.proofs.load.load.Goals as goal

pub returns : goal.returns
returns c =
    loads c.args.bytes.now _ _ _ _ _ c.after_words-body.ensures (c.read_words.ensures ∙ map-id _) c.after_words-behind_names.ensures
    (c.read_words-2.ensures ∙ map-id _) c.after_words-behind_cells.ensures (c.read_words-3.ensures ∙ map-id _)
    c.after_words-behind_head.ensures (c.read_words-4.ensures ∙ map-id _) c.after_words-behind_sizes.ensures
    (c.read_words-5.ensures ∙ map-id _)
