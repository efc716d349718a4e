-- The bytes of a slot's five links.
use Rattle.std.specs.Prelude.{List, ◌++◌, ℕ}
use Rattle.slots.specs.Words.{parent, left, right, prev, next, cell}
use Rattle.endian.specs.Bytes.{little}

unfoldable pub links_bytes : List ℕ → ℕ → List ℕ
links_bytes cells i =
    little 4 (cell cells i parent)
    ++ (little 4 (cell cells i left)
    ++ (little 4 (cell cells i right)
    ++ (little 4 (cell cells i prev)
    ++ little 4 (cell cells i next))))
