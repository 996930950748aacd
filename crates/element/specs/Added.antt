-- ADDED: a part of a buffer with the bytes of a run added, each to the byte at its own index. Assumes nothing.
use Rattle.std.specs.Prelude.{List, ℕ, length, get_or}
use Rattle.code.specs.Xor.{◌⊕◌}
use Rattle.code.specs.Sum.{table}

-- byte t is byte t of part ⊕ byte t of run; as long as part
unfoldable pub added : List ℕ → List ℕ → List ℕ
added part run = table (length part) (λ t. get_or part t 0 ⊕ get_or run t 0)
