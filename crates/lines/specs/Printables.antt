-- What the code passes over in one go: a notion of the scan over a text, and none of document 01.
use Rattle.std.specs.Prelude.{ℕ, List}
use Rattle.std.specs.List.{prefix_len}
use Rattle.lines.specs.Bytes.{between}

-- how many printable bytes stand at the front of s
abbrev pub printables : List ℕ → ℕ
printables s = prefix_len (between 32 126) s
