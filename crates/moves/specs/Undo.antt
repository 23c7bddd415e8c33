-- Serves the code: books with other segments or steps.
use Rattle.std.specs.Prelude.{◌-◌, List, length, drop}
use Rattle.codes.specs.Block.{Content}
use Rattle.steps.specs.Book.{Copy, History, Book}

abbrev pub with_segments : Book → List Content → Book
with_segments b cs = record { issue = b.issue; segments = cs; drafts = b.drafts; history = b.history }

abbrev pub with_history : Book → History → Book
with_history b h = record { issue = b.issue; segments = b.segments; drafts = b.drafts; history = h }

abbrev pub with_kept : Book → List (List Copy) → Book
with_kept b steps = with_history b (record { kept = steps })

-- the steps with room for one more: the newest fifteen
unfoldable pub last_fifteen : List (List Copy) → List (List Copy)
last_fifteen steps = drop (length steps - 15) steps
