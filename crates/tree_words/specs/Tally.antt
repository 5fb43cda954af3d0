-- Words written over those of an area, and how many differ from before. Assumes nothing.
use Rattle.std.specs.Prelude.{List, ℕ}
use Rattle.model.specs.Lists.{put_at}
use Rattle.model.specs.Repair.{differ}

unfoldable pub tallied : ℕ → List ℕ → List ℕ → ℕ × List ℕ
tallied p xs ws = (differ ws (put_at p xs ws), put_at p xs ws)
