-- A page: what is written to it, and what fits.
use Rattle.std.specs.Prelude.{◌≡◌, ℕ, ◌+◌, ◌≤◌, List, length}
use Rattle.lines.specs.Lent.{Wrote}
use Rattle.lines.specs.declared.page.Page.{Page}

-- text fits behind what stands there
abbrev pub HasRoom : Page → List ℕ → Type 0
HasRoom page text = page.at + length text ≤ length page.text.now

-- text was written there, to the same memory
abbrev pub Puts : Page → List ℕ → Page → Type 0
Puts old text new = Wrote old.text.now old.at text new.text.now new.at × (new.text.ghost_name ≡ old.text.ghost_name)
