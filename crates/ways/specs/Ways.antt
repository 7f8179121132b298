-- One island laid: by the shorter of the two ways, each with its closing (document 01, "Steps from document 000"; docs/LAYING.md).
use Rattle.std.specs.Prelude.{List, ℕ, ◌++◌, ltb, length}
use Rattle.sets.specs.Pick.{pick}
use Rattle.gates.specs.declared.gate.Gate.{Gate}
use Rattle.columns.specs.Pieces.{Piece}
use Rattle.steps.specs.Steps.{steps_for}
use Rattle.nearest.specs.Nearest.{nearest_for}
use Rattle.ending.specs.Closing.{closing_of}
use Rattle.share.specs.Own.{Share}

-- the island's terms laid by a way
abbrev pub by_way : (List ℕ → ℕ → List ℕ → List ℕ → Piece) → Share → List Gate
by_way piece_for s = (piece_for s.near s.set s.terms s.angles).laid

-- the island's terms laid by the steps
unfoldable pub by_steps : Share → List Gate
by_steps s = by_way steps_for s

-- the island's terms laid nearest first
unfoldable pub by_nearest : Share → List Gate
by_nearest s = by_way nearest_for s

-- gates that lay the island's terms, and the closing behind them: "An ending of CNOTs brings the wires to the asked parities"
unfoldable pub with_closing : Share → List Gate → List Gate
with_closing s gs = gs ++ closing_of s.near s.set s.asked s.mirror gs

-- b where it is shorter than a
unfoldable pub shorter : List Gate → List Gate → List Gate
shorter a b = pick (ltb (length b) (length a)) b a

-- the island laid: the shorter of the steps and nearest first, each with its closing, "the steps in a tie"
unfoldable pub island_laid : Share → List Gate
island_laid s = shorter (with_closing s (by_steps s)) (with_closing s (by_nearest s))
