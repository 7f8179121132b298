-- What a program prints for the text that it reads, where the bytes on both sides are known: those that a reader has left, and those that a writer holds.
use Rattle.std.specs.Prelude.{List, ℕ, ⊤, Option, None, Some}
use Rattle.std.specs.Io.KnownBytes.{Appends}

-- the writer, which held `old`, holds `new`: behind what it held stands what is printed for the text
abbrev pub PrintsFor : (List ℕ → List ℕ) → Option (List ℕ) → Option (List ℕ) → Option (List ℕ) → Type 0
PrintsFor printed None old new = ⊤
PrintsFor printed (Some text) old new = Appends old new (printed text)
