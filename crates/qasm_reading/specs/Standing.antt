-- How words stand in a text, with blanks and comments between them (request E1: "with comments and blanks"). Nothing here says how they are found.
use Rattle.std.specs.Prelude.{◌≡◌, true, false, List, [], ◌∷◌, ◌++◌, ℕ, ◌<◌, length, get_or}
use Rattle.reading.specs.Misfit.{NoLf}
use Rattle.words.specs.Bytes.{blank, goes_on, slashes, AllOn}

-- blanks, and comments up to their LF
pub data Gap : List ℕ → Type 0 where
  empty : Gap []
  space : {x : ℕ} {g : List ℕ} → blank x ≡ true → Gap g → Gap (x ∷ g)
  comment : {s : List ℕ} (c g : List ℕ) → NoLf c → Gap g → s ≡ 47 ∷ 47 ∷ (c ++ (10 ∷ g)) → Gap s

-- the first byte of t, where there is one, does not go on a word that begins with f, nor makes a comment of it
pub record Parted (f : ℕ) (t : List ℕ) : Type 0 where
  pub stop : 0 < length t → goes_on f (get_or t 0 0) ≡ false
  pub clear : 0 < length t → slashes f (get_or t 0 0) ≡ false

pub data Stands : List ℕ → List (List ℕ) → Type 0 where
  last : {s : List ℕ} → Gap s → Stands s []
  last_comment : {s : List ℕ} (g c : List ℕ) → Gap g → NoLf c → s ≡ g ++ (47 ∷ 47 ∷ c) → Stands s []
  next : {s : List ℕ} {bs : List (List ℕ)} (g : List ℕ) (x : ℕ) (xs t : List ℕ) → Gap g → blank x ≡ false → AllOn x xs → Parted x t → Stands t bs → s ≡ g ++ ((x ∷ xs) ++ t)
      → Stands s ((x ∷ xs) ∷ bs)
