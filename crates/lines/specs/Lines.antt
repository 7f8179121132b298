-- The lines of a text, and the text of a job (document 01, "The job text"). A byte is a number: 9 is tab, 10 is LF, 48 to 57 are the digits.
use Rattle.std.specs.Prelude.{ℕ, zero, suc, ◌+◌, ◌/◌, ◌%◌, List, [], ◌∷◌, ◌++◌, ltb, take}
use Rattle.sets.specs.Pick.{pick}
use Rattle.gates.specs.Layout.{kind_in, a_in, b_in}

-- the decimal digits of v, at most f of them
unfoldable pub digits_in : ℕ → ℕ → List ℕ
digits_in zero v = []
digits_in (suc f) v = let front = digits_in f (v / 10) in pick (ltb v 10) ((48 + v) ∷ []) (front ++ ((48 + v % 10) ∷ []))

-- "Numbers are decimal, no sign, no leading zero except 0 itself": v has at most v + 1 digits
unfoldable pub digits : ℕ → List ℕ
digits v = digits_in (suc v) v

-- "fields are parted by one tab"
unfoldable pub fields_text : List ℕ → List ℕ
fields_text [] = []
fields_text (v ∷ vs) = (9 ∷ digits v) ++ fields_text vs

-- a letter and numbers; "Lines end with LF"
unfoldable pub line_text : ℕ → List ℕ → List ℕ
line_text letter vs = letter ∷ (fields_text vs ++ (10 ∷ []))

-- the letter of a record of the kind: `e`, `c`, `r`, `n` or `h`
unfoldable pub letter : ℕ → ℕ
letter zero = 101
letter (suc zero) = 99
letter (suc (suc zero)) = 114
letter (suc (suc (suc zero))) = 110
letter (suc (suc (suc (suc kind)))) = 104

-- how many numbers its line has: two, and of an X or a Hadamard one: "text line `n` and a qubit", "`h` and a qubit"
unfoldable pub fields_in : ℕ → ℕ
fields_in kind = pick (ltb kind 3) 2 1

-- "`e` lines, two ends each", "`c` control target or `r` qubit angle", "`n` and a qubit", "`h` and a qubit"
unfoldable pub record_text : ℕ → List ℕ
record_text x = line_text (letter (kind_in x)) (take (fields_in (kind_in x)) (a_in x ∷ b_in x ∷ []))

unfoldable pub records_text : List ℕ → List ℕ
records_text [] = []
records_text (x ∷ xs) = record_text x ++ records_text xs

-- "First `q` and n; then any `e` lines ..; then any gates": the text of a job
unfoldable pub text_of : ℕ → List ℕ → List ℕ → List ℕ
text_of n couplers gates = line_text 113 (n ∷ []) ++ (records_text couplers ++ records_text gates)

-- "one line, parted by tabs: `x`, number, place"
unfoldable pub refusal_text : ℕ → ℕ → List ℕ
refusal_text number place = line_text 120 (number ∷ place ∷ [])

-- "`s`, CNOTs, rotations, depth, parted by tabs"
unfoldable pub counts_text : ℕ → ℕ → ℕ → List ℕ
counts_text cnots rotations depth = line_text 115 (cnots ∷ rotations ∷ depth ∷ [])
