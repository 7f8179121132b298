-- The definitions at small texts: document 01's own example, and texts that it refuses. Assumes nothing.
use mathlib.Core.Path.{◌≡◌, refl}
use mathlib.Core.List.{List, [], ◌∷◌, ◌++◌}
use Prim.Native.Nat.{ℕ}
use Rattle.gates.specs.Layout.{packed, kind_in, a_in, b_in}
use Rattle.lines.specs.Lines.{digits_in, digits, fields_text, line_text, letter, fields_in, record_text, records_text, text_of, refusal_text, counts_text}
use Rattle.spots.specs.Numbers.{read_number, number_from, more_digits, digit_of, skipped}
use Rattle.reading.specs.Parsing.{misfit, job, parsed, body_of, end_of, read_head, run_of, run_in, read_one, read_other, read_line, read_short}

-- q 2, e 1 0, r 1 500, r 0 7, r 1 65036
text : List ℕ
text =
    (113 ∷ 9 ∷ 50 ∷ 10 ∷ []) ++ (101 ∷ 9 ∷ 49 ∷ 9 ∷ 48 ∷ 10 ∷ []) ++ (114 ∷ 9 ∷ 49 ∷ 9 ∷ 53 ∷ 48 ∷ 48 ∷ 10 ∷ [])
    ++ (114 ∷ 9 ∷ 48 ∷ 9 ∷ 55 ∷ 10 ∷ []) ++ (114 ∷ 9 ∷ 49 ∷ 9 ∷ 54 ∷ 53 ∷ 48 ∷ 51 ∷ 54 ∷ 10 ∷ [])

couplers : List ℕ
couplers = packed 0 1 0 ∷ []

gates : List ℕ
gates = packed 2 1 500 ∷ packed 2 0 7 ∷ packed 2 1 65036 ∷ []

its-text : text_of 2 couplers gates ≡ text
unfolding text couplers gates packed kind_in a_in b_in text_of records_text record_text letter fields_in line_text fields_text digits digits_in
its-text = refl

its-job : parsed text ≡ job 2 couplers gates
unfolding text couplers gates packed parsed body_of end_of read_head run_of run_in read_one read_other read_line read_short read_number number_from more_digits digit_of skipped letter
its-job = refl

-- "s 0 1 0" of request E2, and "x 7 2"
its-counts : counts_text 0 1 0 ≡ 115 ∷ 9 ∷ 48 ∷ 9 ∷ 49 ∷ 9 ∷ 48 ∷ 10 ∷ []
unfolding counts_text line_text fields_text digits digits_in
its-counts = refl

a-refusal : refusal_text 7 2 ≡ 120 ∷ 9 ∷ 55 ∷ 9 ∷ 50 ∷ 10 ∷ []
unfolding refusal_text line_text fields_text digits digits_in
a-refusal = refl

-- q 02
leading-zero : parsed (113 ∷ 9 ∷ 48 ∷ 50 ∷ 10 ∷ []) ≡ misfit 1
unfolding packed parsed body_of end_of read_head run_of run_in read_one read_other read_line read_short read_number number_from more_digits digit_of skipped letter
leading-zero = refl

-- q 2, c 0 1, e 0 1
coupler-after-gate : parsed (113 ∷ 9 ∷ 50 ∷ 10 ∷ 99 ∷ 9 ∷ 48 ∷ 9 ∷ 49 ∷ 10 ∷ 101 ∷ 9 ∷ 48 ∷ 9 ∷ 49 ∷ 10 ∷ []) ≡ misfit 3
unfolding packed parsed body_of end_of read_head run_of run_in read_one read_other read_line read_short read_number number_from more_digits digit_of skipped letter
coupler-after-gate = refl

-- q 2, c 256 0
too_large : parsed (113 ∷ 9 ∷ 50 ∷ 10 ∷ 99 ∷ 9 ∷ 50 ∷ 53 ∷ 54 ∷ 9 ∷ 48 ∷ 10 ∷ []) ≡ misfit 2
unfolding packed parsed body_of end_of read_head run_of run_in read_one read_other read_line read_short read_number number_from more_digits digit_of skipped letter
too_large = refl

-- q 1, n 0
x-text : List ℕ
x-text = 113 ∷ 9 ∷ 49 ∷ 10 ∷ 110 ∷ 9 ∷ 48 ∷ 10 ∷ []

x-written : text_of 1 [] (packed 3 0 0 ∷ []) ≡ x-text
unfolding x-text packed kind_in a_in b_in text_of records_text record_text letter fields_in line_text fields_text digits digits_in
x-written = refl

x-read : parsed x-text ≡ job 1 [] (packed 3 0 0 ∷ [])
unfolding x-text packed parsed body_of end_of read_head run_of run_in read_one read_other read_line read_short read_number number_from more_digits digit_of skipped letter
x-read = refl

-- q 1, n 0 0
x-with-angle : parsed (113 ∷ 9 ∷ 49 ∷ 10 ∷ 110 ∷ 9 ∷ 48 ∷ 9 ∷ 48 ∷ 10 ∷ []) ≡ misfit 2
unfolding packed parsed body_of end_of read_head run_of run_in read_one read_other read_line read_short read_number number_from more_digits digit_of skipped letter
x-with-angle = refl

-- q 2, h 1
h-text : List ℕ
h-text = 113 ∷ 9 ∷ 50 ∷ 10 ∷ 104 ∷ 9 ∷ 49 ∷ 10 ∷ []

h-written : text_of 2 [] (67174400 ∷ []) ≡ h-text
unfolding h-text kind_in a_in b_in text_of records_text record_text letter fields_in line_text fields_text digits digits_in
h-written = refl

h-read : parsed h-text ≡ job 2 [] (67174400 ∷ [])
unfolding h-text packed parsed body_of end_of read_head run_of run_in read_one read_other read_line read_short read_number number_from more_digits digit_of skipped letter
h-read = refl

-- q 2, h 1 0
h-with-angle : parsed (113 ∷ 9 ∷ 50 ∷ 10 ∷ 104 ∷ 9 ∷ 49 ∷ 9 ∷ 48 ∷ 10 ∷ []) ≡ misfit 2
unfolding packed parsed body_of end_of read_head run_of run_in read_one read_other read_line read_short read_number number_from more_digits digit_of skipped letter
h-with-angle = refl
