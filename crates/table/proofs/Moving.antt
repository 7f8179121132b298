-- Moving a number in among others, as a turn of the places and a write do it. Assumes nothing.
use mathlib.Core.Path.{◌≡◌, sym, ap, ◌∙◌}
use mathlib.Core.List.{List, [], ◌∷◌, ◌++◌, append_assoc}
use Prim.Native.Nat.{ℕ, suc, ◌+◌, ◌-◌, ◌≤◌, ◌<◌}
use native.Mathlib.Omega.{arith}
use native.Mathlib.Numerals.{add-one}
use lib.ListN.{length, get_or, set, take, drop, drop_of_length-le, length-take, length-drop}
use lib.Seq.{take-suc-set, drop-set-lt, drop-cons, set_split, take-take, take-append-add, length-take-le, drop-drop, set_at}
use borrow.Rule.Slice.PartMut.{put_mid}
use Rattle.table.specs.Table.{put_in, moved_in}

-- a turn: what is carried is stored, and what stood there is carried
pub put_step : (i c : ℕ) (ys : List ℕ) → i < length ys → put_in (i + 1) (get_or ys i 0) (set ys i c) ≡ put_in i c ys
unfolding put_in
put_step i c ys h =
    let less : i < suc i = omega arith in
    rw (add-one, take-suc-set ys i c h, drop-set-lt (suc i) ys i c less, drop-cons ys i 0 h, append_assoc)

take_put : (k v : ℕ) (xs : List ℕ) → k ≤ length xs → take (k + 1) (put_in k v xs) ≡ take k xs ++ v ∷ []
unfolding put_in
take_put k v xs h = rw (length-take-le k xs h) at (take-append-add (take k xs) (v ∷ drop k xs) 1)

-- the loop's end: the last store
pub put-end : (k n v c : ℕ) (xs ys : List ℕ) → n < length ys → put_in n c ys ≡ put_in k v xs → drop n ys ≡ drop n xs
    → set ys n c ≡ moved_in xs k n v
unfolding moved_in
put-end k n v c xs ys h e t =
    set_split ys n c h
    ∙ sym (append_assoc (take n ys) (c ∷ []) (drop (suc n) ys))
    ∙ ap (λ (l : List ℕ). l ++ drop (suc n) ys) (sym (take_put n c ys (omega arith)) ∙ ap (take (n + 1)) e)
    ∙ ap (λ (l : List ℕ). take (n + 1) (put_in k v xs) ++ l)
    (ap (λ (m : ℕ). drop m ys) (sym (add-one n)) ∙ sym (drop-drop 1 n ys) ∙ ap (drop 1) t ∙ drop-drop 1 n xs)

-- the j + 1 places from k on, turned by one, and v written at k
module _ (k j v : ℕ) (xs : List ℕ) (h : k + j < length xs) where
  abbrev part : List ℕ
  part = take (j + 1) (drop k xs)

  long : length part ≡ j + 1
  long = length-take-le (j + 1) (drop k xs) (omega (arith, length-drop k xs))

  -- the last of them comes to the front
  last-first : drop j part ++ take j part ≡ get_or part j 0 ∷ take j (drop k xs)
  last-first =
      let last : drop j part ≡ get_or part j 0 ∷ [] = drop-cons part j 0 (omega (arith, long)) ∙ ap (λ (l : List ℕ). get_or part j 0 ∷ l) (drop_of_length-le part {i = suc j} (omega (arith, long))) in
      ap (λ (l : List ℕ). l ++ take j part) last ∙ ap (λ (l : List ℕ). get_or part j 0 ∷ l) (take-take j (j + 1) (drop k xs) (omega arith))

  front : length (take k xs) ≡ k
  front = length-take-le k xs (omega arith)

  whole : take k xs ++ v ∷ (take j (drop k xs) ++ drop (j + 1) (drop k xs)) ≡ moved_in xs k (k + j) v
  unfolding moved_in put_in
  whole =
      let a : take (k + (j + 1)) (take k xs ++ v ∷ drop k xs) ≡ take k xs ++ v ∷ take j (drop k xs) =
      rw front at (take-append-add (take k xs) (v ∷ drop k xs) (j + 1)) ∙ ap (λ (m : ℕ). take k xs ++ take m (v ∷ drop k xs)) (add-one j) in
      let b : k + (j + 1) ≡ k + j + 1 = omega arith in
      sym (append_assoc (take k xs) (v ∷ take j (drop k xs)) (drop (j + 1) (drop k xs)))
      ∙ ap (λ (l : List ℕ). l ++ drop (j + 1) (drop k xs)) (sym a)
      ∙ ap (λ (l : List ℕ). take (k + (j + 1)) (take k xs ++ v ∷ drop k xs) ++ l) (drop-drop (j + 1) k xs)
      ∙ ap (λ (m : ℕ). take m (take k xs ++ v ∷ drop k xs) ++ drop m xs) b

  turned : set (put_mid k (j + 1) xs (drop j part ++ take j part)) k v ≡ moved_in xs k (k + j) v
  turned =
      ap (λ (ys : List ℕ). set (put_mid k (j + 1) xs ys) k v) last-first
      ∙ set_at (take k xs) (get_or part j 0) (take j (drop k xs) ++ drop (j + 1) (drop k xs)) v k front ∙ whole

-- the same from k to n
pub moved-turned : (k n v : ℕ) (xs ys : List ℕ) → k ≤ n → n < length xs
    → ys ≡ drop (length (take (n + 1 - k) (drop k xs)) - 1) (take (n + 1 - k) (drop k xs)) ++ take (length (take (n + 1 - k) (drop k xs)) - 1) (take (n + 1 - k) (drop k xs))
    → set (put_mid k (n + 1 - k) xs ys) k v ≡ moved_in xs k n v
moved-turned k n v xs ys le lt e =
    let j : ℕ = n - k in
    let lj : k + j < length xs = omega arith in
    let m : n + 1 - k ≡ j + 1 = omega arith in
    let s : length (take (n + 1 - k) (drop k xs)) - 1 ≡ j = omega (arith, length-take (n + 1 - k) (drop k xs), length-drop k xs) in
    let kj : k + j ≡ n = omega arith in
    ap (λ (zs : List ℕ). set (put_mid k (n + 1 - k) xs zs) k v) (e ∙ ap (λ (i : ℕ). drop i (take (n + 1 - k) (drop k xs)) ++ take i (take (n + 1 - k) (drop k xs))) s)
    ∙ ap (λ (i : ℕ). set (put_mid k i xs (drop j (take i (drop k xs)) ++ take j (take i (drop k xs)))) k v) m
    ∙ turned k j v xs lj ∙ ap (λ (i : ℕ). moved_in xs k i v) kj
