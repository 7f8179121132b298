-- A list cut at some of its items, and woven together again.
use Rattle.std.specs.Prelude.{Bool, List, [], ◌∷◌, ◌++◌, ℕ, suc}
use Rattle.sets.specs.Pick.{pick}

-- how many items stand before the first that has the property; all, where none has it
unfoldable pub first_at : {A : Type 0} → (A → Bool) → List A → ℕ
first_at h [] = 0
first_at h (x ∷ xs) = pick (h x) 0 (suc (first_at h xs))

-- x in front of the first list
unfoldable pub ahead : {A : Type 0} → A → List (List A) → List (List A)
ahead x [] = (x ∷ []) ∷ []
ahead x (s ∷ ss) = (x ∷ s) ∷ ss

-- the lists between the items that have the property: one more than there are such items
unfoldable pub cut_at : {A : Type 0} → (A → Bool) → List A → List (List A)
cut_at h [] = [] ∷ []
cut_at h (x ∷ xs) = pick (h x) ([] ∷ cut_at h xs) (ahead x (cut_at h xs))

-- lists one behind another, with an item between each and the next
unfoldable pub weave : {A : Type 0} → List (List A) → List A → List A
weave [] hs = []
weave (s ∷ ss) [] = s
weave (s ∷ ss) (h ∷ hs) = s ++ h ∷ weave ss hs

-- two lists are of one length, and each two members at the same place stand in the relation
unfoldable pub Pairs : {A B : Type 0} → (A → B → Type 0) → List A → List B → Type 0
Pairs R [] [] = Unit {0}
Pairs R [] (y ∷ ys) = ⊥
Pairs R (x ∷ xs) [] = ⊥
Pairs R (x ∷ xs) (y ∷ ys) = R x y × Pairs R xs ys
