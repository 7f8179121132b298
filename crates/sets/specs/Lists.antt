-- Lists of any kind, by what their members are.
use Rattle.std.specs.Prelude.{Bool, List, [], ◌∷◌}
use Rattle.sets.specs.Pick.{pick}

-- every member has the property
unfoldable pub All : {A : Type 0} → (A → Type 0) → List A → Type 0
All P [] = Unit {0}
All P (x ∷ xs) = P x × All P xs

-- the members that pass the test, in their order
unfoldable pub those : {A : Type 0} → (A → Bool) → List A → List A
those h [] = []
those h (x ∷ xs) = pick (h x) (x ∷ those h xs) (those h xs)
