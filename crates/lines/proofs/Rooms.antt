-- What a room has left behind one piece and another is what it has left behind both. Assumes nothing.
use mathlib.Core.Path.{◌≡◌, refl, sym, ap, ◌∙◌}
use mathlib.Core.Bool.{Bool, true, false}
use mathlib.Core.List.{List, [], ◌∷◌, ◌++◌}
use Prim.Native.Nat.{ℕ, ◌+◌, ◌-◌, ◌≤◌, ◌<◌}
use native.Mathlib.Omega.{arith}
use lib.Dec.{leb}
use lib.ListN.{length, get_or, take, length-append}
use borrow.Author.Tests.{leb-true, leb-false, le-leb, lt-leb}
use Rattle.std.specs.Prelude.{Option, Some, None}
use Rattle.sets.specs.Pick.{pick}
use Rattle.lines.specs.Lines.{digits, fields_text}
use Rattle.lines.specs.Room.{room_after}
use Rattle.lines.proofs.Writes.{fields-next}

pub room_none : (r : Option ℕ) → room_after r 0 ≡ r
room_none (Some left) = let z : left - 0 ≡ left = omega arith in rw (le-leb 0 left (omega arith)) (ap Some z)
room_none None = refl

pub room_then : (r : Option ℕ) (a b : ℕ) → room_after (room_after r a) b ≡ room_after r (a + b)
room_then None a b = refl
room_then (Some left) a b = go (leb a left) refl
  where
    second : (t : Bool) → a ≤ left → leb b (left - a) ≡ t → pick t (Some (left - a - b)) None ≡ room_after (Some left) (a + b)
    second true h e =
        let k : a + b ≤ left = omega (arith, leb-true b (left - a) e) in
        let z : left - a - b ≡ left - (a + b) = omega arith in
        rw (le-leb (a + b) left k) (ap Some z)
    second false h e = let k : left < a + b = omega (arith, leb-false b (left - a) e) in rw (lt-leb (a + b) left k)

    go : (t : Bool) → leb a left ≡ t → room_after (pick t (Some (left - a)) None) b ≡ room_after (Some left) (a + b)
    go true e = second (leb b (left - a)) (leb-true a left e) refl
    go false e = let k : left < a + b = omega (arith, leb-false a left e) in rw (lt-leb (a + b) left k)

-- one more field
pub room_fields : (room : Option ℕ) (vs : List ℕ) (i : ℕ) → i < length vs
    → room_after (room_after room (length (fields_text (take i vs)))) (length (9 ∷ digits (get_or vs i 0))) ≡ room_after room (length (fields_text (take (i + 1) vs)))
room_fields room vs i h = room_then room _ _ ∙ ap (room_after room) (sym (ap length (fields-next vs i h) ∙ length-append (fields_text (take i vs)) (9 ∷ digits (get_or vs i 0))))

-- piece by piece: what the pieces still to come leave is what the whole leaves
module _ (room : Option ℕ) (need : ℕ) (l : Option ℕ) {rest : List ℕ} (w : room_after l (length rest) ≡ room_after room need) where
  pub room-turn : (xs ys : List ℕ) {m : Option ℕ} → rest ≡ xs ++ ys → m ≡ room_after l (length xs) → room_after m (length ys) ≡ room_after room need
  room-turn xs ys e a =
      ap (λ r. room_after r (length ys)) a ∙ room_then l (length xs) (length ys) ∙ ap (room_after l) (sym (length-append xs ys)) ∙ ap (λ r. room_after l (length r)) (sym e) ∙ w

  pub room-past : rest ≡ [] → l ≡ room_after room need
  room-past e = sym (room_none l) ∙ ap (λ r. room_after l (length r)) (sym e) ∙ w
