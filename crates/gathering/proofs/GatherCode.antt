-- What the loop that gathers a set keeps, and moves read back. Assumes nothing.
use mathlib.Core.Path.{◌≡◌, refl, sym, ap, ap₂, ◌∙◌, subst}
use mathlib.Core.Bool.{Bool, true, false}
use mathlib.Core.List.{List, [], ◌∷◌, ◌++◌, map, reverse}
use Rattle.std.proofs.lemmas.List.{get_or-reverse, get_or_default, get_or-take, length-reverse, length-drop, length-take, take_all}
use Prim.Native.Nat.{ℕ, zero, suc, ◌+◌, ◌-◌, ◌*◌, ◌≤◌, ◌<◌, min}
use native.Mathlib.Omega.{arith}
use native.Mathlib.Decide.{dec_lt}
use lib.Bits.{bit_and, bit_xor}
use lib.Dec.{eqb}
use lib.ListN.{get_or, length, set, take, drop, replicate, length-append, length-map, length-replicate}
use lib.Seq.{sets}
use Rattle.sets.specs.Pick.{pick}
use Rattle.sets.specs.Bit.{has}
use Rattle.sets.specs.Size.{lowest_of, only_of}
use Rattle.gates.specs.Limits.{most_qubits}
use Rattle.gates.specs.declared.gate.Gate.{Gate}
use Rattle.gates.specs.declared.gate.Gate.TheVariants.{Cnot, Rotation, X, Bad}
use Rattle.gathering.specs.declared.gather.Order.{Order}
use Rattle.gathering.specs.declared.gather.Move.{Move}
use Rattle.gathering.specs.declared.gather.Moves.{Moves}
use Rattle.gathering.specs.Order.{order_of, order_in, members_of}
use Rattle.gathering.specs.Gather.{moves_at, left_at, gather_from, gather_of, along_of, most_moves, cnots_of, move_of, moves_of, moves_in, stored}
use Rattle.gathering.proofs.OrderCode.{front-is, order-size, members-are}
use Rattle.gathering.proofs.GatherWorks.{gather-step, gather_none, moves-few, gather-few, gather-from-few}

-- ---- moves put behind others

pub same-moves : {t t' : List Move} {n n' : ℕ} → t ≡ t' → n ≡ n' → ◌≡◌ {A = Moves} (record { moves = t; len = n }) (record { moves = t'; len = n' })
same-moves et en = cc

sets-both : (l : List Move) (i : ℕ) (g h : List Gate) → sets l i (map move_of (g ++ h)) ≡ sets (sets l i (map move_of g)) (i + length g) (map move_of h)
sets-both l i [] h = ap (λ (k : ℕ). sets l k (map move_of h)) (omega arith)
sets-both l i (x ∷ g) h =
    let n : suc i + length g ≡ i + suc (length g) = omega arith in
    sets-both (set l i (move_of x)) (suc i) g h ∙ ap (λ (k : ℕ). sets (sets (set l i (move_of x)) (suc i) (map move_of g)) k (map move_of h)) n

stored-both : (m : Moves) (g h : List Gate) → stored m (g ++ h) ≡ stored (stored m g) h
unfolding stored
stored-both m g h = same-moves (sets-both m.moves m.len g h) (omega (arith, length-append g h))

stored-none : (m : Moves) → stored m [] ≡ m
unfolding stored
stored-none m = same-moves refl (omega arith)

stored-start : (gs : List Gate) → stored (moves_in []) gs ≡ moves_in gs
unfolding stored moves_in
stored-start gs = same-moves refl (omega arith)

-- ---- the loop

-- the moves ms are laid, those of the first k members after the first are still to come
pub record Gathered (near os : List ℕ) (ms : Moves) (k E x : ℕ) (all : Moves) : Type 0 where
  pub room : ms.len + 2 * k ≤ most_moves
  pub holds : stored ms (gather_from near os k E x) ≡ all

module _ (near os : List ℕ) (ms : Moves) (k E x : ℕ) (all : Moves) (g : Gathered near os ms k E x all) where
  pub gathered_next : (j u d n y : ℕ) (ns : Moves) → 0 < k → j ≡ k - 1 → u ≡ get_or os k 0 → d ≡ only_of u → n ≡ get_or near u 0
      → ns ≡ stored ms (moves_at (bit_and n (bit_xor E d)) u x) → y ≡ left_at (bit_and n (bit_xor E d)) u x → Gathered near os ns j (bit_xor E d) y all
  unfolding stored
  gathered_next j u d n y ns p ej eu ed en es ey =
      rw (es, ey, ej)
      (record {
        room = omega (arith, g.room, moves-few a u x);
        holds = sym (stored-both ms L M) ∙ sym (ap (stored ms) list) ∙ g.holds;
      })
    where
      F : ℕ
      F = bit_xor E d

      a : ℕ
      a = bit_and n F

      L : List Gate
      L = moves_at a u x

      M : List Gate
      M = gather_from near os (k - 1) F (left_at a u x)

      list : gather_from near os k E x ≡ L ++ M
      list =
          ap (λ (j : ℕ). gather_from near os j E x) (omega arith) ∙ gather-step near os (k - 1) E x
          ∙ ap (λ (w : ℕ). moves_at (bit_and (get_or near w 0) (bit_xor E (only_of w))) w x ++ gather_from near os (k - 1) (bit_xor E (only_of w)) (left_at (bit_and (get_or near w 0) (bit_xor E (only_of w))) w x)) at
          ∙ ap₂ (λ (m w : ℕ). moves_at (bit_and m (bit_xor E w)) u x ++ gather_from near os (k - 1) (bit_xor E w) (left_at (bit_and m (bit_xor E w)) u x)) (sym en) (sym ed)
        where
          at : get_or os (suc (k - 1)) 0 ≡ u
          at = ap (λ (j : ℕ). get_or os j 0) (omega arith) ∙ sym eu

  pub gathered-end : k ≤ 0 → ms ≡ all
  gathered-end z = sym (stored-none ms) ∙ sym (ap (stored ms) none) ∙ g.holds
    where
      none : gather_from near os k E x ≡ []
      none = ap (λ (j : ℕ). gather_from near os j E x) (omega arith) ∙ gather_none near os E x

-- ---- along an order

-- numbers that are the same as far as the member k serve as well
pub gather-same : (near os qs : List ℕ) (k S x : ℕ) → ((j : ℕ) → j ≤ k → get_or qs j 0 ≡ get_or os j 0) → gather_from near qs k S x ≡ gather_from near os k S x
unfolding gather_from
gather-same near os qs zero S x h = refl
gather-same near os qs (suc k) S x h =
    let u : ℕ = get_or os (suc k) 0 in
    let E : ℕ = bit_xor S (only_of u) in
    let a : ℕ = bit_and (get_or near u 0) E in
    ap (λ (w : ℕ). moves_at (bit_and (get_or near w 0) (bit_xor S (only_of w))) w x ++ gather_from near qs k (bit_xor S (only_of w)) (left_at (bit_and (get_or near w 0) (bit_xor S (only_of w))) w x)) (h (suc k) (omega arith))
    ∙ ap (λ (l : List Gate). moves_at a u x ++ l) (gather-same near os qs k E (left_at a u x) (λ j l. h j (omega arith)))

module _ (near : List ℕ) (Q : ℕ) (o : Order) (x : ℕ) (l : length o.qubit ≡ 20) where
  members-count : length (members_of o) ≡ min o.len 20
  members-count = omega (arith, length-take o.len o.qubit, l)

  -- one qubit alone, or none, has nothing to take out
  pub along-none : length (members_of o) ≤ 1 → along_of near Q o x ≡ []
  unfolding along_of
  along-none h = ap (λ (j : ℕ). gather_from near o.qubit j Q x) (omega (arith, members-count)) ∙ gather_none near o.qubit Q x

  pub along-is : gather_from near (members_of o) (length (members_of o) - 1) Q x ≡ along_of near Q o x
  unfolding along_of
  along-is = go (dec_lt 0 (length (members_of o)))
    where
      go : Dec (0 < length (members_of o)) → gather_from near (members_of o) (length (members_of o) - 1) Q x ≡ gather_from near o.qubit (min o.len most_qubits - 1) Q x
      go (yes h) =
          gather-same near o.qubit (members_of o) (length (members_of o) - 1) Q x (λ j i. get_or-take o.len o.qubit j 0 (omega (arith, members-count)))
          ∙ ap (λ (j : ℕ). gather_from near o.qubit j Q x) (omega (arith, members-count))
      go (no m) =
          ap (λ (j : ℕ). gather_from near (members_of o) j Q x) (omega (arith, m)) ∙ gather_none near (members_of o) Q x
          ∙ sym (ap (λ (j : ℕ). gather_from near o.qubit j Q x) (omega (arith, m, members-count)) ∙ gather_none near o.qubit Q x)

  pub gathered-start : (ms : Moves) (k : ℕ) → k ≡ length (members_of o) - 1 → ms ≡ moves_in [] → Gathered near (members_of o) ms k Q x (moves_in (along_of near Q o x))
  unfolding moves_in
  gathered-start ms k ek e =
      rw (e, ek)
      (record {
        room = omega (arith, members-count);
        holds = stored-start (gather_from near (members_of o) (length (members_of o) - 1) Q x) ∙ ap moves_in along-is;
      })

module _ (near : List ℕ) (Q v x : ℕ) where
  -- an order whose members are those of `order_of`, whatever stands behind them
  pub along-members : (o : Order) → length o.qubit ≡ 20 → members_of o ≡ order_of near Q v → along_of near Q o x ≡ gather_of near Q v x
  unfolding gather_of
  along-members o l e = sym (along-is near Q o x l) ∙ ap (λ (os : List ℕ). gather_from near os (length os - 1) Q x) e

  pub along-order : (o : Order) → o ≡ order_in (order_of near Q v) → along_of near Q o x ≡ gather_of near Q v x
  along-order o e = along-members o (order-size near Q v o e) (members-are near Q v o e)

-- ---- the qubits behind the first, from the last one on

pub behind-first : (qs os : List ℕ) → qs ≡ os → take (length qs - 1) (drop 1 qs) ≡ drop 1 os
behind-first qs os e = take_all (length qs - 1) (drop 1 qs) (omega (arith, length-drop 1 qs)) ∙ ap (drop 1) e

-- the n-th of them is u, which is the k-th of all
pub later-one : (os : List ℕ) (n u : ℕ) → (n < length (reverse (drop 1 os))) × (u ≡ get_or (reverse (drop 1 os)) n u)
    → (0 < length os - 1 - n) × (u ≡ get_or os (length os - 1 - n) 0)
later-one [] n u t = absurd (omega (arith, t.0))
later-one (o ∷ os) n u t =
    let h : n < length os = omega (arith, t.0, length-reverse os) in
    let at : suc (length os - 1 - n) ≡ suc (length os) - 1 - n = omega arith in (
      omega arith,
      t.1 ∙ get_or-reverse os n u h ∙ get_or_default os (length os - 1 - n) u 0 (omega arith) ∙ ap (λ (k : ℕ). get_or (o ∷ os) k 0) at,
    )

pub all-later : (os : List ℕ) (n : ℕ) → n ≡ length (reverse (drop 1 os)) → length os - 1 - n ≤ 0
all-later os n e = omega (arith, length-reverse (drop 1 os), length-drop 1 os)

-- ---- moves read back

-- nothing but CNOTs
abbrev pub Plain : List Gate → Type 0
Plain [] = Unit {0}
Plain (Cnot c t ∷ gs) = Plain gs
Plain (Rotation q a ∷ gs) = ⊥
Plain (X q ∷ gs) = ⊥
Plain (Bad ∷ gs) = ⊥

cnots-back : (gs : List Gate) → Plain gs → cnots_of (map move_of gs) ≡ gs
cnots-back [] p = refl
cnots-back (Cnot c t ∷ gs) p = ap (λ (l : List Gate). Cnot c t ∷ l) (cnots-back gs p)
cnots-back (Rotation q a ∷ gs) p = absurd p
cnots-back (X q ∷ gs) p = absurd p
cnots-back (Bad ∷ gs) p = absurd p

pub moves-back : (gs : List Gate) → Plain gs → length gs ≤ most_moves → cnots_of (moves_of (moves_in gs)) ≡ gs
unfolding moves_in
moves-back gs p l =
    ap cnots_of (ap (λ (k : ℕ). take k (sets none 0 (map move_of gs))) (sym (length-map gs move_of)) ∙ front-is none (map move_of gs) (omega (arith, length-map gs move_of, length-replicate {A = Move} most_moves (record { to = 0; by = 0 }))))
    ∙ cnots-back gs p
  where
    none : List Move
    none = replicate most_moves (record { to = 0; by = 0 })

plain-append : (g h : List Gate) → Plain g → Plain h → Plain (g ++ h)
plain-append [] h p q = q
plain-append (Cnot c t ∷ g) h p q = plain-append g h p q
plain-append (Rotation r a ∷ g) h p q = absurd p
plain-append (X v ∷ g) h p q = absurd p
plain-append (Bad ∷ g) h p q = absurd p

moves-plain : (a u x : ℕ) → Plain (moves_at a u x)
unfolding moves_at
moves-plain a u x = go (has x u) (eqb (bit_and a x) 0) (eqb a 0)
  where
    go : (s t r : Bool) → Plain (pick s (pick t (pick r [] (Cnot (lowest_of a) u ∷ Cnot u (lowest_of a) ∷ [])) (Cnot u (lowest_of (bit_and a x)) ∷ [])) [])
    go true true true = tt
    go true true false = tt
    go true false r = tt
    go false t r = tt

from-plain : (near os : List ℕ) (k S x : ℕ) → Plain (gather_from near os k S x)
from-plain near os zero S x = subst Plain (sym (gather_none near os S x)) tt
from-plain near os (suc k) S x =
    let u : ℕ = get_or os (suc k) 0 in
    let E : ℕ = bit_xor S (only_of u) in
    let a : ℕ = bit_and (get_or near u 0) E in
    subst Plain (sym (gather-step near os k S x)) (plain-append (moves_at a u x) (gather_from near os k E (left_at a u x)) (moves-plain a u x) (from-plain near os k E (left_at a u x)))

pub gather-plain : (near : List ℕ) (Q v x : ℕ) → Plain (gather_of near Q v x)
unfolding gather_of
gather-plain near Q v x = from-plain near (order_of near Q v) (length (order_of near Q v) - 1) Q x

-- what `along` and `gather` give is read back as it was
pub along-back : (near : List ℕ) (Q : ℕ) (o : Order) (x : ℕ) → cnots_of (moves_of (moves_in (along_of near Q o x))) ≡ along_of near Q o x
unfolding along_of
along-back near Q o x =
    let k : ℕ = min o.len 20 - 1 in
    moves-back (gather_from near o.qubit k Q x) (from-plain near o.qubit k Q x) (omega (arith, gather-from-few near o.qubit k Q x))

pub gather-back : (near : List ℕ) (Q v x : ℕ) → cnots_of (moves_of (moves_in (gather_of near Q v x))) ≡ gather_of near Q v x
gather-back near Q v x = moves-back (gather_of near Q v x) (gather-plain near Q v x) (gather-few near Q v x)

pub moves-len : (gs : List Gate) → (moves_in gs).len ≡ length gs
unfolding moves_in
moves-len gs = refl

-- moves that are held are as many as they are, and those of a gathering fit their memory
pub held-len : (gs : List Gate) (m : Moves) → m ≡ moves_in gs → m.len ≡ length gs
held-len gs m e = ap (λ (w : Moves). w.len) e ∙ moves-len gs

pub gathered-few : (near : List ℕ) (Q v x : ℕ) (m : Moves) → m ≡ moves_in (gather_of near Q v x) → m.len ≤ most_moves
gathered-few near Q v x m e = omega (arith, held-len (gather_of near Q v x) m e, gather-few near Q v x)
