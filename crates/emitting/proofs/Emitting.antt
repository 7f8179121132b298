-- Gates written one list behind another: the laws of `emit` and `emit_at`. Assumes nothing.
use mathlib.Core.Path.{◌≡◌, refl, sym, ap, ◌∙◌}
use mathlib.Core.Bool.{Bool, true, false}
use mathlib.Core.List.{List, [], ◌∷◌, ◌++◌, map, map-append}
use Prim.Native.Nat.{ℕ, suc, ◌+◌, ◌≤◌, ◌<◌, max, min}
use native.Mathlib.Omega.{arith}
use lib.Dec.{ltb}
use lib.ListN.{length, set, take, drop, length-append, length-map}
use lib.Seq.{sets, length-sets, sets-eq, set_out}
use borrow.Author.Tests.{ltb-true, ltb-false}
use Rattle.sets.specs.Pick.{pick}
use Rattle.gates.specs.Layout.{record_of}
use Rattle.gates.specs.declared.gate.Gate.{Gate}
use Rattle.emitting.specs.Emit.{next_at, emit, emit_at}
use Rattle.sets.proofs.Storing.{sets-append}

-- past the end nothing is stored
sets-past : (l : List ℕ) (i : ℕ) (vs : List ℕ) → length l ≤ i → sets l i vs ≡ l
sets-past l i [] h = refl
sets-past l i (v ∷ vs) h =
    ap (λ (m : List ℕ). sets m (suc i) vs) (set_out l i v h) ∙ sets-past l (suc i) vs (omega arith)

pub emit-none : (out : List ℕ) (at : ℕ) → emit out at [] ≡ out
unfolding emit
emit-none out at = refl

pub emit-at-none : (out : List ℕ) (at : ℕ) → emit_at out at [] ≡ at
unfolding emit_at
emit-at-none out at = omega arith

pub emit-length : (out : List ℕ) (at : ℕ) (gs : List Gate) → length (emit out at gs) ≡ length out
unfolding emit
emit-length out at gs = length-sets out at (map record_of gs)

-- the gates g, then the gates h
pub emit-append : (out : List ℕ) (at : ℕ) (g h : List Gate) → emit out at (g ++ h) ≡ emit (emit out at g) (emit_at out at g) h
unfolding emit emit_at
emit-append out at g h =
    ap (sets out at) (map-append record_of g h) ∙ sets-append out at (map record_of g) (map record_of h)
    ∙ ap (λ k. sets (sets out at (map record_of g)) (at + k) (map record_of h)) (length-map g record_of)
    ∙ go (ltb (length out) (at + length g)) refl
  where
    o : List ℕ
    o = sets out at (map record_of g)

    ol : length o ≡ length out
    ol = length-sets out at (map record_of g)

    go : (b : Bool) → ltb (length out) (at + length g) ≡ b
        → sets o (at + length g) (map record_of h) ≡ sets o (max at (min (at + length g) (length out))) (map record_of h)
    go true e =
        let past : length out < at + length g = ltb-true (length out) (at + length g) e in
        sets-past o (at + length g) (map record_of h) (omega (arith, ol)) ∙ sym (sets-past o (max at (min (at + length g) (length out))) (map record_of h) (omega (arith, ol)))
    go false e =
        let room : at + length g ≤ length out = ltb-false (length out) (at + length g) e in
        ap (λ k. sets o k (map record_of h)) (omega arith)

pub emit-at-append : (out : List ℕ) (at : ℕ) (g h : List Gate) → emit_at out at (g ++ h) ≡ emit_at (emit out at g) (emit_at out at g) h
unfolding emit_at
emit-at-append out at g h =
    let m : ℕ = max at (min (at + length g) (length out)) in
    ap (λ (k : ℕ). max at (min (at + k) (length out))) (length-append g h)
    ∙ sums at (length g) (length h) (length out)
    ∙ ap (λ (k : ℕ). max m (min (m + length h) k)) (sym (emit-length out at g))
  where
    sums : (a g h l : ℕ) → max a (min (a + (g + h)) l) ≡ max (max a (min (a + g) l)) (min (max a (min (a + g) l) + h) l)
    sums a g h l = omega arith

-- with room, the place is behind all of them, and the list is what stood there, the records, and what stood behind
pub emit-at-room : (out : List ℕ) (at : ℕ) (gs : List Gate) → at + length gs ≤ length out → emit_at out at gs ≡ at + length gs
unfolding emit_at
emit-at-room out at gs h = omega arith

pub emit-room : (out : List ℕ) (at : ℕ) (gs : List Gate) → at + length gs ≤ length out
    → emit out at gs ≡ take at out ++ map record_of gs ++ drop (at + length gs) out
unfolding emit
emit-room out at gs h =
    sets-eq (map record_of gs) out at (omega (arith, length-map gs record_of))
    ∙ ap (λ (k : ℕ). take at out ++ map record_of gs ++ drop (at + k) out) (length-map gs record_of)

-- one gate, as the code writes it
pub emit-one : (out : List ℕ) (at : ℕ) (g : Gate) → emit out at (g ∷ []) ≡ set out at (record_of g)
unfolding emit
emit-one out at g = refl

pub emit-at-one : (out : List ℕ) (at : ℕ) (g : Gate) → emit_at out at (g ∷ []) ≡ next_at out at
unfolding emit_at next_at
emit-at-one out at g = go (ltb at (length out)) refl
  where
    go : (b : Bool) → ltb at (length out) ≡ b → max at (min (at + 1) (length out)) ≡ pick b (at + 1) at
    go true e = omega (arith, ltb-true at (length out) e)
    go false e = omega (arith, ltb-false at (length out) e)

pub emit-put : (out out' : List ℕ) (at : ℕ) (g : Gate) (x : ℕ) → x ≡ record_of g → out' ≡ set out at x → out' ≡ emit out at (g ∷ [])
emit-put out out' at g x e h = h ∙ ap (set out at) e ∙ sym (emit-one out at g)
