-- The laws of depth: 0 exactly when there is no CNOT, at most the number of CNOTs, the same with and without any other gate; and no part of a list is deeper than the list. Assumes nothing.
use mathlib.Core.Path.{◌≡◌, refl, sym, ap, subst}
use mathlib.Core.Logic.{◌↔◌}
use mathlib.Core.List.{List, [], ◌∷◌, ◌++◌}
use Prim.Native.Nat.{ℕ, zero, suc, ◌+◌, ◌≤◌, ◌<◌, max}
use native.Mathlib.Nat.{le_refl}
use native.Mathlib.Omega.{arith}
use lib.ListN.{length, get_or, set, replicate, length-set}
use lib.Seq.{get_or-set_same, set-get_or}
use Rattle.gates.specs.Limits.{most_qubits}
use Rattle.gates.specs.declared.gate.Gate.{Gate}
use Rattle.gates.specs.declared.gate.Gate.TheVariants.{Cnot, Rotation, X, Bad}
use Rattle.gates.specs.Layout.{Good}
use Rattle.sets.specs.Lists.{All}
use Rattle.tallies.specs.Tally.{tally, one_cnot, cnots_of, raised, layered, layers_from, highest, depth_of}
use Rattle.tallies.specs.Sublist.{Sublist, none, with, without}
use Rattle.tallies.proofs.Tallies.{cnots-most}
use Rattle.tallies.proofs.Layers.{highest-at, highest-layered, highest-none}

-- ---- at most the number of CNOTs

layers-few : (gs : List Gate) (L : List ℕ) → highest (layers_from gs L) ≤ cnots_of gs + highest L
unfolding layers_from cnots_of tally
layers-few [] L = omega arith
layers-few (g ∷ gs) L = omega (arith, layers-few gs (layered g L), highest-layered g L)

-- one more for each gate at most
pub highest-layers : (gs : List Gate) (L : List ℕ) → highest (layers_from gs L) ≤ highest L + length gs
highest-layers gs L = omega (arith, layers-few gs L, cnots-most gs)

pub depth-few : (gs : List Gate) → depth_of gs ≤ cnots_of gs
unfolding depth_of
depth-few gs = omega (arith, layers-few gs (replicate most_qubits 0), highest-none most_qubits)

-- ---- a gate that is no CNOT changes nothing, wherever it stands

layered-passes : (g : Gate) (L : List ℕ) → one_cnot g ≡ 0 → layered g L ≡ L
unfolding layered
layered-passes (Cnot c t) L e = absurd (omega (arith, e))
layered-passes (Rotation q a) L e = refl
layered-passes (X q) L e = refl
layered-passes Bad L e = refl

layers-pass : (f : List Gate) (g : Gate) (h : List Gate) (L : List ℕ) → one_cnot g ≡ 0 → layers_from (f ++ g ∷ h) L ≡ layers_from (f ++ h) L
unfolding layers_from
layers-pass [] g h L e = ap (layers_from h) (layered-passes g L e)
layers-pass (x ∷ f) g h L e = layers-pass f g h (layered x L) e

-- "a Z rotation on this chip takes no time"; an X is passed over too
pub depth-passes : (f : List Gate) (g : Gate) (h : List Gate) → one_cnot g ≡ 0 → depth_of (f ++ g ∷ h) ≡ depth_of (f ++ h)
unfolding depth_of
depth-passes f g h e = ap highest (layers-pass f g h (replicate most_qubits 0) e)

-- ---- what stands between two lists is a part of all three

part_none : (h : List Gate) → Sublist [] h
part_none [] = none
part_none (x ∷ h) = without x (part_none h)

part-front : (g h : List Gate) → Sublist g (g ++ h)
part-front [] h = part_none h
part-front (x ∷ g) h = with x (part-front g h)

pub part-between : (f g h : List Gate) → Sublist g (f ++ g ++ h)
part-between [] g h = part-front g h
part-between (x ∷ f) g h = without x (part-between f g h)

-- ---- no part is deeper than the whole

-- on no wire are the layers L later than the layers M
data NotLater : List ℕ → List ℕ → Type 0 where
  no_wire : NotLater [] []
  wire : {x y : ℕ} {L M : List ℕ} → x ≤ y → NotLater L M → NotLater (x ∷ L) (y ∷ M)

below-same : (L : List ℕ) → NotLater L L
below-same [] = no_wire
below-same (x ∷ L) = wire (le_refl x) (below-same L)

below_at : {L M : List ℕ} → NotLater L M → (k : ℕ) → get_or L k 0 ≤ get_or M k 0
below_at no_wire k = omega arith
below_at (wire h b) zero = h
below_at (wire h b) (suc k) = below_at b k

below-highest : {L M : List ℕ} → NotLater L M → highest L ≤ highest M
unfolding highest
below-highest no_wire = omega arith
below-highest (wire h b) = omega (arith, h, below-highest b)

below_set : {L M : List ℕ} (k v w : ℕ) → NotLater L M → v ≤ w → NotLater (set L k v) (set M k w)
below_set k v w no_wire l = no_wire
below_set zero v w (wire h b) l = wire l b
below_set (suc k) v w (wire h b) l = wire h (below_set k v w b l)

below_put : {L M : List ℕ} (k w : ℕ) → NotLater L M → get_or L k 0 ≤ w → NotLater L (set M k w)
below_put {L} {M} k w b l = subst (λ (N : List ℕ). NotLater N (set M k w)) (set-get_or L k 0) (below_set k (get_or L k 0) w b l)

-- a gate keeps the order of the layers it finds
below-layered : {L M : List ℕ} (g : Gate) → NotLater L M → NotLater (layered g L) (layered g M)
unfolding layered raised
below-layered {L} {M} (Cnot c t) b =
    let v : ℕ = suc (max (get_or L c 0) (get_or L t 0)) in
    let w : ℕ = suc (max (get_or M c 0) (get_or M t 0)) in
    let l : v ≤ w = omega (arith, below_at b c, below_at b t) in
    below_set t v w (below_set c v w b l) l
below-layered (Rotation q a) b = b
below-layered (X q) b = b
below-layered Bad b = b

-- no gate makes a layer earlier
below-later : {L M : List ℕ} (g : Gate) → NotLater L M → NotLater L (layered g M)
unfolding layered raised
below-later {L} {M} (Cnot c t) b =
    let w : ℕ = suc (max (get_or M c 0) (get_or M t 0)) in
    below_put t w (below_put c w b (omega (arith, below_at b c))) (omega (arith, below_at b t))
below-later (Rotation q a) b = b
below-later (X q) b = b
below-later Bad b = b

layers-part : {part gs : List Gate} {L M : List ℕ} → Sublist part gs → NotLater L M → NotLater (layers_from part L) (layers_from gs M)
unfolding layers_from
layers-part none b = b
layers-part (with g p) b = layers-part p (below-layered g b)
layers-part (without g p) b = layers-part p (below-later g b)

pub depth-part : {part gs : List Gate} → Sublist part gs → depth_of part ≤ depth_of gs
unfolding depth_of
depth-part p = below-highest (layers-part p (below-same (replicate most_qubits 0)))

-- ---- 0 exactly when there is no CNOT

highest-later : (gs : List Gate) (L : List ℕ) → highest L ≤ highest (layers_from gs L)
unfolding layers_from
highest-later gs L = below-highest (layers-part (part_none gs) (below-same L))

-- the target of a CNOT is in a layer
highest-cnot : (c t : ℕ) (L : List ℕ) → t < length L → 1 ≤ highest (layered (Cnot c t) L)
unfolding layered raised
highest-cnot c t L l =
    let v : ℕ = suc (max (get_or L c 0) (get_or L t 0)) in
    let M : List ℕ = set L c v in
    omega (arith, highest-at (set M t v) t, get_or-set_same M t v 0 (subst (λ (k : ℕ). t < k) (sym (length-set L c v)) l))

cnot-deep : (gs : List Gate) (L : List ℕ) → length L ≡ most_qubits → All (Good most_qubits) gs → highest (layers_from gs L) ≡ 0 → cnots_of gs ≡ 0
unfolding layers_from cnots_of tally All Good layered
cnot-deep [] L l a e = refl
cnot-deep (Cnot c t ∷ gs) L l a e = omega (arith, e, highest-later gs (layered (Cnot c t) L), highest-cnot c t L (omega (arith, l, a.0.1)))
cnot-deep (Rotation q b ∷ gs) L l a e = omega (arith, cnot-deep gs L l a.1 e)
cnot-deep (X q ∷ gs) L l a e = omega (arith, cnot-deep gs L l a.1 e)
cnot-deep (Bad ∷ gs) L l a e = omega (arith, cnot-deep gs L l a.1 e)

pub depth-none : (gs : List Gate) → All (Good most_qubits) gs → depth_of gs ≡ 0 ↔ cnots_of gs ≡ 0
unfolding depth_of
depth-none gs a = (cnot-deep gs (replicate most_qubits 0) refl a, λ e. omega (arith, e, depth-few gs))
