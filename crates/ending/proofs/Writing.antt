-- Gates written in a loop: those written so far, and those still to come. Assumes nothing.
use mathlib.Core.Path.{◌≡◌, refl, sym, ap, ap₂, ◌∙◌}
use mathlib.Core.Bool.{Bool, true, false}
use mathlib.Core.List.{List, [], ◌∷◌, ◌++◌, reverse, append_assoc, append-nil}
use Rattle.std.proofs.lemmas.List.{get_or-reverse, get_or_default, length-reverse}
use Prim.Native.Nat.{ℕ, suc, ◌+◌, ◌-◌, ◌≤◌, ◌<◌}
use native.Mathlib.Omega.{arith}
use native.Mathlib.Numerals.{add-one}
use lib.ListN.{get_or, length, take, drop, drop_of_length-le}
use lib.Seq.{take-suc, drop-cons}
use Rattle.gates.specs.declared.gate.Gate.{Gate}
use Rattle.gates.specs.declared.gate.Gate.TheVariants.{Cnot, Rotation, X, Bad}
use Rattle.gates.specs.Layout.{gate_of, gates_of}
use Rattle.circuit.specs.declared.wires.Wires.{Wires}
use Rattle.circuit.specs.State.{wires_of}
use Rattle.circuit.specs.Circuit.{run}
use Rattle.circuit.proofs.Circuits.{run-append}
use Rattle.emitting.specs.Emit.{emit, emit_at}
use Rattle.emitting.proofs.Emitting.{emit-none, emit-at-none, emit-append, emit-at-append}
use Rattle.gathering.specs.declared.gather.Move.{Move}
use Rattle.gathering.specs.Gather.{exchanged, cnot_of, cnots_of}
use Rattle.ending.specs.Closing.{back_of}
use Rattle.ending.specs.Mirror.{seen, mirrors_of}

-- what `rest` would write behind what stands is what `all` writes at first
pub record Writes (first : List ℕ) (from : ℕ) (all : List Gate) (out : List ℕ) (at : ℕ) (rest : List Gate) : Type 0 where
  pub list : emit out at rest ≡ emit first from all
  pub place : emit_at out at rest ≡ emit_at first from all

module _ (first : List ℕ) (from : ℕ) (all : List Gate) (out : List ℕ) (at : ℕ) where
  pub writes-on : (g rest more : List Gate) (next : List ℕ) (to : ℕ) → more ≡ g ++ rest → next ≡ emit out at g → to ≡ emit_at out at g
      → Writes first from all out at more → Writes first from all next to rest
  writes-on g rest more next to e el ea w =
      record {
        list = ap₂ (λ (o : List ℕ) (k : ℕ). emit o k rest) el ea ∙ sym (emit-append out at g rest) ∙ ap (emit out at) (sym e) ∙ w.list;
        place = ap₂ (λ (o : List ℕ) (k : ℕ). emit_at o k rest) el ea ∙ sym (emit-at-append out at g rest) ∙ ap (emit_at out at) (sym e) ∙ w.place;
      }

  pub writes_end : (rest : List Gate) → rest ≡ [] → Writes first from all out at rest → (out ≡ emit first from all) × (at ≡ emit_at first from all)
  writes_end rest e w =
      (sym (emit-none out at) ∙ ap (emit out at) (sym e) ∙ w.list, sym (emit-at-none out at) ∙ ap (emit_at out at) (sym e) ∙ w.place)

-- two lists written one behind the other
pub written_both : (first mid out : List ℕ) (from k to : ℕ) (g h all : List Gate) → all ≡ g ++ h → mid ≡ emit first from g → k ≡ emit_at first from g
    → out ≡ emit mid k h → to ≡ emit_at mid k h → (out ≡ emit first from all) × (to ≡ emit_at first from all)
written_both first mid out from k to g h all e em ek eo et = (
  eo ∙ ap₂ (λ (o : List ℕ) (j : ℕ). emit o j h) em ek ∙ sym (emit-append first from g h) ∙ ap (emit first from) (sym e),
  et ∙ ap₂ (λ (o : List ℕ) (j : ℕ). emit_at o j h) em ek ∙ sym (emit-at-append first from g h) ∙ ap (emit_at first from) (sym e),
)

-- the same list under another name
pub written_same : (first out : List ℕ) (from to : ℕ) (g all : List Gate) → all ≡ g → out ≡ emit first from g → to ≡ emit_at first from g → (out ≡ emit first from all) × (to ≡ emit_at first from all)
written_same first out from to g all e eo et = (eo ∙ ap (emit first from) (sym e), et ∙ ap (emit_at first from) (sym e))

-- nothing written
pub written_none : (out : List ℕ) (at : ℕ) (gs : List Gate) → gs ≡ [] → (out ≡ emit out at gs) × (at ≡ emit_at out at gs)
written_none out at gs e = (sym (ap (emit out at) e ∙ emit-none out at), sym (ap (emit_at out at) e ∙ emit-at-none out at))

-- ---- moves

seen-cons : (b : Bool) (g : Gate) (gs : List Gate) → seen b (g ∷ gs) ≡ seen b (g ∷ []) ++ seen b gs
seen-cons true (Cnot c t) gs = refl
seen-cons true (Rotation q a) gs = refl
seen-cons true (X q) gs = refl
seen-cons true Bad gs = refl
seen-cons false g gs = refl

pub moves_more : (b : Bool) (ms : List Move) (i : ℕ) (d : Move) (m g : Gate) → i < length ms → m ≡ cnot_of (get_or ms i d) → g ∷ [] ≡ seen b (m ∷ [])
    → seen b (cnots_of (drop i ms)) ≡ (g ∷ []) ++ seen b (cnots_of (drop (i + 1) ms))
moves_more b ms i d m g l em eg =
    ap (λ (l : List Move). seen b (cnots_of l)) (drop-cons ms i d l ∙ ap (λ (k : ℕ). get_or ms i d ∷ drop k ms) (sym (add-one i)))
    ∙ seen-cons b (cnot_of (get_or ms i d)) (cnots_of (drop (i + 1) ms))
    ∙ ap (λ (l : List Gate). l ++ seen b (cnots_of (drop (i + 1) ms))) (ap (λ (m : Gate). seen b (m ∷ [])) (sym em) ∙ sym eg)

pub moves-done : (b : Bool) (ms : List Move) (i : ℕ) → length ms ≤ i → seen b (cnots_of (drop i ms)) ≡ []
moves-done b ms i l = ap (λ (l : List Move). seen b (cnots_of l)) (drop_of_length-le ms l) ∙ none b
  where
    none : (b : Bool) → seen b [] ≡ []
    none true = refl
    none false = refl

-- ---- CNOTs in reverse

back-snoc : (gs : List Gate) (g : Gate) → back_of (gs ++ g ∷ []) ≡ back_of (g ∷ []) ++ back_of gs
back-snoc [] g = sym (append-nil (back_of (g ∷ [])))
back-snoc (Cnot c t ∷ gs) g = ap (λ (l : List Gate). l ++ Cnot c t ∷ []) (back-snoc gs g) ∙ append_assoc (back_of (g ∷ [])) (back_of gs) (Cnot c t ∷ [])
back-snoc (Rotation q a ∷ gs) g = back-snoc gs g
back-snoc (X q ∷ gs) g = back-snoc gs g
back-snoc (Bad ∷ gs) g = back-snoc gs g

gates-snoc : (n : ℕ) (xs : List ℕ) (x : ℕ) → gates_of n (xs ++ x ∷ []) ≡ gates_of n xs ++ gate_of n x ∷ []
gates-snoc n [] x = refl
gates-snoc n (y ∷ xs) x = ap (λ (l : List Gate). gate_of n y ∷ l) (gates-snoc n xs x)

-- the n-th record from the last one on
pub back_more : (laid : List ℕ) (n x : ℕ) (g : Gate) → (n < length (reverse laid)) × (x ≡ get_or (reverse laid) n x) → g ≡ gate_of 20 x
    → back_of (gates_of 20 (take (length laid - n) laid)) ≡ back_of (g ∷ []) ++ back_of (gates_of 20 (take (length laid - (n + 1)) laid))
back_more laid n x g t e =
    let l : n < length laid = omega (arith, t.0, length-reverse laid) in
    let k : ℕ = length laid - (n + 1) in
    let z : length laid - n ≡ suc k = omega arith in
    let j : length laid - 1 - n ≡ k = omega arith in
    let at : get_or laid k 0 ≡ x = sym (ap (λ (j : ℕ). get_or laid j 0) j) ∙ get_or_default laid (length laid - 1 - n) 0 x (omega arith) ∙ sym (get_or-reverse laid n x l) ∙ sym t.1 in
    ap (λ (xs : List ℕ). back_of (gates_of 20 xs)) (ap (λ (j : ℕ). take j laid) z ∙ take-suc laid k 0 (omega arith))
    ∙ ap back_of (gates-snoc 20 (take k laid) (get_or laid k 0)) ∙ back-snoc (gates_of 20 (take k laid)) (gate_of 20 (get_or laid k 0))
    ∙ ap (λ (h : Gate). back_of (h ∷ []) ++ back_of (gates_of 20 (take k laid))) (ap (gate_of 20) at ∙ sym e)

pub back_done : (laid : List ℕ) (n : ℕ) → n ≡ length (reverse laid) → back_of (gates_of 20 (take (length laid - n) laid)) ≡ []
back_done laid n e = let z : length laid - n ≡ 0 = omega (arith, length-reverse laid) in ap (λ (k : ℕ). back_of (gates_of 20 (take k laid))) z

-- ---- the mirror

next-drop : (xs : List ℕ) (i : ℕ) → i < length xs → drop i xs ≡ get_or xs i 0 ∷ drop (i + 1) xs
next-drop xs i l = drop-cons xs i 0 l ∙ ap (λ (k : ℕ). get_or xs i 0 ∷ drop k xs) (sym (add-one i))

exchanged-cons : (g : Gate) (gs : List Gate) → exchanged (g ∷ gs) ≡ exchanged (g ∷ []) ++ exchanged gs
exchanged-cons (Cnot c t) gs = refl
exchanged-cons (Rotation q a) gs = refl
exchanged-cons (X q) gs = refl
exchanged-cons Bad gs = refl

module _ (n : ℕ) (gates : List ℕ) where
  pub mirror-start : (w : Wires) → w ≡ wires_of [] → run (exchanged (gates_of n gates)) w.parity ≡ mirrors_of (gates_of n gates)
  unfolding mirrors_of wires_of run
  mirror-start w e = ap (λ (u : Wires). run (exchanged (gates_of n gates)) u.parity) e

  pub mirror-next : (i : ℕ) (all next : List ℕ) (g : Gate) → i < length gates → g ≡ gate_of n (get_or gates i 0) → next ≡ run (exchanged (g ∷ [])) all
      → run (exchanged (gates_of n (drop i gates))) all ≡ mirrors_of (gates_of n gates) → run (exchanged (gates_of n (drop (i + 1) gates))) next ≡ mirrors_of (gates_of n gates)
  mirror-next i all next g l e en h =
      ap (run (exchanged (gates_of n (drop (i + 1) gates)))) en
      ∙ sym (run-append (exchanged (g ∷ [])) (exchanged (gates_of n (drop (i + 1) gates))) all)
      ∙ ap (λ (l : List Gate). run l all) (sym (exchanged-cons g (gates_of n (drop (i + 1) gates))))
      ∙ ap (λ (x : Gate). run (exchanged (x ∷ gates_of n (drop (i + 1) gates))) all) e
      ∙ ap (λ (xs : List ℕ). run (exchanged (gates_of n xs)) all) (sym (next-drop gates i l)) ∙ h

  pub mirror-end : (i : ℕ) (all : List ℕ) → length gates ≤ i → run (exchanged (gates_of n (drop i gates))) all ≡ mirrors_of (gates_of n gates) → all ≡ mirrors_of (gates_of n gates)
  unfolding run
  mirror-end i all l h = sym (ap (λ (xs : List ℕ). run (exchanged (gates_of n xs)) all) (drop_of_length-le gates l)) ∙ h
