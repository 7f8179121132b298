-- Records written once more, gate by gate, and read back as the gates they hold. Assumes nothing.
use mathlib.Core.Path.{◌≡◌, refl, sym, ap, ap₂, ◌∙◌}
use mathlib.Core.List.{List, [], ◌∷◌, ◌++◌, map, map-append}
use Prim.Native.Nat.{ℕ, suc, ◌+◌, ◌≤◌, ◌<◌}
use native.Mathlib.Omega.{arith}
use native.Mathlib.Numerals.{add-one}
use lib.ListN.{length, get_or, set, take, drop, replicate, length-map, length-take, length-replicate, take-append-drop}
use lib.Seq.{sets, sets-eq, take-suc, take_all, take-set-le, take-append_seam}
use Rattle.gates.specs.declared.gate.Gate.{Gate}
use Rattle.gates.specs.Layout.{gate_of, gates_of, record_of, Good}
use Rattle.sets.specs.Lists.{All}
use Rattle.gates.proofs.Alls.{records-gates}
use Rattle.tallies.specs.Tally.{largest}
use Rattle.emitting.specs.Emit.{emit, emit_at}
use Rattle.emitting.proofs.Emitting.{emit-none, emit-at-none, emit-append, emit-at-append}
use Rattle.ways.specs.Memory.{in_memory, FitsMemory}
use Rattle.sets.proofs.Storing.{sets-append}

-- the first k records are written from `at` on
pub record Replayed (laid out₀ : List ℕ) (at k : ℕ) (out : List ℕ) (next : ℕ) : Type 0 where
  pub within : k ≤ length laid
  pub size : length out ≡ length out₀
  pub memory : out ≡ emit out₀ at (gates_of 20 (take k laid))
  pub place : next ≡ emit_at out₀ at (gates_of 20 (take k laid))

pub replayed-none : (laid out₀ : List ℕ) (at : ℕ) → Replayed laid out₀ at 0 out₀ at
replayed-none laid out₀ at = record { within = omega arith; size = refl; memory = sym (emit-none out₀ at); place = sym (emit-at-none out₀ at) }

pub replayed-next : (laid out₀ : List ℕ) (at k : ℕ) (out : List ℕ) (next : ℕ) (g : Gate) (out' : List ℕ) (next' : ℕ) → k < length laid → g ≡ gate_of 20 (get_or laid k 0)
    → length out' ≡ length out → out' ≡ emit out next (g ∷ []) → next' ≡ emit_at out next (g ∷ []) → Replayed laid out₀ at k out next → Replayed laid out₀ at (k + 1) out' next'
replayed-next laid out₀ at k out next g out' next' h e s m p r =
    let one : gates_of 20 (take (k + 1) laid) ≡ gates_of 20 (take k laid) ++ g ∷ [] =
    ap (gates_of 20) (ap (λ (j : ℕ). take j laid) (add-one k) ∙ take-suc laid k 0 h) ∙ map-append (gate_of 20) (take k laid) (get_or laid k 0 ∷ [])
    ∙ ap (λ (x : Gate). gates_of 20 (take k laid) ++ x ∷ []) (sym e) in
    record {
      within = omega arith;
      size = s ∙ r.size;
      memory = m ∙ ap₂ (λ (o : List ℕ) (a : ℕ). emit o a (g ∷ [])) r.memory r.place ∙ sym (emit-append out₀ at (gates_of 20 (take k laid)) (g ∷ [])) ∙ ap (emit out₀ at) (sym one);
      place = p ∙ ap₂ (λ (o : List ℕ) (a : ℕ). emit_at o a (g ∷ [])) r.memory r.place ∙ sym (emit-at-append out₀ at (gates_of 20 (take k laid)) (g ∷ [])) ∙ ap (emit_at out₀ at) (sym one);
    }

pub replayed-all : (laid out₀ : List ℕ) (at k : ℕ) (out : List ℕ) (next : ℕ) → length laid ≤ k → Replayed laid out₀ at k out next
    → (out ≡ emit out₀ at (gates_of 20 laid)) × (next ≡ emit_at out₀ at (gates_of 20 laid))
replayed-all laid out₀ at k out next h r =
    let w : take k laid ≡ laid = take_all k laid h in
    (r.memory ∙ ap (λ (l : List ℕ). emit out₀ at (gates_of 20 l)) w, r.place ∙ ap (λ (l : List ℕ). emit_at out₀ at (gates_of 20 l)) w)

-- ---- a memory of the largest B holds the first of the gates that are written to it

abbrev pub zeros : List ℕ
zeros = replicate largest 0

-- what stands before a store stays
take-sets : (k : ℕ) (l : List ℕ) (i : ℕ) (vs : List ℕ) → k ≤ i → take k (sets l i vs) ≡ take k l
take-sets k l i [] h = refl
take-sets k l i (v ∷ vs) h = take-sets k (set l i v) (suc i) vs (omega arith) ∙ take-set-le k l i v h

module _ (gs : List Gate) where
  abbrev first : List Gate
  first = take largest gs

  abbrev records : List ℕ
  records = map record_of first

  count_held : emit_at zeros 0 gs ≡ length first
  unfolding emit_at
  count_held = omega (arith, length-take largest gs, length-replicate {A = ℕ} largest 0)

  fits : 0 + length first ≤ length zeros
  fits = omega (arith, length-take largest gs, length-replicate {A = ℕ} largest 0)

  pub records-held : take (emit_at zeros 0 gs) (emit zeros 0 gs) ≡ records
  unfolding emit
  records-held =
      ap₂ (λ (k : ℕ) (vs : List ℕ). take k (sets zeros 0 vs)) (count_held ∙ sym (length-map first record_of)) (ap (map record_of) (sym (take-append-drop largest gs)) ∙ map-append record_of first (drop largest gs))
      ∙ ap (take (length records)) (sets-append zeros 0 records (map record_of (drop largest gs)))
      ∙ take-sets (length records) (sets zeros 0 records) (0 + length records) (map record_of (drop largest gs)) (omega arith)
      ∙ ap (take (length records)) (sets-eq records zeros 0 (omega (arith, fits, length-map first record_of)))
      ∙ take-append_seam records (drop (0 + length records) zeros)

  -- all of them, where they fit, by any width in which they are good
  module _ (fits_all : FitsMemory gs) where
    records-read : (n : ℕ) → n ≤ 256 → All (Good n) gs → gates_of n records ≡ gs
    records-read n w good = ap (λ (l : List Gate). gates_of n (map record_of l)) (take_all largest gs fits_all.few) ∙ records-gates n gs w good

    pub gates_read : (n : ℕ) → n ≤ 256 → All (Good n) gs → gates_of n (take (emit_at zeros 0 gs) (emit zeros 0 gs)) ≡ gs
    gates_read n w good = ap (gates_of n) records-held ∙ records-read n w good

    pub memory-fits : in_memory gs ≡ gs
    unfolding in_memory
    memory-fits = records-read 20 (omega arith) fits_all.good
