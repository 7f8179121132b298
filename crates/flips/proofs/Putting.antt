-- The X gates of an island written one behind another. Assumes nothing.
use mathlib.Core.Path.{◌≡◌, refl, sym, ap, ap₂, ◌∙◌}
use mathlib.Core.Bool.{true, false}
use mathlib.Core.List.{List, [], ◌∷◌, ◌++◌, map, map-append}
use Prim.Native.Nat.{ℕ, ◌+◌, ◌≤◌, ◌<◌}
use native.Mathlib.Omega.{arith}
use native.Mathlib.Numerals.{add-one}
use lib.ListN.{length}
use Rattle.gates.specs.declared.gate.Gate.TheVariants.{X}
use Rattle.emitting.specs.Emit.{emit, emit_at}
use Rattle.emitting.proofs.Emitting.{emit-none, emit-at-none, emit-append, emit-at-append}
use Rattle.flips.specs.Xs.{asks_flip, flipped_to, xs_on}
use Rattle.flips.proofs.Xs.{flipped-yes, flipped-no}

-- those on the wires below q are written from `at` on
pub record Put (Q : ℕ) (F out₀ : List ℕ) (at q : ℕ) (out : List ℕ) (next : ℕ) : Type 0 where
  pub within : q ≤ 20
  pub size : length out ≡ length out₀
  pub memory : out ≡ emit out₀ at (map X (flipped_to Q F q))
  pub place : next ≡ emit_at out₀ at (map X (flipped_to Q F q))

pub put-none : (Q : ℕ) (F out₀ : List ℕ) (at : ℕ) → Put Q F out₀ at 0 out₀ at
unfolding flipped_to
put-none Q F out₀ at = record { within = omega arith; size = refl; memory = sym (emit-none out₀ at); place = sym (emit-at-none out₀ at) }

module _ (Q : ℕ) (F out₀ : List ℕ) (at q : ℕ) (out : List ℕ) (next : ℕ) (l : q < 20) (r : Put Q F out₀ at q out next) where
  pub put-not : (out' : List ℕ) (next' : ℕ) → asks_flip Q F q ≡ false → out' ≡ out → next' ≡ next → Put Q F out₀ at (q + 1) out' next'
  put-not out' next' e a b =
      let s : flipped_to Q F (q + 1) ≡ flipped_to Q F q = ap (flipped_to Q F) (add-one q) ∙ flipped-no Q F q e in
      record {
        within = omega arith;
        size = ap length a ∙ r.size;
        memory = a ∙ r.memory ∙ ap (λ (qs : List ℕ). emit out₀ at (map X qs)) (sym s);
        place = b ∙ r.place ∙ ap (λ (qs : List ℕ). emit_at out₀ at (map X qs)) (sym s);
      }

  pub put_next : (out' : List ℕ) (next' : ℕ) → asks_flip Q F q ≡ true → length out' ≡ length out → out' ≡ emit out next (X q ∷ []) → next' ≡ emit_at out next (X q ∷ [])
      → Put Q F out₀ at (q + 1) out' next'
  put_next out' next' e k m p =
      let s : map X (flipped_to Q F (q + 1)) ≡ map X (flipped_to Q F q) ++ X q ∷ [] =
      ap (λ (j : ℕ). map X (flipped_to Q F j)) (add-one q) ∙ ap (map X) (flipped-yes Q F q e) ∙ map-append X (flipped_to Q F q) (q ∷ []) in
      record {
        within = omega arith;
        size = k ∙ r.size;
        memory = m ∙ ap₂ (λ (o : List ℕ) (a : ℕ). emit o a (X q ∷ [])) r.memory r.place ∙ sym (emit-append out₀ at (map X (flipped_to Q F q)) (X q ∷ [])) ∙ ap (emit out₀ at) (sym s);
        place = p ∙ ap₂ (λ (o : List ℕ) (a : ℕ). emit_at o a (X q ∷ [])) r.memory r.place ∙ sym (emit-at-append out₀ at (map X (flipped_to Q F q)) (X q ∷ [])) ∙ ap (emit_at out₀ at) (sym s);
      }

pub put_all : (Q : ℕ) (F out₀ : List ℕ) (at q : ℕ) (out : List ℕ) (next : ℕ) → 20 ≤ q → Put Q F out₀ at q out next → (out ≡ emit out₀ at (xs_on Q F)) × (next ≡ emit_at out₀ at (xs_on Q F))
unfolding xs_on
put_all Q F out₀ at q out next h r =
    let e : q ≡ 20 = omega (arith, r.within) in
    (r.memory ∙ ap (λ (k : ℕ). emit out₀ at (map X (flipped_to Q F k))) e, r.place ∙ ap (λ (k : ℕ). emit_at out₀ at (map X (flipped_to Q F k))) e)
