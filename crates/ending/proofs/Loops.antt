-- Rows under gates one after another, as loops turn them. Assumes nothing.
use mathlib.Core.Path.{◌≡◌, refl, sym, ap, ap₂, ◌∙◌}
use mathlib.Core.Bool.{Bool, true, false}
use mathlib.Core.List.{List, [], ◌∷◌, ◌++◌, map}
use Prim.Native.Nat.{ℕ, ◌+◌, ◌≤◌, ◌<◌}
use native.Mathlib.Numerals.{add-one}
use lib.ListN.{get_or, length, drop, drop_of_length-le}
use lib.Seq.{drop-cons}
use Rattle.gates.specs.declared.gate.Gate.{Gate}
use Rattle.gates.specs.declared.gate.Gate.TheVariants.{Cnot, Rotation, X, Bad}
use Rattle.gates.specs.Layout.{gate_of, gates_of}
use Rattle.gathering.specs.Gather.{turns}
use Rattle.gathering.proofs.GatherWorks.{turns-append}
use Rattle.ending.specs.Mirror.{seen}

pub turns-twice : (L M : List Gate) (N : List ℕ) → map (turns M) (map (turns L) N) ≡ map (turns (L ++ M)) N
turns-twice L M [] = refl
turns-twice L M (x ∷ N) = ap₂ (λ (y : ℕ) (l : List ℕ). y ∷ l) (sym (turns-append L M x)) (turns-twice L M N)

-- ---- gates of records

pub seen_step : (b : Bool) (g : Gate) (gs : List Gate) (x : ℕ) → turns (seen b (g ∷ gs)) x ≡ turns (seen b gs) (turns (seen b (g ∷ [])) x)
seen_step true (Cnot c t) gs x = refl
seen_step true (Rotation q a) gs x = refl
seen_step true (X q) gs x = refl
seen_step true Bad gs x = refl
seen_step false (Cnot c t) gs x = refl
seen_step false (Rotation q a) gs x = refl
seen_step false (X q) gs x = refl
seen_step false Bad gs x = refl

seen-steps : (b : Bool) (g : Gate) (gs : List Gate) (N : List ℕ) → map (turns (seen b (g ∷ gs))) N ≡ map (turns (seen b gs)) (map (turns (seen b (g ∷ []))) N)
seen-steps b g gs [] = refl
seen-steps b g gs (x ∷ N) = ap₂ (λ (y : ℕ) (l : List ℕ). y ∷ l) (seen_step b g gs x) (seen-steps b g gs N)

seen_none : (b : Bool) (N : List ℕ) → map (turns (seen b [])) N ≡ N
seen_none b [] = refl
seen_none true (x ∷ N) = ap (λ (l : List ℕ). x ∷ l) (seen_none true N)
seen_none false (x ∷ N) = ap (λ (l : List ℕ). x ∷ l) (seen_none false N)

module _ (b : Bool) (laid N : List ℕ) where
  pub replayed-next : (i : ℕ) (A B : List ℕ) (g : Gate) → i < length laid → g ≡ gate_of 20 (get_or laid i 0) → B ≡ map (turns (seen b (g ∷ []))) A
      → map (turns (seen b (gates_of 20 (drop i laid)))) A ≡ map (turns (seen b (gates_of 20 laid))) N
      → map (turns (seen b (gates_of 20 (drop (i + 1) laid)))) B ≡ map (turns (seen b (gates_of 20 laid))) N
  replayed-next i A B g l eg e_b h =
      ap (map (turns (seen b (gates_of 20 (drop (i + 1) laid))))) e_b
      ∙ sym (seen-steps b g (gates_of 20 (drop (i + 1) laid)) A)
      ∙ ap (λ (e : Gate). map (turns (seen b (e ∷ gates_of 20 (drop (i + 1) laid)))) A) eg
      ∙ sym (ap (λ (r : List ℕ). map (turns (seen b (gates_of 20 r))) A) (drop-cons laid i 0 l ∙ ap (λ (k : ℕ). get_or laid i 0 ∷ drop k laid) (sym (add-one i)))) ∙ h

  pub replayed-end : (i : ℕ) (A : List ℕ) → length laid ≤ i → map (turns (seen b (gates_of 20 (drop i laid)))) A ≡ map (turns (seen b (gates_of 20 laid))) N → A ≡ map (turns (seen b (gates_of 20 laid))) N
  replayed-end i A l h = sym (ap (λ (r : List ℕ). map (turns (seen b (gates_of 20 r))) A) (drop_of_length-le laid l) ∙ seen_none b A) ∙ h
