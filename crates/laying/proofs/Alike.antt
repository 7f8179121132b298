-- Equal islands get equal gates, whatever else their jobs hold. Assumes nothing.
use mathlib.Core.Path.{◌≡◌, refl, sym, ap, ap₂, ◌∙◌, subst}
use mathlib.Core.Logic.{◌≢◌, ◌⊎◌, inl, inr}
use mathlib.Core.Bool.{Bool, true, false}
use mathlib.Core.List.{List, [], ◌++◌, append-nil}
use Prim.Native.Nat.{ℕ, zero, suc, ◌≤◌, ◌<◌}
use native.Mathlib.Omega.{arith}
use native.Mathlib.Decide.{ℕ_discrete}
use lib.ListN.{get_or}
use lib.Bits.{bit_and}
use Rattle.sets.specs.Pick.{pick}
use Rattle.sets.specs.Bit.{bit, In, Sub, has}
use Rattle.sets.proofs.Deciding.{both_true, both_yes, both-not}
use Rattle.sets.proofs.Bits.{bit-cases}
use Rattle.sets.proofs.Members.{in_and, and_in, sub-eq}
use Rattle.sets.proofs.Words.{has-true, in-has, out-has}
use Rattle.gates.specs.declared.gate.Gate.{Gate}
use Rattle.gates.specs.declared.gate.Gate.TheVariants.{Cnot, Rotation, X, Bad}
use Rattle.sets.specs.Lists.{All}
use Rattle.sets.proofs.Lists.{all_map, all_append, those-none, those-append, those-every, those-no}
use Rattle.flips.specs.Xs.{xs_on}
use Rattle.flips.proofs.Xs.{xs-all}
use Rattle.meaning.specs.Borne.{Among}
use Rattle.meaning.proofs.Lists.{Up, ascending-same}
use Rattle.chip.specs.Graph.{Near}
use Rattle.chip.specs.Inside.{Inside}
use Rattle.share.specs.Own.{own_sets, own_terms}
use Rattle.laying.specs.Islands.{leads, laid_to}
use Rattle.laying.specs.Demands.{is_on, gates_on}
use Rattle.laying.proofs.Parting.{Parts, on-led}
use Rattle.laying.proofs.Composing.{laid-led, laid-not}
use Rattle.laying.proofs.Restricting.{own_same}
use Rattle.laying.proofs.Owning.{own-up, own-has, own_back}

-- ---- the gates on one island among those of all

on-append : (S : ℕ) (g h : List Gate) → gates_on S (g ++ h) ≡ gates_on S g ++ gates_on S h
unfolding gates_on
on-append S g h = those-append (is_on S) g h

-- all qubits of a gate are in S
abbrev pub OnSet : ℕ → Gate → Type 0
OnSet S g = is_on S g ≡ true

on-all : (S : ℕ) (gs : List Gate) → All (OnSet S) gs → gates_on S gs ≡ gs
unfolding gates_on
on-all S gs a = those-every (is_on S) gs a

on-off : (S R : ℕ) → ((i : ℕ) → In i R → bit S i ≡ 0) → (g : Gate) → OnSet R g → is_on S g ≡ false
unfolding is_on
on-off S R off (Cnot c t) h = both-not (has S c) (has S t) (out-has S c (off c (has-true R c (both_true (has R c) (has R t) h).0)))
on-off S R off (Rotation q a) h = out-has S q (off q (has-true R q h))
on-off S R off (X q) h = out-has S q (off q (has-true R q h))
on-off S R off Bad h = refl

on_none : (S R : ℕ) → ((i : ℕ) → In i R → bit S i ≡ 0) → (gs : List Gate) → All (OnSet R) gs → gates_on S gs ≡ []
unfolding gates_on
on_none S R off gs a = those-no (is_on S) gs (all_map (OnSet R) (λ g. is_on S g ≡ false) (on-off S R off) gs a)

pub inside_on : (near : List ℕ) (S : ℕ) (g : Gate) → Inside near S g → OnSet S g
unfolding is_on
inside_on near S (Cnot c t) h = both_yes (has S c) (has S t) (in-has S c h.0) (in-has S t h.1)
inside_on near S (Rotation q a) h = in-has S q h
inside_on near S (X q) h = absurd h
inside_on near S Bad h = absurd h

-- the gates of an island and the X gates behind them are on it
pub flips-on : (near : List ℕ) (S : ℕ) (F : List ℕ) (gs : List Gate) → All (Inside near S) gs → All (OnSet S) (gs ++ xs_on S F)
unfolding is_on
flips-on near S F gs a = all_append (OnSet S) gs (xs_on S F) (all_map (Inside near S) (OnSet S) (inside_on near S) gs a) (xs-all S F (OnSet S) (λ k m. in-has S k m))

module _ (n : ℕ) (isl : ℕ → ℕ) (few : n ≤ 20) (parts : Parts n isl) (on : ℕ → List Gate)
    (own : (q : ℕ) → q < n → All (OnSet (isl q)) (on q)) (j : ℕ) (lj : j < n) (ej : leads isl j ≡ true) where
  apart : (q : ℕ) → q < n → leads isl q ≡ true → q ≢ j → (i : ℕ) → In i (isl q) → bit (isl j) i ≡ 0
  apart q l e ne i m = go (bit-cases (isl j) i)
    where
      go : (bit (isl j) i ≡ 0) ⊎ (bit (isl j) i ≡ 1) → bit (isl j) i ≡ 0
      go (inl z) = z
      go (inr k) = absurd (ne (sym (on-led n isl few parts q i l e m) ∙ on-led n isl few parts j i lj ej k))

  before : (k : ℕ) → k ≤ n → k ≤ j → gates_on (isl j) (laid_to isl on k) ≡ []
  before zero l b = unfold laid_to gates_on in those-none (is_on (isl j))
  before (suc k) l b = go (leads isl k) refl (before k (omega arith) (omega arith))
    where
      go : (t : Bool) → leads isl k ≡ t → gates_on (isl j) (laid_to isl on k) ≡ [] → gates_on (isl j) (laid_to isl on (suc k)) ≡ []
      go true e ih =
          ap (gates_on (isl j)) (laid-led n isl few parts on k e) ∙ on-append (isl j) (laid_to isl on k) (on k)
          ∙ ap₂ (λ (a b : List Gate). a ++ b) ih (on_none (isl j) (isl k) (apart k l e (λ (d : k ≡ j). omega arith)) (on k) (own k l))
      go false e ih = ap (gates_on (isl j)) (laid-not n isl few parts on k e) ∙ ih

  pub gates-on : (k : ℕ) → k ≤ n → j < k → gates_on (isl j) (laid_to isl on k) ≡ on j
  gates-on zero l b = absurd (omega arith)
  gates-on (suc k) l b = go (leads isl k) refl (ℕ_discrete k j) (gates-on k (omega arith))
    where
      go : (t : Bool) → leads isl k ≡ t → Dec (k ≡ j) → (j < k → gates_on (isl j) (laid_to isl on k) ≡ on j) → gates_on (isl j) (laid_to isl on (suc k)) ≡ on j
      go true e (yes d) ih =
          ap (gates_on (isl j)) (laid-led n isl few parts on k e) ∙ on-append (isl j) (laid_to isl on k) (on k)
          ∙ ap₂ (λ (a b : List Gate). a ++ b) (before k (omega arith) (omega arith))
          (subst (λ (m : ℕ). gates_on (isl j) (on m) ≡ on j) (sym d) (on-all (isl j) (on j) (own j lj)))
      go true e (no d) ih =
          ap (gates_on (isl j)) (laid-led n isl few parts on k e) ∙ on-append (isl j) (laid_to isl on k) (on k)
          ∙ ap₂ (λ (a b : List Gate). a ++ b) (ih (omega arith)) (on_none (isl j) (isl k) (apart k l e d) (on k) (own k l)) ∙ append-nil (on j)
      go false e (yes d) ih = absurd (let z : ◌≡◌ {A = ℕ} 1 0 = ap (λ (b : Bool). pick b 1 0) (sym (subst (λ (m : ℕ). leads isl m ≡ true) (sym d) ej) ∙ e) in omega arith)
      go false e (no d) ih = ap (gates_on (isl j)) (laid-not n isl few parts on k e) ∙ ih (omega arith)

-- ---- what an island gets in two jobs

pub near-alike : (S : ℕ) (xs ys : List ℕ) → ((u v : ℕ) → In u S → In v S → Near xs u v → Near ys u v) → ((u v : ℕ) → In u S → In v S → Near ys u v → Near xs u v)
    → own_sets S xs ≡ own_sets S ys
near-alike S xs ys f g =
    own_same S xs ys (λ i l m. sub-eq (bit_and (get_or xs i 0) S) (bit_and (get_or ys i 0) S)
    (λ v k. let r = in_and (get_or xs i 0) S v k in and_in (get_or ys i 0) S v (f i v m r.1 r.0) r.1)
    (λ v k. let r = in_and (get_or ys i 0) S v k in and_in (get_or xs i 0) S v (g i v m r.1 r.0) r.1))

pub terms-alike : (S : ℕ) (ps rs : List ℕ) → Up 0 ps → Up 0 rs → ((p : ℕ) → Sub p S → Among p ps → Among p rs) → ((p : ℕ) → Sub p S → Among p rs → Among p ps)
    → own_terms S ps ≡ own_terms S rs
terms-alike S ps rs u v f g =
    ascending-same 0 (own_terms S ps) (own_terms S rs) (own-up S 0 ps u) (own-up S 0 rs v)
    (λ p h. let r = own_back S p ps h in own-has S p rs (f p r.1 r.0) r.1)
    (λ p h. let r = own_back S p rs h in own-has S p ps (g p r.1 r.0) r.1)
