-- An island's own terms: which they are, in which order, and what sums they ask for. Assumes nothing.
use mathlib.Core.Path.{◌≡◌, sym, ap, ◌∙◌, subst}
use mathlib.Core.Logic.{◌≢◌}
use mathlib.Core.Bool.{Bool}
use mathlib.Core.List.{List, [], ◌∷◌, map}
use Prim.Native.Nat.{ℕ, ◌+◌, ◌≤◌, ◌<◌}
use lib.Dec.{eqb}
use lib.ListN.{length, get_or}
use borrow.Author.Tests.{eq-eqb, ne_eqb}
use Rattle.sets.specs.Pick.{pick}
use Rattle.sets.specs.Bit.{Sub}
use Rattle.sets.proofs.Lists.{those-none, those-few, those-length}
use Rattle.meaning.specs.Borne.{Among}
use Rattle.meaning.proofs.Lists.{Up, among-at, at-among, up-once, up-those, those-has, those-back}
use Rattle.meaning.proofs.Tables.{map_at}
use Rattle.sets.specs.Tables.{one}
use Rattle.columns.specs.Terms.{total_of}
use Rattle.sets.proofs.Tabling.{sum-none}
use Rattle.share.specs.Own.{inside_of, own_terms}
use Rattle.laying.proofs.Adding.{sum_one}
use Rattle.laying.proofs.Parting.{inside-sub, sub-inside}

pub own-none : (Q : ℕ) → own_terms Q [] ≡ []
unfolding own_terms
own-none Q = those-none (inside_of Q)

pub own-up : (Q m : ℕ) (ps : List ℕ) → Up m ps → Up m (own_terms Q ps)
unfolding own_terms
own-up Q m ps u = up-those (inside_of Q) m ps u

pub own-has : (Q r : ℕ) (ps : List ℕ) → Among r ps → Sub r Q → Among r (own_terms Q ps)
unfolding own_terms
own-has Q r ps h s = those-has (inside_of Q) r ps h (sub-inside Q r s)

pub own_back : (Q r : ℕ) (ps : List ℕ) → Among r (own_terms Q ps) → Among r ps × Sub r Q
unfolding own_terms
own_back Q r ps h = let w = those-back (inside_of Q) r ps h in (w.0, inside-sub Q r w.1)

pub own-length : (Q p : ℕ) (ps : List ℕ) → length (own_terms Q (p ∷ ps)) ≡ one (inside_of Q p) + length (own_terms Q ps)
unfolding own_terms
own-length Q p ps = those-length (inside_of Q) p ps

pub own-few : (Q : ℕ) (ps : List ℕ) → length (own_terms Q ps) ≤ length ps
unfolding own_terms
own-few Q ps = those-few (inside_of Q) ps

-- ---- the sums that ascending parities ask for: each its own

module _ (f : ℕ → ℕ) (p : ℕ) (ps : List ℕ) where
  abbrev asked : ℕ → ℕ
  asked k = pick (eqb (get_or ps k 0) p) (get_or (map f ps) k 0) 0

  asked-other : (k : ℕ) → get_or ps k 0 ≢ p → asked k ≡ 0
  asked-other k ne = ap (λ (b : Bool). pick b (get_or (map f ps) k 0) 0) (ne_eqb (get_or ps k 0) p ne)

  pub total-own : Up 0 ps → Among p ps → total_of p ps (map f ps) ≡ f p
  unfolding total_of
  total-own u h =
      let r = at-among p ps h in
      sum_one (length ps) asked r.0 r.1 (λ k l ne. asked-other k (λ e. ne (same k r.0 l r.1 (e ∙ sym r.2))))
      ∙ ap (λ (b : Bool). pick b (get_or (map f ps) r.0 0) 0) (eq-eqb (get_or ps r.0 0) p r.2) ∙ map_at f ps r.0 r.1 ∙ ap f r.2
    where
      same : (i j : ℕ) → i < length ps → j < length ps → get_or ps i 0 ≡ get_or ps j 0 → i ≡ j
      same i j hi hj e = up-once 0 ps u i j hi hj e

  pub total-none : (Among p ps → ⊥) → total_of p ps (map f ps) ≡ 0
  unfolding total_of
  total-none n = sum-none (length ps) asked (λ k l. asked-other k (λ e. n (subst (λ (r : ℕ). Among r ps) e (among-at ps k l))))
