-- The table of an island's own terms holds the share that the definition hands to the island. Assumes nothing.
use mathlib.Core.Path.{◌≡◌, refl, sym, ap, ap₂, ◌∙◌}
use mathlib.Core.Bool.{Bool, true, false, not}
use mathlib.Core.List.{List, map}
use Prim.Native.Nat.{ℕ, ◌≤◌, ◌<◌}
use native.Mathlib.Omega.{arith}
use lib.Dec.{eqb}
use lib.ListN.{length, get_or, take, length-map}
use lib.Seq.{ext_get_or, get_or-take, length-take-le}
use Rattle.sets.specs.Pick.{pick, both}
use Rattle.sets.specs.Lists.{those}
use Rattle.sets.proofs.Lists.{all_map, those-pass, those-twice, map-all}
use Rattle.sets.proofs.Deciding.{both-no, both-same}
use Rattle.gates.specs.declared.gate.Gate.{Gate}
use Rattle.table.specs.declared.sums.Sums.{Sums}
use Rattle.circuit.specs.Circuit.{run, start, sum_of}
use Rattle.meaning.specs.Borne.{borne, sums_of, is_term, terms}
use Rattle.table.specs.Table.{kept, padded, kept_table, terms_in}
use Rattle.meaning.specs.Told.{table_of}
use Rattle.meaning.proofs.Tables.{map_at, padded-at}
use Rattle.table.proofs.Keeping.{kept-those, kept_map, take-padded}
use Rattle.sets.specs.Tables.{tab}
use Rattle.sets.proofs.Tabling.{tab-at, tab-length}
use Rattle.ending.specs.Mirror.{mirrors_of}
use Rattle.share.specs.declared.own.Own.{Own}
use Rattle.share.specs.Own.{inside_of, own_terms}
use Rattle.share.specs.OwnTable.{masked_sum, masked_sums, own_table, own_of, share_in}
use Rattle.laying.specs.Laid.{share_of}

module _ (Q : ℕ) (f : ℕ → ℕ) where
  abbrev masked : ℕ → ℕ
  masked p = masked_sum Q p (f p)

  masked-in : (p : ℕ) → inside_of Q p ≡ true → masked p ≡ f p
  unfolding masked_sum
  masked-in p e = ap (λ (b : Bool). pick b (f p) 0) e

  masked-out : (p : ℕ) → inside_of Q p ≡ false → masked p ≡ 0
  unfolding masked_sum
  masked-out p e = ap (λ (b : Bool). pick b (f p) 0) e

  -- the terms of masked sums are the own ones among the terms
  kept-own : (ps : List ℕ) → kept ps (map masked ps) ≡ own_terms Q (those (λ p. not (eqb (f p) 0)) ps)
  unfolding own_terms
  kept-own ps = kept-those masked ps ∙ those-twice (inside_of Q) (λ p. not (eqb (f p) 0)) (λ p. not (eqb (masked p) 0)) (λ p. test p (inside_of Q p) refl) ps
    where
      test : (p : ℕ) (b : Bool) → inside_of Q p ≡ b → not (eqb (masked p) 0) ≡ both (not (eqb (f p) 0)) (inside_of Q p)
      test p true e = ap (λ (a : ℕ). not (eqb a 0)) (masked-in p e) ∙ sym (ap (both (not (eqb (f p) 0))) e ∙ both-same (not (eqb (f p) 0)))
      test p false e = ap (λ (a : ℕ). not (eqb a 0)) (masked-out p e) ∙ sym (both-no (not (eqb (f p) 0)) (inside_of Q p) e)

  -- of own terms the masked sums are the sums
  own-masked : (ps : List ℕ) → map masked (own_terms Q ps) ≡ map f (own_terms Q ps)
  unfolding own_terms
  own-masked ps = map-all masked f (those (inside_of Q) ps) (all_map (λ p. inside_of Q p ≡ true) (λ p. masked p ≡ f p) masked-in (those (inside_of Q) ps) (those-pass (inside_of Q) ps))

module _ (Q : ℕ) (gs : List Gate) (few : length (borne gs) ≤ 256) where
  abbrev f : ℕ → ℕ
  f p = sum_of p gs

  abbrev own : List ℕ
  own = own_terms Q (terms gs)

  masks : take (length (borne gs)) (masked_sums Q (padded 256 (borne gs)) (padded 256 (sums_of gs (borne gs)))) ≡ map (masked Q f) (borne gs)
  unfolding masked_sums
  masks =
      let long : length (take (length (borne gs)) (tab 256 each)) ≡ length (borne gs) = length-take-le (length (borne gs)) (tab 256 each) (omega (arith, tab-length 256 each)) in
      ext_get_or 0 (take (length (borne gs)) (tab 256 each)) (map (masked Q f) (borne gs)) (long ∙ sym (length-map (borne gs) (masked Q f)))
      (λ i (h : i < length (take (length (borne gs)) (tab 256 each))). at i (omega (arith, long)))
    where
      each : ℕ → ℕ
      each k = masked_sum Q (get_or (padded 256 (borne gs)) k 0) (get_or (padded 256 (sums_of gs (borne gs))) k 0)

      at : (i : ℕ) → i < length (borne gs) → get_or (take (length (borne gs)) (tab 256 each)) i 0 ≡ get_or (map (masked Q f) (borne gs)) i 0
      at i h =
          get_or-take (length (borne gs)) (tab 256 each) i 0 h ∙ tab-at 256 each i 0 (omega arith)
          ∙ ap₂ (masked_sum Q) (padded-at 256 (borne gs) i h) (padded-at 256 (sums_of gs (borne gs)) i (omega (arith, length-map (borne gs) f)) ∙ map_at f (borne gs) i h)
          ∙ sym (map_at (masked Q f) (borne gs) i h)

  pub own-table : own_table Q (table_of gs) ≡ record { parity = padded 256 own; sum = padded 256 (sums_of gs own); len = length own }
  unfolding own_table terms_in kept_table table_of
  own-table =
      let a : take (length (borne gs)) (padded 256 (borne gs)) ≡ borne gs = take-padded 256 (length (borne gs)) (borne gs) refl in
      let k : kept (borne gs) (map (masked Q f) (borne gs)) ≡ own = unfold terms is_term in kept-own Q f (borne gs) in
      let s : kept (map (masked Q f) (borne gs)) (map (masked Q f) (borne gs)) ≡ sums_of gs own = kept_map (masked Q f) (borne gs) ∙ ap (map (masked Q f)) k ∙ own-masked Q f (terms gs) in
      rw (a, masks, k, s, length-map own f)

-- the island Q is handed the share that the definition says
module _ (near : List ℕ) (Q : ℕ) (gs : List Gate) (few : length (borne gs) ≤ 256) where
  abbrev ps : List ℕ
  ps = own_terms Q (terms gs)

  abbrev o : Own
  o = own_of Q near (table_of gs) (run gs start) (mirrors_of gs)

  pub own-count : o.terms.len ≡ length ps
  unfolding own_of
  own-count = ap (λ (s : Sums). s.len) (own-table Q gs few)

  pub share-is : share_in o ≡ share_of Q near gs
  unfolding own_of
  share-is =
      let a : take o.terms.len o.terms.parity ≡ ps = ap (λ (s : Sums). take s.len s.parity) (own-table Q gs few) ∙ take-padded 256 (length ps) ps refl in
      let b : take o.terms.len o.terms.sum ≡ sums_of gs ps =
      ap (λ (s : Sums). take s.len s.sum) (own-table Q gs few) ∙ take-padded 256 (length ps) (sums_of gs ps) (sym (length-map ps (λ p. sum_of p gs))) in
      cc (a, b)
