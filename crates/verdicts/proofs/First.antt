-- What `position` finds is the first record that fails. Assumes nothing.
use mathlib.Core.Path.{◌≡◌, refl, sym, subst}
use mathlib.Core.Bool.{Bool, true, false, cond}
use mathlib.Core.List.{List}
use Prim.Native.Nat.{ℕ}
use lib.Dec.{ltb}
use lib.ListN.{length, get_or}
use Rattle.std.specs.Prelude.{Option, Some, None, Ok, Err}
use Rattle.std.specs.List.{position}
use Rattle.sets.specs.Pick.{pick}
use Rattle.sets.proofs.Finding.{first-position}
use Rattle.verdicts.specs.declared.verdict.Refusal.{Refusal}
use Rattle.verdicts.specs.Verdicts.{Verdict, first_failing}

-- the refusal of the first record that fails
abbrev pub refused_first : (ℕ → Refusal) → (ℕ → Bool) → List ℕ → Verdict
refused_first refusal fails xs = pick (ltb (first_failing fails xs) (length xs)) (Err (refusal (first_failing fails xs))) (Ok tt)

module _ (refusal : ℕ → Refusal) (fails : ℕ → Bool) (xs : List ℕ) where
  -- by what `position` answers
  abbrev by-position : (b : Bool) (m : ℕ) → Option ℕ → Type 0
  by-position b m (Some k) = ◌≡◌ {A = Verdict} (Err (refusal k)) (pick b (Err (refusal m)) (Ok tt))
  by-position b m None = ◌≡◌ {A = Verdict} (Ok tt) (pick b (Err (refusal m)) (Ok tt))

  by-first : (b : Bool) (m : ℕ) → by-position b m (cond b (Some m) None)
  by-first true m = refl
  by-first false m = refl

  found : by-position (ltb (first_failing fails xs) (length xs)) (first_failing fails xs) (position fails xs)
  unfolding first_failing
  found =
      let m : ℕ = first_failing fails xs in
      subst (λ (j : ℕ). by-position (ltb m (length xs)) m (cond (ltb j (length xs)) (Some j) None)) (sym (first-position fails 0 xs (λ k. fails (get_or xs k 0)) (λ k l. refl))) (by-first (ltb m (length xs)) m)

  pub some_first : {k : ℕ} → position fails xs ≡ Some k → Err (refusal k) ≡ refused_first refusal fails xs
  some_first e = subst (by-position (ltb (first_failing fails xs) (length xs)) (first_failing fails xs)) e found

  pub none_first : position fails xs ≡ None → Ok tt ≡ refused_first refusal fails xs
  none_first e = subst (by-position (ltb (first_failing fails xs) (length xs)) (first_failing fails xs)) e found
