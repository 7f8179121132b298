-- Arrays that `from_fn` and `map` make, by closures that change nothing: each is the table of what its closure answers. Assumes nothing.
use mathlib.Core.Path.{◌≡◌, sym, ap, ◌∙◌, subst}
use mathlib.Core.List.{List}
use Prim.Native.Nat.{ℕ, zero, suc, ◌+◌, ◌≤◌, ◌<◌}
use native.Mathlib.Omega.{arith}
use native.Mathlib.Decide.{ℕ_discrete}
use lib.ListN.{length, get_or}
use lib.Seq.{ext_get_or}
use denote.Param.Members.{Mut, Called}
use Rattle.std.specs.Array.{IsFromFnResult, IsFromFnResultFrom, IsMapOf, MapsFrom}
use Rattle.sets.specs.Tables.{tab}
use Rattle.sets.proofs.Tabling.{tab-length, tab-at}

module _ {F B : Type 0} (g : Mut F (ℕ × Unit {0}) B) (h : ℕ → B) (f : F) (calls : (i : ℕ) (y : B) (q : F) → Called g f (i, tt) y q → (y ≡ h i) × (q ≡ f)) where
  made-at : (ys : List B) (d : B) (i n : ℕ) → IsFromFnResultFrom g f ys i n → (k : ℕ) → i ≤ k → k < i + n → get_or ys k d ≡ h k
  made-at ys d i zero r k l m = absurd (omega arith)
  made-at ys d i (suc n) r k l m = go (ℕ_discrete i k) (made-at ys d (i + 1) n (subst (λ (p : F). IsFromFnResultFrom g p ys (i + 1) n) call.1 r.4) k)
    where
      call : (r.1 ≡ h i) × (r.0 ≡ f)
      call = calls i r.1 r.0 r.3

      go : Dec (i ≡ k) → (i + 1 ≤ k → k < i + 1 + n → get_or ys k d ≡ h k) → get_or ys k d ≡ h k
      go (yes e) ih = ap (λ (j : ℕ). get_or ys j d) (sym e) ∙ r.2.1 d ∙ call.0 ∙ ap h e
      go (no ne) ih = ih (omega arith) (omega arith)

  pub tab-made : (ys : List B) (n : ℕ) (d : B) → IsFromFnResult g f ys n → ys ≡ tab n h
  tab-made ys n d r = ext_get_or d ys (tab n h) (r.long ∙ sym (tab-length n h)) (λ k (l : k < length ys). made-at ys d 0 n r.each k (omega arith) (omega (arith, r.long)) ∙ sym (tab-at n h k d (omega (arith, r.long))))

module _ {F A B : Type 0} (g : Mut F (A × Unit {0}) B) (h : A → B) (f : F) (calls : (x : A) (y : B) (q : F) → Called g f (x, tt) y q → (y ≡ h x) × (q ≡ f)) where
  mapped-at : (xs : List A) (ys : List B) (e : A) (d : B) (i n : ℕ) → MapsFrom g f xs ys i n → (k : ℕ) → i ≤ k → k < i + n → get_or ys k d ≡ h (get_or xs k e)
  mapped-at xs ys e d i zero r k l m = absurd (omega arith)
  mapped-at xs ys e d i (suc n) r k l m = go (ℕ_discrete i k) (mapped-at xs ys e d (i + 1) n (subst (λ (p : F). MapsFrom g p xs ys (i + 1) n) call.1 r.6) k)
    where
      call : (r.2 ≡ h r.1) × (r.0 ≡ f)
      call = calls r.1 r.2 r.0 r.5

      go : Dec (i ≡ k) → (i + 1 ≤ k → k < i + 1 + n → get_or ys k d ≡ h (get_or xs k e)) → get_or ys k d ≡ h (get_or xs k e)
      go (yes q) ih = ap (λ (j : ℕ). get_or ys j d) (sym q) ∙ r.4.1 d ∙ call.0 ∙ ap h (sym (r.3.1 e)) ∙ ap (λ (j : ℕ). h (get_or xs j e)) q
      go (no ne) ih = ih (omega arith) (omega arith)

  -- an array that `map` makes is the table of what its closure answers
  pub tab-mapped : (xs : List A) (ys : List B) (n : ℕ) (e : A) (d : B) → IsMapOf g f xs ys n → ys ≡ tab n (λ k. h (get_or xs k e))
  tab-mapped xs ys n e d r = ext_get_or d ys (tab n (λ k. h (get_or xs k e))) (r.long ∙ sym (tab-length n (λ k. h (get_or xs k e)))) (λ k (l : k < length ys). mapped-at xs ys e d 0 n r.each k (omega arith) (omega (arith, r.long)) ∙ sym (tab-at n (λ k. h (get_or xs k e)) k d (omega (arith, r.long))))
