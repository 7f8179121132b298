-- The two loops over lines: one counts the lines of a run, one writes their records. Assumes nothing.
use Rattle.std.specs.Prelude.{None, Some}
use mathlib.Core.Path.{◌≡◌, refl, sym, ap, ◌∙◌}
use mathlib.Core.List.{List, [], ◌∷◌, ◌++◌, append_assoc, append-nil}
use Prim.Native.Nat.{ℕ, ◌+◌, ◌≤◌, ◌<◌}
use native.Mathlib.Numerals.{add-one}
use native.Mathlib.Omega.{arith}
use lib.ListN.{length, take, drop, set, length-append, length-set, take-append-drop}
use lib.Seq.{take-suc-set, drop-set-lt, drop-drop, length-take-le}
use Rattle.spots.specs.Numbers.{Got}
use Rattle.reading.specs.Parsing.{read_one, run_of}
use Rattle.lines.specs.Lent.{onto}
use Rattle.reading.specs.declared.sort.Sort.{Sort}
use Rattle.reading.proofs.Lines.{one-short}
use Rattle.reading.proofs.Runs.{line-run-none, line-run-some}

-- n lines have been counted, and l is left
pub record CountingLines (g : Sort) (from : List ℕ) (n : ℕ) (l : List ℕ) : Type 0 where
  pub sum : n + length (run_of g l).records ≡ length (run_of g from).records
  pub same : (run_of g l).left ≡ (run_of g from).left
  pub room : n + length l ≤ length from

pub count-start : (g : Sort) (l : List ℕ) → CountingLines g l 0 l
count-start g l = record { sum = omega arith; same = refl; room = omega arith }

pub count-step : (g : Sort) (from : List ℕ) (n : ℕ) (l : List ℕ) (r : Got ℕ) → CountingLines g from n l → read_one g l ≡ Some r → CountingLines g from (n + 1) r.rest
count-step g from n l r c e =
    let w = line-run-some g l r e in
    record {
      sum = omega (arith, ap (λ x. length x.records) w, c.sum);
      same = sym (ap (λ x. x.left) w) ∙ c.same;
      room = omega (arith, one-short g l r e);
    }

pub count-done : (g : Sort) (from : List ℕ) (n : ℕ) (l : List ℕ) → CountingLines g from n l → read_one g l ≡ None
    → (n ≡ length (run_of g from).records) × (l ≡ (run_of g from).left)
count-done g from n l c e =
    let r = line-run-none g l e in
    (omega (arith, ap (λ x. length x.records) r, c.sum), sym (ap (λ x. x.left) r) ∙ c.same)

-- n records stand at the front of out, and l is left
pub record FillingLines (g : Sort) (from old out : List ℕ) (n : ℕ) (l : List ℕ) : Type 0 where
  pub put : take n out ++ (run_of g l).records ≡ (run_of g from).records
  pub kept : drop n out ≡ drop n old
  pub size : length out ≡ length old
  pub reach : n ≤ length out

pub fill_start : (g : Sort) (l old : List ℕ) → FillingLines g l old old 0 l
fill_start g l old = record { put = refl; kept = refl; size = refl; reach = omega arith }

pub fill-room : (g : Sort) (from old out : List ℕ) (n : ℕ) (l : List ℕ) (r : Got ℕ) → FillingLines g from old out n l → read_one g l ≡ Some r
    → length (run_of g from).records ≤ length old → n < length out
fill-room g from old out n l r c e h =
    omega (arith, length-append (take n out) (run_of g l).records, length-take-le n out c.reach, ap length c.put, ap (λ x. length x.records) (line-run-some g l r e), c.size)

pub fill_step : (g : Sort) (from old out : List ℕ) (n : ℕ) (l : List ℕ) (x : Got ℕ) → FillingLines g from old out n l → read_one g l ≡ Some x → n < length out
    → FillingLines g from old (set out n x.value) (n + 1) x.rest
fill_step g from old out n l x c e h =
    let r : (run_of g l).records ≡ x.value ∷ (run_of g x.rest).records = ap (λ y. y.records) (line-run-some g l x e) in
    let v = x.value in
    let k : drop 1 (drop n out) ≡ drop 1 (drop n old) = ap (drop 1) c.kept in
    record {
      put = rw (add-one, take-suc-set out n v, append_assoc) (ap (λ x. take n out ++ x) (sym r) ∙ c.put);
      kept = drop-set-lt (n + 1) out n v (omega arith) ∙ sym (drop-drop 1 n out) ∙ k ∙ drop-drop 1 n old;
      size = length-set out n v ∙ c.size;
      reach = simp length-set (omega arith);
    }

pub fill_done : (g : Sort) (from old out : List ℕ) (n : ℕ) (l : List ℕ) → FillingLines g from old out n l → read_one g l ≡ None → out ≡ onto (run_of g from).records old
fill_done g from old out n l c e =
    let r : (run_of g l).records ≡ [] = ap (λ x. x.records) (line-run-none g l e) in
    let p : take n out ≡ (run_of g from).records = sym (append-nil (take n out)) ∙ ap (λ x. take n out ++ x) (sym r) ∙ c.put in
    let m : n ≡ length (run_of g from).records = sym (length-take-le n out c.reach) ∙ ap length p in
    sym (take-append-drop n out) ∙ ap (λ x. x ++ drop n out) p ∙ ap (λ x. (run_of g from).records ++ x) c.kept ∙ ap (λ k. (run_of g from).records ++ drop k old) m
