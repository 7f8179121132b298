-- Reading's answer from the steps that lead to it. Assumes nothing.
use Rattle.std.specs.Prelude.{Option, None, Some, Ok, Err}
use Rattle.std.specs.Option.{unwrap_or}
use mathlib.Core.Path.{◌≡◌, refl, sym, ap, ap₂, ◌∙◌}
use mathlib.Core.Bool.{true, false}
use mathlib.Core.List.{List, [], ◌∷◌}
use Prim.Native.Nat.{ℕ, ◌≤◌, ◌<◌}
use native.Mathlib.Omega.{arith}
use lib.ListN.{length}
use borrow.Author.Tests.{le-leb, lt-leb}
use Rattle.verdicts.specs.declared.verdict.Refusal.{Refusal}
use Rattle.verdicts.specs.declared.verdict.Refusal.TheVariants.{Room, LongText, Angle, Statement}
use Rattle.verdicts.proofs.Answered.{then-err, gives-refusal}
use Rattle.reading.specs.Limits.{most_bytes}
use Rattle.words.specs.Bytes.{line_at}
use Rattle.words.specs.Words.{Word}
use Rattle.spots.specs.Numbers.{Got}
use Rattle.versions.specs.declared.Version.{Version}
use Rattle.versions.specs.declared.Version.TheVariants.{Two, Three}
use Rattle.statements.specs.Statements.{read_version, read_include, read_name, read_register, has_end, bad_angle}
use Rattle.qasm_reading.specs.Parsing.{circuit, statement, unversioned, left_of, head_fault, end_circuit, behind_register, registered, included, versioned, parsed_words, parsed_circuit}
use Rattle.qasm_reading.specs.Readings.{judged_statements, judged_circuit_text, circuit_reading, found_answer, line_of}

-- ---- the include line and the register

module _ (s : List ℕ) (ws : List Word) where
  pub head-has : {p : ℕ} → has_end ws ≡ true → p ≡ unwrap_or (line_of s ws) 0 → Err (Statement p) ≡ judged_statements s (head_fault ws)
  unfolding head_fault has_end
  head-has {p} e q = rw e (go ws e q)
    where
      go : (ws : List Word) → has_end ws ≡ true → p ≡ unwrap_or (line_of s ws) 0 → Err (Statement p) ≡ judged_statements s (statement (left_of ws))
      go [] e q = cc
      go (w ∷ ws) e q = ap (λ k. Err (Statement k)) q

  pub head-not : has_end ws ≡ false → Err (Statement 0) ≡ judged_statements s (head_fault ws)
  unfolding head_fault
  head-not e = rw e

  pub head-refused : (room : ℕ) {r : Refusal} → Err r ≡ judged_statements s (head_fault ws) → Err r ≡ found_answer s room (head_fault ws)
  head-refused room e = gives-refusal _ (then-err _ (sym e))

-- ---- behind the register

module _ (s : List ℕ) (room : ℕ) (v : Version) (name : List ℕ) (n : ℕ) (gs : List ℕ) (h : ℕ) (l : List Word) where
  pub end-angle : {p : ℕ} → line_of s l ≡ Some p → bad_angle v name (Some l) ≡ true → Err (Angle p) ≡ found_answer s room (end_circuit v name n gs h l)
  unfolding end_circuit
  end-angle {p} q b = go l q b
    where
      go : (l : List Word) → line_of s l ≡ Some p → bad_angle v name (Some l) ≡ true → Err (Angle p) ≡ found_answer s room (end_circuit v name n gs h l)
      go [] q b = cc
      go (w ∷ ws) q b = let z : p ≡ line_at s w.left = cc in rw b (ap (λ k. Err (Angle k)) z)

  pub end-statement : {p : ℕ} → line_of s l ≡ Some p → bad_angle v name (Some l) ≡ false → Err (Statement p) ≡ found_answer s room (end_circuit v name n gs h l)
  unfolding end_circuit
  end-statement {p} q b = go l q b
    where
      go : (l : List Word) → line_of s l ≡ Some p → bad_angle v name (Some l) ≡ false → Err (Statement p) ≡ found_answer s room (end_circuit v name n gs h l)
      go [] q b = cc
      go (w ∷ ws) q b = let z : p ≡ line_at s w.left = cc in rw b (ap (λ k. Err (Statement k)) z)

  pub end-done : line_of s l ≡ None → end_circuit v name n gs h l ≡ circuit v n gs h
  unfolding end_circuit
  end-done q = go l q
    where
      go : (l : List Word) → line_of s l ≡ None → end_circuit v name n gs h l ≡ circuit v n gs h
      go [] q = refl
      go (w ∷ ws) q = cc

module _ (s : List ℕ) (room : ℕ) (v : Version) (n : ℕ) (gs : List ℕ) (g : ℕ) where
  pub room-short : room < length gs → Err Room ≡ found_answer s room (circuit v n gs g)
  room-short h = rw (lt-leb (length gs) room h)

  pub room-long : {k p : ℕ} → k ≡ length gs → p ≡ g → k ≤ room → Ok (record { version = v; qubits = n; gates = k; phase = p }) ≡ found_answer s room (circuit v n gs g)
  room-long {k} e d h = let j : length gs ≤ room = omega arith in rw (e, d, le-leb (length gs) room j)

-- ---- the whole text

pub reading-long : (s : List ℕ) (room : ℕ) → most_bytes < length s → Err LongText ≡ circuit_reading s room
unfolding circuit_reading judged_circuit_text
reading-long s room h = rw (lt-leb (length s) most_bytes h)

pub reading-is : (s : List ℕ) (room : ℕ) → length s ≤ most_bytes → circuit_reading s room ≡ found_answer s room (parsed_circuit s)
unfolding circuit_reading judged_circuit_text
reading-is s room h = rw (le-leb (length s) most_bytes h)

-- ---- what stands in front of the gates

-- behind the version v
module _ (v : Version) (t : List Word) {I : Option (List Word)} (i : I ≡ read_include v (Some t)) where
  pub included-first : I ≡ None → included v (read_include v (Some t)) t ≡ head_fault t
  unfolding included
  included-first h = ap (λ o. included v o t) (sym i ∙ h)

  module _ (u : List Word) (h : I ≡ Some u) where
    pub included-second : None ≡ read_register v (Some u) → included v (read_include v (Some t)) t ≡ head_fault u
    unfolding included registered
    included-second r = ap (λ o. included v o t) (sym i ∙ h) ∙ ap (λ o. registered v (read_name v (Some u)) o u) (sym r)

    pub included-body : (g : Got Word) (name : List ℕ) → Some g ≡ read_register v (Some u) → name ≡ read_name v (Some u) → included v (read_include v (Some t)) t ≡ behind_register v name g.value g.rest
    unfolding included registered
    included-body g name r q = ap (λ o. included v o t) (sym i ∙ h) ∙ ap (λ o. registered v (read_name v (Some u)) o u) (sym r) ∙ ap (λ m. behind_register v m g.value g.rest) (sym q)

-- the version
module _ (ws : List Word) {U : Option (List Word)} (a : U ≡ read_version Two (Some ws)) where
  pub parsed-two : (t : List Word) → U ≡ Some t → parsed_words ws ≡ included Two (read_include Two (Some t)) t
  unfolding parsed_words versioned
  parsed-two t e = ap (λ o. versioned o (read_version Three (Some ws))) (sym a ∙ e)

  module _ {W : Option (List Word)} (e : U ≡ None) (b : W ≡ read_version Three (Some ws)) where
    pub parsed-three : (t : List Word) → W ≡ Some t → parsed_words ws ≡ included Three (read_include Three (Some t)) t
    unfolding parsed_words versioned
    parsed-three t f = ap₂ versioned (sym a ∙ e) (sym b ∙ f)

    pub parsed-neither : W ≡ None → parsed_words ws ≡ unversioned
    unfolding parsed_words versioned
    parsed-neither f = ap₂ versioned (sym a ∙ e) (sym b ∙ f)
