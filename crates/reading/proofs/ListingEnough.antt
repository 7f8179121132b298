-- Reading a couplers' text never answers 8 where the lent list holds as many records as a text within its limit can have, and with less it does. Assumes nothing.
use mathlib.Core.Path.{◌≡◌, refl, sym, ap, ◌∙◌}
use mathlib.Core.Logic.{◌≢◌}
use mathlib.Core.Bool.{Bool, true, false}
use mathlib.Core.List.{List, []}
use Prim.Native.Nat.{ℕ, ◌+◌, ◌*◌, ◌≤◌, ◌<◌}
use native.Mathlib.Omega.{arith}
use lib.Dec.{leb}
use lib.ListN.{length, replicate, length-replicate}
use borrow.Author.Tests.{leb-true, le-leb, lt-leb}
use Rattle.std.specs.Prelude.{Ok, Err}
use Rattle.sets.specs.Pick.{pick}
use Rattle.gates.specs.Layout.{packed, kind_in, a_in, b_in}
use Rattle.verdicts.specs.declared.verdict.Refusal.TheVariants.{Room, LongText}
use Rattle.verdicts.specs.Verdicts.{number_of}
use Rattle.verdicts.specs.InOrder.{and_then}
use Rattle.lines.specs.Lines.{digits_in, digits, fields_text, line_text, letter, fields_in, record_text, records_text}
use Rattle.reading.specs.Limits.{most_bytes}
use Rattle.reading.specs.Parsing.{Parsed, misfit, job}
use Rattle.reading.specs.Readings.{judged_lines, couplers_in, judged_places}
use Rattle.reading.specs.Listing.{parsed_couplers, judged_couplers_text}
use Rattle.reading.specs.declared.sort.Sort.TheVariants.{Couplers}
use Rattle.reading.proofs.Sizes.{couplers-least}
use Rattle.reading.proofs.Listings.{couplers-found, couplers-parsed}
use Rattle.reading.proofs.Enough.{repeated-length, same-fit}

-- one more line would make the text too long
module _ (s : List ℕ) (room : ℕ) (h : most_bytes < 6 * (room + 1)) where
  within : length s ≤ most_bytes → (p : Parsed) → parsed_couplers s ≡ p → number_of (and_then (judged_lines p) (judged_places (length (couplers_in p)) room)) ≢ 8
  within l (misfit k) e z = let y : ◌≡◌ {A = ℕ} 10 8 = z in omega arith
  within l (job n es gs) e z =
      let f = couplers-found s n es gs e in
      let fits : length es ≤ room = omega (arith, couplers-least es f.fit, ap length f.same) in
      let y : ◌≡◌ {A = ℕ} 0 8 = sym (ap (λ (t : Bool). number_of (pick t (Ok tt) (Err Room))) (le-leb (length es) room fits)) ∙ z in
      omega arith

  pub listing-never-8 : number_of (judged_couplers_text s room) ≢ 8
  unfolding judged_couplers_text
  listing-never-8 z = go (leb (length s) most_bytes) refl z
    where
      go : (t : Bool) → leb (length s) most_bytes ≡ t → number_of (and_then (pick t (Ok tt) (Err LongText)) (and_then (judged_lines (parsed_couplers s)) (judged_places (length (couplers_in (parsed_couplers s))) room))) ≢ 8
      go true e z = within (leb-true (length s) most_bytes e) (parsed_couplers s) refl z
      go false e z = let y : ◌≡◌ {A = ℕ} 11 8 = z in omega arith

-- ---- with less it does

-- c couplers in the fewest bytes: `e 0 0`
abbrev pub least_couplers : ℕ → List ℕ
least_couplers c = records_text (replicate c (packed 0 0 0))

pub listing-8 : (c room : ℕ) → 6 * c ≤ most_bytes → room < c → number_of (judged_couplers_text (least_couplers c) room) ≡ 8
unfolding judged_couplers_text packed kind_in a_in b_in record_text letter fields_in line_text fields_text digits digits_in
listing-8 c room h more =
    let l : length (least_couplers c) ≡ c * 6 = repeated-length 6 c (packed 0 0 0) refl in
    let p : parsed_couplers (least_couplers c) ≡ job 0 (replicate c (packed 0 0 0)) [] = couplers-parsed _ (record { couplers = replicate c (packed 0 0 0); fit = same-fit Couplers c (packed 0 0 0) refl; same = refl }) in
    rw (le-leb (length (least_couplers c)) most_bytes (omega (arith, l)), p, length-replicate c (packed 0 0 0), lt-leb c room more)
