-- What a couplers' text promises (request E1): lists of couplers read back, and the first line that cannot continue one decides. Assumes nothing.
use mathlib.Core.Path.{◌≡◌, refl, sym, ap, ◌∙◌}
use mathlib.Core.List.{List, [], ◌∷◌, ◌++◌}
use Prim.Native.Nat.{ℕ, ◌+◌, ◌≤◌}
use native.Mathlib.Omega.{arith}
use lib.ListN.{length, take}
use lib.Seq.{take-append_seam}
use Rattle.gates.specs.declared.job.Job.{Job}
use Rattle.std.specs.Prelude.{Ok, Err}
use Rattle.verdicts.specs.declared.verdict.Refusal.TheVariants.{Line}
use Rattle.verdicts.specs.Verdicts.{number_of, judged_couplers}
use Rattle.lines.specs.Lines.{records_text}
use Rattle.lines.specs.Lent.{onto}
use Rattle.reading.specs.Limits.{most_bytes}
use Rattle.reading.specs.Misfit.{NoLf}
use Rattle.sets.specs.Lists.{All}
use Rattle.reading.specs.Readings.{couplers_in, lent_after}
use Rattle.reading.specs.Listing.{CouplersText, MisfitCoupler, end_couplers, parsed_couplers, couplers_reading}
use Rattle.reading.specs.declared.sort.Sort.TheVariants.{Couplers}
use Rattle.reading.proofs.Fronts.{unended-none}
use Rattle.reading.proofs.Listings.{couplers-found, couplers-forth, couplers-parsed, coupler-misfit-first, coupler-misfit-parsed}
use Rattle.reading.proofs.ListingAnswers.{listing-line, listing-read, listed-job, listed-line}
use Rattle.text.proofs.Accepted.{couplers_fit}

-- the first records that reading left in the lent memory
abbrev pub listed_read : List ℕ → Job → List ℕ → List ℕ
listed_read s j memory = take j.couplers (lent_after (Ok j) (couplers_in (parsed_couplers s)) memory)

-- couplers of a chip of n qubits, in a text of at most 65,536 bytes, read back the same where the room suffices
pub record ListedBack (s couplers memory : List ℕ) : Type 0 where
  pub job : Job
  pub answer : couplers_reading s (length memory) ≡ Ok job
  pub same_couplers : listed_read s job memory ≡ couplers

pub couplers-read-back : (n : ℕ) (couplers memory : List ℕ) → number_of (judged_couplers n couplers) ≡ 0 → length (records_text couplers) ≤ most_bytes → length couplers ≤ length memory
    → ListedBack (records_text couplers) couplers memory
couplers-read-back n couplers memory good short room =
    let p = couplers-parsed (records_text couplers) (record { couplers = couplers; fit = couplers_fit n couplers good; same = refl }) in
    record {
      job = record { qubits = 0; couplers = length couplers; gates = 0 };
      answer = sym (listing-read (records_text couplers) (length memory) couplers short p refl room);
      same_couplers = ap (λ r. take (length couplers) (onto (couplers_in r) memory)) p ∙ take-append_seam couplers _;
    }

-- a text that is read is that of the couplers that were found in it, byte for byte
pub listed-text : (s : List ℕ) (room : ℕ) (j : Job) → couplers_reading s room ≡ Ok j → records_text (couplers_in (parsed_couplers s)) ≡ s
listed-text s room j e = sym (couplers-found s 0 (couplers_in (parsed_couplers s)) [] (listed-job s room j e)).same

-- the line of refusal 10 is the first that cannot continue a couplers' text ..
pub refused-coupler : (s : List ℕ) (room k : ℕ) → couplers_reading s room ≡ Err (Line k) → MisfitCoupler s k
refused-coupler s room k e = coupler-misfit-first s k (listed-line s room k e)

-- .. and where a text of at most 65,536 bytes has such a line, it is refused there
pub coupler-refused : (s : List ℕ) (room k : ℕ) → length s ≤ most_bytes → MisfitCoupler s k → couplers_reading s room ≡ Err (Line k)
coupler-refused s room k h m = sym (listing-line s room k h (coupler-misfit-parsed s k m))

-- "empty allowed"
pub empty-listed : (room : ℕ) → couplers_reading [] room ≡ Ok (record { qubits = 0; couplers = 0; gates = 0 })
unfolding records_text All
empty-listed room = sym (listing-read [] room [] (omega arith) (couplers-parsed [] (record { couplers = []; fit = tt; same = refl })) refl (omega arith))

-- a last line without LF is refused, whatever it holds
pub unended-coupler-refused : (s : List ℕ) (x : ℕ) (t : List ℕ) (room : ℕ) (c : CouplersText s) → length (s ++ (x ∷ t)) ≤ most_bytes → NoLf (x ∷ t)
    → couplers_reading (s ++ (x ∷ t)) room ≡ Err (Line (1 + length c.couplers))
unfolding end_couplers
unended-coupler-refused s x t room c h no-lf =
    sym (listing-line (s ++ (x ∷ t)) room _ h (ap (λ l. parsed_couplers (l ++ (x ∷ t))) c.same ∙ couplers-forth c.couplers (x ∷ t) c.fit (unended-none Couplers (x ∷ t) no-lf)))
