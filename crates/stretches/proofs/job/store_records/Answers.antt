-- `stretches::job::store_records` meets its contract. Assumes nothing.
use Rattle.std.proofs.Common.{refl, sym, ◌∙◌, take, append_assoc, arith}
use lib.Seq.{sets-eq}
use Rattle.std.proofs.lemmas.List.Edits.{paste_all}
use Rattle.std.proofs.lemmas.Slice.{put_mid-paste}
use Rattle.stretches.proofs.job.store_records.Goals as goal

pub returns : goal.returns
returns c = let a = c.args in
    (refl, put_mid-paste a.at _ a.out.now _ a.records.now _ c.copy_from_slice.ensures.after (omega arith) refl ∙ paste_all a.out.now a.at a.records.now _ refl ∙ sym (append_assoc (take a.at a.out.now) a.records.now _) ∙ sym (sets-eq a.records.now a.out.now a.at c.requires))
