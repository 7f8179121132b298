-- `table::sums::Sums::terms` meets its contract: as many entries are looked at as pairs were yielded. Assumes nothing.
use mathlib.Core.Path.{◌≡◌, sym, subst}
use native.Mathlib.Omega.{arith}
use lib.ListN.{length, take, length-append, length-take}
use Rattle.std.specs.Slice.Iter.{iter_rest}
use Rattle.std.specs.Iterator.Adapters.{zip_first, zip_second}
use Rattle.std.proofs.lemmas.Slice.Zip.{zip_turn, zip_end}
use Rattle.table.specs.Table.{terms_in}
use Rattle.table.proofs.Keeping.{Keeping, keeping_none, entry-room, entry-dropped, entry-kept, keeping_all}
use borrow.Author.Rules.{rules}
use Rattle.table.proofs.sums.Sums.terms.Goals as goal

pub loop-p-init : goal.loop-p-init
loop-p-init c = ((tt, tt), tt, subst (Keeping c.args.self.parity c.args.self.sum c.args.self.len 0) (sym c.none-terms.ensures) (keeping_none _ _ _))

pub push-requires : goal.push-requires
push-requires c =
    let a = c.args.self in
    let at = c.loop-p in
    let n = c.min-n.result in
    let first : iter_rest (zip_first c.into_iter-p-iterator.result) ≡ take n a.parity = search rules in
    let second : iter_rest (zip_second c.into_iter-p-iterator.result) ≡ take n a.sum = search rules in
    let t = zip_turn (take n a.parity) (take n a.sum) at.yielded c.into_iter-p-iterator.result at.p-iterator c.next.new.self c.next.result first second at.yielded_by _ c.in-Some.is c.next.ensures.steps in
    entry-room a.parity a.sum a.len n (search rules) (search rules) c.min-n.ensures (length at.yielded) _ _ at.terms t.0 (t.2 0) (t.3 0) at.invariant.2

pub loop-p-preserved-then-is_kept : goal.loop-p-preserved-then-is_kept
loop-p-preserved-then-is_kept c =
    let a = c.args.self in
    let at = c.loop-p in
    let n = c.min-n.result in
    let first : iter_rest (zip_first c.into_iter-p-iterator.result) ≡ take n a.parity = search rules in
    let second : iter_rest (zip_second c.into_iter-p-iterator.result) ≡ take n a.sum = search rules in
    let t = zip_turn (take n a.parity) (take n a.sum) at.yielded c.into_iter-p-iterator.result at.p-iterator c.next.new.self c.next.result first second at.yielded_by _ c.in-Some.is c.next.ensures.steps in
    ((tt, tt), tt, rw length-append (entry-kept a.parity a.sum a.len n (search rules) (search rules) c.min-n.ensures (length at.yielded) _ _ at.terms t.0 (t.2 0) (t.3 0) at.invariant.2 c.if-is_kept.true _ c.push.ensures))

pub loop-p-preserved : goal.loop-p-preserved
loop-p-preserved c =
    let a = c.args.self in
    let at = c.loop-p in
    let n = c.min-n.result in
    let first : iter_rest (zip_first c.into_iter-p-iterator.result) ≡ take n a.parity = search rules in
    let second : iter_rest (zip_second c.into_iter-p-iterator.result) ≡ take n a.sum = search rules in
    let t = zip_turn (take n a.parity) (take n a.sum) at.yielded c.into_iter-p-iterator.result at.p-iterator c.next.new.self c.next.result first second at.yielded_by _ c.in-Some.is c.next.ensures.steps in
    ((tt, tt), tt, rw length-append (entry-dropped a.parity a.sum a.len n (search rules) (search rules) c.min-n.ensures (length at.yielded) _ _ at.terms t.0 (t.2 0) (t.3 0) at.invariant.2 c.if-is_kept.false))

pub returns : goal.returns
unfolding terms_in
returns c =
    let a = c.args.self in
    let at = c.loop-p in
    let n = c.min-n.result in
    let first : iter_rest (zip_first c.into_iter-p-iterator.result) ≡ take n a.parity = search rules in
    let second : iter_rest (zip_second c.into_iter-p-iterator.result) ≡ take n a.sum = search rules in
    let t = zip_end (take n a.parity) (take n a.sum) at.yielded c.into_iter-p-iterator.result at.p-iterator c.next.new.self c.next.result first second at.yielded_by c.in-None.is c.next.ensures.steps in
    keeping_all a.parity a.sum a.len (length at.yielded) at.terms (search rules) (search rules) (omega (arith, t, c.min-n.ensures, length-take n a.parity, length-take n a.sum)) at.invariant.2
