-- `judging::judge::judge_inside` meets its contract, test by test. Assumes nothing.
use Rattle.judging.proofs.Judging.{told_over, told-stray, told-few, told-scattered, told-short, told-pass}
use native.Mathlib.Omega.{arith}
use Rattle.std.proofs.Common.{◌≡◌, None, rules}
use Rattle.judging.proofs.judge.judge_inside.Goals as goal

pub returns-then-told-gates : goal.returns-then-told-gates
returns-then-told-gates c = let a = c.args in
    told_over a.n a.islands a.gates.now a.room c.tell-told.result c.tell-told.ensures c.if-told-gates.true

pub returns-in-Some : goal.returns-in-Some
returns-in-Some c = let a = c.args in
    told-stray a.n a.islands a.gates.now a.room c.tell-told.result c.tell-told.ensures c.if-told-gates.false c.stray.result c.stray.ensures c.in-Some.is

pub shared_ref_as_front-parities : goal.shared_ref_as_front-parities
shared_ref_as_front-parities c = let a = c.args in
    let none : c.stray.result ≡ None = search rules in
    told-few a.n a.islands a.gates.now a.room c.tell-told.result c.tell-told.ensures c.if-told-gates.false c.stray.result c.stray.ensures none c.terms-terms.result c.terms-terms.ensures

pub returns-then-some_scattered : goal.returns-then-some_scattered
returns-then-some_scattered c = let a = c.args in
    let none : c.stray.result ≡ None = search rules in
    told-scattered a.n a.islands a.gates.now a.room c.tell-told.result c.tell-told.ensures c.if-told-gates.false c.stray.result c.stray.ensures none c.terms-terms.result c.terms-terms.ensures _ c.some_scattered.ensures c.if-some_scattered.true

pub overflow_cast-count : goal.overflow_cast-count
overflow_cast-count c = let a = c.args in
    let none : c.stray.result ≡ None = search rules in
    omega (arith, told-few a.n a.islands a.gates.now a.room c.tell-told.result c.tell-told.ensures c.if-told-gates.false c.stray.result c.stray.ensures none c.terms-terms.result c.terms-terms.ensures)

pub returns-then-room-bound : goal.returns-then-room-bound
returns-then-room-bound c = let a = c.args in
    let none : c.stray.result ≡ None = search rules in
    told-short a.n a.islands a.gates.now a.room c.tell-told.result c.tell-told.ensures c.if-told-gates.false c.stray.result c.stray.ensures none c.terms-terms.result c.terms-terms.ensures _ c.some_scattered.ensures c.if-some_scattered.false _ c.bound.ensures c.if-room-bound.true

pub returns : goal.returns
returns c = let a = c.args in
    let none : c.stray.result ≡ None = search rules in
    told-pass a.n a.islands a.gates.now a.room c.tell-told.result c.tell-told.ensures c.if-told-gates.false c.stray.result c.stray.ensures none c.terms-terms.result c.terms-terms.ensures _ c.some_scattered.ensures c.if-some_scattered.false _ c.bound.ensures c.if-room-bound.false
