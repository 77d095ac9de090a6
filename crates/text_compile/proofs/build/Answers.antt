use Rattle.std.proofs.Common.{◌≡◌, ◌≤◌, ◌<◌, ◌+◌, ◌*◌, suc, sym, refl, subst, length, arith}
use Rattle.sets.specs.Set.{states, set_of}
use Rattle.text.specs.Exp.{size}
use Rattle.text.specs.Records.{records_of}
use Rattle.text_compile.specs.inner.Code.{Walked, exp_of}
use Rattle.text_compile.proofs.Listing.{size-most, big-states, big-records, big-list, not-big, gives-21, gives-0, ends-count, all-count, list_length, list_left}
use Rattle.text_records.specs.inner.Front.{Below}
use Rattle.text_walk.specs.inner.Rows.{Sums}
use Rattle.text_walk.proofs.Edges.{walk-size}
use Rattle.text_compile.proofs.build.Goals as goal

pub returns-then-n-ge-STATES : goal.returns-then-n-ge-STATES
returns-then-n-ge-STATES c =
    let a = c.args in
    let w = c.walk-whole in
    let r = c.refused in
    λ x ok e. gives-21 x a.g a.list.now r.result (big-states x a.g a.list.now (size-most (exp_of x) w.result w.new.rows (w.ensures.2 x ok e) c.if-n-ge-STATES.true)) r.ensures.0 r.ensures.1 r.ensures.2

pub returns-then-count-gt-MOST_RECORDS : goal.returns-then-count-gt-MOST_RECORDS
returns-then-count-gt-MOST_RECORDS c =
    let a = c.args in
    let A = a.list.now in
    let w = c.walk-whole in
    let R = w.new.rows in
    let bd = c.is_bound-bound in
    let n = w.result.size in
    λ x ok e.
    let s : Sums R 1 (exp_of x) w.result = w.ensures.2 x ok e in
    let wk : Walked R w.result bd.result x = (s, bd.ensures.bound x ok e) in
    let ns : n ≡ size (exp_of x) = walk-size R (exp_of x) w.result s (omega (arith, c.if-n-ge-STATES.false)) in
    let few : size (exp_of x) < states = omega (arith, ns, c.if-n-ge-STATES.false) in
    let q : n + 1 ≡ suc (size (exp_of x)) = omega (arith, ns) in
    let ends = c.ends_of-ends in
    let u = c.count_edges in
    let v = c.weigh in
    let all : u.result + 1 + v.result ≡ length (records_of x a.g) = all-count x a.g u.result v.result (n + 1) q (u.ensures.1 x wk q) (ends-count (exp_of x) (set_of ends.result) a.g (ends.ensures R x s few).0 (n + 1) v.result q (v.ensures.1 (n + 1) (omega (arith, ns, few)) (subst (Below (set_of ends.result)) (sym q) (ends.ensures R x s few).1))) in
    let r = c.refused-then-count-gt-MOST_RECORDS in
    gives-21 x a.g A r.result (big-records x a.g A (omega (arith, all, c.if-count-gt-MOST_RECORDS.true))) r.ensures.0 r.ensures.1 r.ensures.2

pub returns-then-list-count : goal.returns-then-list-count
returns-then-list-count c =
    let a = c.args in
    let A = a.list.now in
    let w = c.walk-whole in
    let R = w.new.rows in
    let bd = c.is_bound-bound in
    let n = w.result.size in
    λ x ok e.
    let s : Sums R 1 (exp_of x) w.result = w.ensures.2 x ok e in
    let wk : Walked R w.result bd.result x = (s, bd.ensures.bound x ok e) in
    let ns : n ≡ size (exp_of x) = walk-size R (exp_of x) w.result s (omega (arith, c.if-n-ge-STATES.false)) in
    let few : size (exp_of x) < states = omega (arith, ns, c.if-n-ge-STATES.false) in
    let q : n + 1 ≡ suc (size (exp_of x)) = omega (arith, ns) in
    let ends = c.ends_of-ends in
    let u = c.count_edges in
    let v = c.weigh in
    let all : u.result + 1 + v.result ≡ length (records_of x a.g) = all-count x a.g u.result v.result (n + 1) q (u.ensures.1 x wk q) (ends-count (exp_of x) (set_of ends.result) a.g (ends.ensures R x s few).0 (n + 1) v.result q (v.ensures.1 (n + 1) (omega (arith, ns, few)) (subst (Below (set_of ends.result)) (sym q) (ends.ensures R x s few).1))) in
    let r = c.refused-then-list-count in
    gives-21 x a.g A r.result (big-list x a.g A (omega (arith, all, c.if-list-count.true))) r.ensures.0 r.ensures.1 r.ensures.2

pub sort-requires : goal.sort-requires
sort-requires c =
    let l = c.put_all.auto.list in
    (omega arith, omega (arith, l, c.if-list-count.false), omega (arith, c.if-count-gt-MOST_RECORDS.false))

pub returns : goal.returns
returns c =
    let a = c.args in
    let A = a.list.now in
    let w = c.walk-whole in
    let R = w.new.rows in
    let bd = c.is_bound-bound in
    let n = w.result.size in
    λ x ok e.
    let s : Sums R 1 (exp_of x) w.result = w.ensures.2 x ok e in
    let wk : Walked R w.result bd.result x = (s, bd.ensures.bound x ok e) in
    let ns : n ≡ size (exp_of x) = walk-size R (exp_of x) w.result s (omega (arith, c.if-n-ge-STATES.false)) in
    let few : size (exp_of x) < states = omega (arith, ns, c.if-n-ge-STATES.false) in
    let q : n + 1 ≡ suc (size (exp_of x)) = omega (arith, ns) in
    let ends = c.ends_of-ends in
    let u = c.count_edges in
    let v = c.weigh in
    let all : u.result + 1 + v.result ≡ length (records_of x a.g) = all-count x a.g u.result v.result (n + 1) q (u.ensures.1 x wk q) (ends-count (exp_of x) (set_of ends.result) a.g (ends.ensures R x s few).0 (n + 1) v.result q (v.ensures.1 (n + 1) (omega (arith, ns, few)) (subst (Below (set_of ends.result)) (sym q) (ends.ensures R x s few).1))) in
    let p = c.put_all in
    let B = p.new.list in
    let o = c.sort in
    let C = o.new.list in
    let room : 8 * length (records_of x a.g) ≤ length A = omega (arith, all, c.if-list-count.false) in
    let wr = p.ensures x wk q (ends.ensures R x s few).0 in
    let long = list_length x a.g A B C p.result (u.result + 1 + v.result) wr room all o.ensures.0 in
    gives-0 x a.g A _ C (not-big x a.g A few (omega (arith, all, c.if-count-gt-MOST_RECORDS.false)) room) refl refl (omega (arith, long)) (list_left x a.g A B C p.result (u.result + 1 + v.result) wr room all o.ensures.0)
