use Rattle.std.proofs.Common.{◌≡◌, ◌+◌, ◌*◌, suc, arith}
use Rattle.e57_index.proofs.Listed.{has-inner, has-last}
use Rattle.e57_index.proofs.entries.pick.Goals as goal

pub returns-then-k-count : goal.returns-then-k-count
returns-then-k-count c =
    let k = c.last_at_most-k.result in
    let more = c.if-k-count.true in
    let picked = c.entry-picked.ensures in
    let next = c.entry.ensures in
    let zero_of : 0 + 16 * k ≡ 16 * k = omega arith in
    let zero_next : 0 + 16 * (k + 1) ≡ 16 * (k + 1) = omega arith in
    record {
      has = rw (picked, next) (rw (zero_of, zero_next) at (has-inner c.args.entries.now c.args.bound 0 c.args.count k more));
      low = rw picked c.last_at_most-k.ensures.low;
      high = rw next (c.last_at_most-k.ensures.high more);
    }

pub returns : goal.returns
returns c =
    let k = c.last_at_most-k.result in
    let last = c.if-k-count.false in
    let there = c.last_at_most-k.ensures.there in
    let picked = c.entry-picked.ensures in
    let zero_of : 0 + 16 * k ≡ 16 * k = omega arith in
    let count : c.args.count ≡ suc k = omega (arith, last, there) in
    record {
      has = rw (picked, count) (rw zero_of at (has-last c.args.entries.now c.args.bound 0 k));
      low = rw picked c.last_at_most-k.ensures.low;
      high = c.requires.high;
    }
