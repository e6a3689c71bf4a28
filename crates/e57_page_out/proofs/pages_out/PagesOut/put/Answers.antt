use Rattle.std.proofs.Common.{rules, ◌≡◌, ◌+◌, ◌-◌, ◌*◌, ◌++◌, min, take, drop, length, false, true, ap, subst, ◌∙◌, arith}
use Rattle.std.specs.Option.{option_map}
use Rattle.e57_page_out.specs.Buffer.{writing}
use Rattle.e57_page_out.specs.Writing.{Writes, IsTooLarge}
use Rattle.e57_page_out.proofs.States.{sound_state}
use Rattle.e57_page_out.proofs.Steps.{by_sound}
use Rattle.e57_page_out.proofs.Putting.{HasPut, page_of, place_fits, before_end, put_none, put_next, put_all, too_large}
use Rattle.e57_page_out.proofs.pages_out.PagesOut.put.Goals as goal

pub returns-then-bytes-start : goal.returns-then-bytes-start
returns-then-bytes-start g c =
    let view = g.T.Target.view in
    let inside = c.self.inside in
    record {
      put = by_sound view inside.target inside.buffer inside.is_spent c.args.self.now
          (λ now spent. c.size-start.result ≡ now.size → IsTooLarge view now (length c.args.bytes.now) (writing view inside.target inside.buffer true))
          c.self.view_is c.requires.unspent c.self.invariant
          (λ sound start. too_large view inside.target inside.buffer (length c.args.bytes.now) c.size-start.result sound start c.if-bytes-start.true)
          c.size-start.ensures.size;
    }

pub loop-n-init : goal.loop-n-init
loop-n-init g c =
    let view = g.T.Target.view in
    let inside = c.self.inside in
    record {
      put = by_sound view inside.target inside.buffer inside.is_spent c.args.self.now
          (λ now spent. HasPut view now inside.buffer.number c.args.bytes.now now)
          c.self.view_is c.requires.unspent c.self.invariant
          (λ sound. put_none view (writing view inside.target inside.buffer false) inside.buffer.number c.args.bytes.now (sound_state view inside.target inside.buffer sound) (omega arith));
    }

pub before_page-done-requires : goal.before_page-done-requires
before_page-done-requires g c =
    let view = g.T.Target.view in
    let inside = c.self.inside in
    let bytes = c.args.bytes.now in
    let page = page_of view inside.target inside.buffer inside.is_spent c.args.self.now c.loop-n.n (length bytes) c.size-start.result c.page_count-n-end.result c.self.view_is c.requires.unspent c.self.invariant c.size-start.ensures.size c.if-bytes-start.false c.page_count-n-end.ensures c.loop-n.auto.n c.loop-n-test.true in
    let fits = place_fits c.args.self.now.size c.loop-n.n (length bytes) page in
    omega arith

pub before_page-requires : goal.before_page-requires
before_page-requires g c =
    let view = g.T.Target.view in
    let inside = c.self.inside in
    let bytes = c.args.bytes.now in
    let page = page_of view inside.target inside.buffer inside.is_spent c.args.self.now c.loop-n.n (length bytes) c.size-start.result c.page_count-n-end.result c.self.view_is c.requires.unspent c.self.invariant c.size-start.ensures.size c.if-bytes-start.false c.page_count-n-end.ensures c.loop-n.auto.n c.loop-n-test.true in
    place_fits c.args.self.now.size c.loop-n.n (length bytes) page

pub prove-unreachable-requires : goal.prove-unreachable-requires
prove-unreachable-requires g c =
    let view = g.T.Target.view in
    let inside = c.self.inside in
    let bytes = c.args.bytes.now in
    let page = page_of view inside.target inside.buffer inside.is_spent c.args.self.now c.loop-n.n (length bytes) c.size-start.result c.page_count-n-end.result c.self.view_is c.requires.unspent c.self.invariant c.size-start.ensures.size c.if-bytes-start.false c.page_count-n-end.ensures c.loop-n.auto.n c.loop-n-test.true in
    let done = c.before_page-done.ensures ∙ ap (λ k. 1020 * c.loop-n.n - k) c.size-start.ensures.size in
    let end = c.min-end.ensures ∙ ap (λ k. min k (length bytes)) (c.before_page.ensures ∙ ap (λ k. 1020 * (c.loop-n.n + 1) - k) c.size-start.ensures.size) in
    let order = before_end c.args.self.now.size c.loop-n.n (length bytes) page in
    let past = c.if-prove.true in
    omega arith

pub loop-n-preserved : goal.loop-n-preserved
loop-n-preserved g c =
    let view = g.T.Target.view in
    let inside = c.self.inside in
    let bytes = c.args.bytes.now in
    let page = page_of view inside.target inside.buffer inside.is_spent c.args.self.now c.loop-n.n (length bytes) c.size-start.result c.page_count-n-end.result c.self.view_is c.requires.unspent c.self.invariant c.size-start.ensures.size c.if-bytes-start.false c.page_count-n-end.ensures c.loop-n.auto.n c.loop-n-test.true in
    let done = c.before_page-done.ensures ∙ ap (λ k. 1020 * c.loop-n.n - k) c.size-start.ensures.size in
    let end = c.min-end.ensures ∙ ap (λ k. min k (length bytes)) (c.before_page.ensures ∙ ap (λ k. 1020 * (c.loop-n.n + 1) - k) c.size-start.ensures.size) in
    let mid = c.loop-n.self in
    let next = subst (λ d. Writes view mid (option_map (λ so_far. so_far ++ take (c.min-end.result - d) (drop d bytes)) mid.told_bytes) (mid.size + length (take (c.min-end.result - d) (drop d bytes))) mid.held c.put_piece.new.self) done c.in_default.ensures in
    record { put = put_next view c.args.self.now mid c.loop-n.n c.min-end.result bytes page c.loop-n.invariant.put end c.put_piece.new.self next }

pub returns : goal.returns
returns g c = record { put = put_all g.T.Target.view c.args.self.now c.loop-n.self c.loop-n.n c.args.bytes.now c.loop-n.invariant.put (let pages = c.page_count-n-end.ensures in let start = c.size-start.ensures.size in let past = c.loop-n-test.false in search rules) }
