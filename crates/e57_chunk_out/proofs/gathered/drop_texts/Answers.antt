use Rattle.std.proofs.Common.{◌≡◌, ℕ, ◌-◌, List, ◌++◌, length, take, drop, subst, sym, ap, ◌∙◌, arith, length-drop}
use Rattle.std.specs.List.{AllByRecursion}
use Rattle.std.proofs.lemmas.List.{take_at, length-take-le}
use Rattle.e57_chunk_out.specs.Texts.{AreEnds, IsMovable, moved_ends}
use Rattle.e57_chunk_out.proofs.Strings.{begin_at, ends-begin, begin_at-take}
use Rattle.e57_chunk_out.proofs.Behind.{last_of, last_of-take, last-within, ends-movable, left-within, are-left}
use Rattle.e57_chunk_out.proofs.gathered.drop_texts.Goals as goal

pub let_go-requires : goal.let_go-requires
let_go-requires c =
    let long = length-take-le c.args.until c.args.ends.now c.requires.there.1 in
    let here = take c.args.until c.args.ends.now in
    let cut : c.begin_of-cut.result ≡ begin_at 0 here c.args.n = c.begin_of-cut.ensures ∙ sym (begin_at-take c.args.n c.args.until 0 c.args.ends.now c.requires.there.0) in
    let used : c.begin_of-used.result ≡ last_of 0 here = c.begin_of-used.ensures ∙ sym (last_of-take c.args.until c.args.ends.now c.requires.there.1) in
    let order = ends-begin (last_of 0 here) (begin_at 0 here c.args.n) (drop c.args.n here) (left-within (length c.args.held.now) c.args.n here c.requires.held (omega (arith, long, c.requires.there.0))) in
    let inside = last-within (length c.args.held.now) 0 here c.requires.held in
    (omega (arith, cut, used, order), omega (arith, used, inside.1))

pub move_ends-requires : goal.move_ends-requires
move_ends-requires c =
    let long = length-take-le c.args.until c.args.ends.now c.requires.there.1 in
    let here = take c.args.until c.args.ends.now in
    let cut : c.begin_of-cut.result ≡ begin_at 0 here c.args.n = c.begin_of-cut.ensures ∙ sym (begin_at-take c.args.n c.args.until 0 c.args.ends.now c.requires.there.0) in
    let used : c.begin_of-used.result ≡ last_of 0 here = c.begin_of-used.ensures ∙ sym (last_of-take c.args.until c.args.ends.now c.requires.there.1) in
    let later = left-within (length c.args.held.now) c.args.n here c.requires.held (omega (arith, long, c.requires.there.0)) in
    subst (λ (xs : List ℕ). AllByRecursion (IsMovable c.begin_of-cut.result 0) xs) (sym c.let_go-2.ensures)
    (ends-movable (last_of 0 here) c.begin_of-cut.result 0 c.begin_of-cut.result (drop c.args.n here) (omega arith) (omega (arith, used, c.begin_of-used.type_inv))
    (subst (λ k. AreEnds (last_of 0 here) k (drop c.args.n here)) (sym cut) later))

pub returns : goal.returns
returns c =
    let long = length-take-le c.args.until c.args.ends.now c.requires.there.1 in
    let here = take c.args.until c.args.ends.now in
    let cut : c.begin_of-cut.result ≡ begin_at 0 here c.args.n = c.begin_of-cut.ensures ∙ sym (begin_at-take c.args.n c.args.until 0 c.args.ends.now c.requires.there.0) in
    let used : c.begin_of-used.result ≡ last_of 0 here = c.begin_of-used.ensures ∙ sym (last_of-take c.args.until c.args.ends.now c.requires.there.1) in
    let inside = last-within (length c.args.held.now) 0 here c.requires.held in
    let many : length c.move_ends.new.ends ≡ c.args.until - c.args.n = c.move_ends.auto.ends ∙ ap (λ (xs : List ℕ). length xs) c.let_go-2.ensures ∙ length-drop c.args.n here ∙ ap (λ k. k - c.args.n) long in
    are-left c.args.held.now c.let_go.new.items here (take (c.args.until - c.args.n) (c.move_ends.new.ends ++ drop (c.args.until - c.args.n) c.let_go-2.new.items)) c.args.n c.begin_of-cut.result c.begin_of-used.result
    c.requires.held (omega (arith, long, c.requires.there.0)) cut used c.let_go.ensures (omega (arith, used, inside.1, c.let_go.auto.items))
    (take_at c.move_ends.new.ends (drop (c.args.until - c.args.n) c.let_go-2.new.items) (c.args.until - c.args.n) many ∙ c.move_ends.ensures ∙ ap (moved_ends c.begin_of-cut.result 0) c.let_go-2.ensures)
