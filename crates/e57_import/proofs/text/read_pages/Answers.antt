use Rattle.std.proofs.Common.{◌≡◌, ◌+◌, ◌++◌, ◌∙◌, sym, refl, ap, subst, arith, rules, List, ℕ, length}
use Rattle.e57_import.specs.Reading.{ReadsFront}
use Rattle.e57_import.proofs.WholeFile.{front_first, front_more, front_fails, front_full, has_page}
use Rattle.e57_import.proofs.text.read_pages.Goals as goal

pub loop-n-init : goal.loop-n-init
loop-n-init g c =
    subst (λ (text : List ℕ). ReadsFront 0 (g.S.Source.view c.args.source.now) text (g.S.Source.view c.args.source.now)) (sym c.requires.empty) (front_first (g.S.Source.view c.args.source.now))

pub read_page-requires : goal.read_page-requires
read_page-requires g c =
    has_page c.loop-n.n c.args.count c.loop-n.text.items (g.S.Source.view c.args.source.now) (g.S.Source.view c.loop-n.source) c.loop-n-test.true c.requires.pages c.loop-n.invariant

pub returns-in-Err : goal.returns-in-Err
returns-in-Err g c =
    front_fails c.loop-n.n c.args.count c.read_page.new.out c.loop-n.text.items _ (g.S.Source.view c.args.source.now) (g.S.Source.view c.loop-n.source) (g.S.Source.view c.read_page.new.self)
    c.loop-n-test.true c.loop-n.invariant c.in-Err.ensures

pub returns-in-Err-extend_from_slice : goal.returns-in-Err-extend_from_slice
returns-in-Err-extend_from_slice g c =
    front_full c.loop-n.n c.args.count c.read_page.new.out c.loop-n.text.items c.in_default.field-0 (g.S.Source.view c.args.source.now) (g.S.Source.view c.loop-n.source) (g.S.Source.view c.read_page.new.self)
    c.loop-n-test.true c.loop-n.invariant c.in_default.ensures

pub loop-n-preserved : goal.loop-n-preserved
loop-n-preserved g c =
    subst (λ (text : List ℕ). ReadsFront (c.loop-n.n + 1) (g.S.Source.view c.args.source.now) text (g.S.Source.view c.read_page.new.self)) (sym c.in_default-extend_from_slice.ensures.items)
    (front_more c.loop-n.n c.read_page.new.out c.loop-n.text.items c.in_default.field-0 (g.S.Source.view c.args.source.now) (g.S.Source.view c.loop-n.source) (g.S.Source.view c.read_page.new.self)
    c.read_page.array_long c.loop-n.invariant c.in_default.ensures)

pub returns : goal.returns
returns g c =
    let end : c.loop-n.n ≡ c.args.count = let ends = c.loop-n.auto.n-end in omega (arith, ends, c.loop-n-test.false) in
    subst (λ n. ReadsFront n (g.S.Source.view c.args.source.now) c.loop-n.text.items (g.S.Source.view c.loop-n.source)) end c.loop-n.invariant
