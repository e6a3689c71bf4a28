use Rattle.std.proofs.Common.{rules, sym, w64, true, false}
use Rattle.std.proofs.lemmas.Int.{to_z-of_z}
use Rattle.e57_select.proofs.Looked.{numbered-below}
use Rattle.e57_filter.specs.Asks.{keep_asked}
use Rattle.e57_filter.proofs.Chosen.{no-test, integer-at, not-integer, one-test}
use Rattle.e57_filter.proofs.select.test_of.Goals as goal

pub returns-in_default : goal.returns-in_default
returns-in_default c = λ keeps. no-test c.args.fields.now c.args.j (keep_asked c.args.keep.now) keeps c.in_default.ensures

pub bounds-fields-f : goal.bounds-fields-f
bounds-fields-f c = numbered-below c.args.fields.now c.args.keep.now.field.now c.in-Some.f (sym c.in-Some.ensures)

pub returns-then-not-has_integers : goal.returns-then-not-has_integers
returns-then-not-has_integers c =
    let below = numbered-below c.args.fields.now c.args.keep.now.field.now c.in-Some.f (sym c.in-Some.ensures) in
    λ keeps. not-integer c.args.fields.now c.args.j c.in-Some.f (keep_asked c.args.keep.now) keeps c.in-Some.ensures
    (integer-at c.args.fields.now c.in-Some.f c.index-fields-f.result c.has_integers.result false below c.index-fields-f.is c.has_integers.ensures c.if-not-has_integers.true)

pub returns : goal.returns
returns c =
    let below = numbered-below c.args.fields.now c.args.keep.now.field.now c.in-Some.f (sym c.in-Some.ensures) in
    let whole = integer-at c.args.fields.now c.in-Some.f c.index-fields-f.result c.has_integers.result true below c.index-fields-f.is c.has_integers.ensures c.if-not-has_integers.false in (
      (below, whole),
      λ keeps. one-test c.args.fields.now c.args.j c.in-Some.f (keep_asked c.args.keep.now) keeps _ _ c.in-Some.ensures whole (to_z-of_z w64 c.args.keep.now.low (search rules)) (to_z-of_z w64 c.args.keep.now.high (search rules)),
    )
