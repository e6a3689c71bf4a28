use Rattle.std.proofs.Common.{◌≡◌, ◌∙◌, ◌+◌, ◌++◌, ◌∷◌, [], List, subst, pos, slice_index_or}
use Rattle.e57_filter.specs.declared.keep.Limits.{Limits}
use Rattle.e57_filter.specs.declared.select.FieldTest.{FieldTest}
use Rattle.e57_filter.proofs.Opening.{limits-more}
use Rattle.e57_filter.proofs.section.block_limits.Goals as goal

pub loop-j-preserved : goal.loop-j-preserved
loop-j-preserved c =
    let none : FieldTest = record { field = 0; low = pos 0; high = pos 0 } in
    let t = slice_index_or c.args.tests.now c.loop-j.j none in
    let item : Limits = record { block = c.args.first + c.loop-j.j; low = t.low; high = t.high } in
    subst (λ (xs : List Limits). c.push.new.self.items ≡ xs ++ item ∷ []) c.loop-j.invariant
    (subst (λ (x : Limits). c.push.new.self.items ≡ c.loop-j.limits.items ++ x ∷ []) c.limits_of.ensures c.in_ok-push.ensures.items)
    ∙ limits-more c.args.first c.loop-j.j c.args.tests.now none c.loop-j-test.true
